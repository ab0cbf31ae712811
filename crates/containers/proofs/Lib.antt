pub mod RecordLoop
pub mod RunLaws
pub mod ContainerLaws
pub mod EventLoop
pub mod FileLaws
pub mod FileParts
