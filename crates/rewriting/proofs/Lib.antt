pub mod CopyLoop
pub mod RecordCopy
pub mod ContainerCopy
pub mod ContainerLoop
pub mod FileCopy
pub mod RewriteCall
