pub mod TraceLaws
pub mod SearchLaws
pub mod CallLaws
