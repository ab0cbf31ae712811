pub mod BoundLaws
pub mod CloseLaws
