pub mod TableLaws
pub mod SearchLaws
