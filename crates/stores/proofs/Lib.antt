pub mod StoreLaws
pub mod WriterLaws
pub mod StructureLaws
pub mod NumberedLaws
