pub mod CopyLaws
pub mod SectionLaws
