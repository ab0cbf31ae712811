pub mod SampleLaws
pub mod PartLaws
