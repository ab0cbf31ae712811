pub mod FillLaws
pub mod EventFillLaws
pub mod FileFillLaws
pub mod TableLaws
