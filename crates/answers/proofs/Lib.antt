pub mod SignedLaws
pub mod FoundLaws
