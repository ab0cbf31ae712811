pub mod Drafts
pub mod SignedLaws
pub mod HistoryLaws
