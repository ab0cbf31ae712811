pub mod TablePromises
pub mod VisitPromises
pub mod EditPromises
