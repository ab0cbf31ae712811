pub mod Buffers
pub mod EditedCalls
