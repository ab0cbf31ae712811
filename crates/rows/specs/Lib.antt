pub mod Buffers
pub mod Values
