pub mod Structures
pub mod Writes
