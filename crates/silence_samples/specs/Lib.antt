pub mod Samples
pub mod Locked
