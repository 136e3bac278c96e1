pub mod Things
pub mod Faults
pub mod Names
pub mod Readings
