pub mod Marking
pub mod Placed
