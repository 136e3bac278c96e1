pub mod Pieces
pub mod Statements
pub mod Guidelines
pub mod Undefined
pub mod Runs
