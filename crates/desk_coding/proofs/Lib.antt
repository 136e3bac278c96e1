pub mod Commands
pub mod Exactness
pub mod Loops
pub mod Parts
pub mod Rows
pub mod Tagged
pub mod Wholes
