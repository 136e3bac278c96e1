pub mod Codings
pub mod Commands
pub mod Laws
pub mod Parts
pub mod Rows
pub mod Taking
pub mod Variants
