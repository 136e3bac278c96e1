pub mod Choosing
pub mod Expanding
pub mod Moving
pub mod Standing
