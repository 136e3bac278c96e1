pub mod Counting
pub mod Once
pub mod Spotting
