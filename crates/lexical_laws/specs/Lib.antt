pub mod Places
pub mod Comments
pub mod Classes
pub mod Lexemes
pub mod Parts
pub mod Keywords
pub mod Values
