pub mod Calls
pub mod First
pub mod Places
pub mod Stores
pub mod Telling
