pub mod Causes
pub mod Keepable
pub mod Keeping
pub mod Keys
pub mod Tables
