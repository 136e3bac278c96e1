pub mod Accessing
pub mod Moments
pub mod Breaking
pub mod Telling
pub mod Hearing
