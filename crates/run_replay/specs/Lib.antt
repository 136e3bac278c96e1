pub mod Choices
pub mod Steps
pub mod Ends
pub mod Replays
pub mod Laws
