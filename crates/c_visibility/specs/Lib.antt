pub mod Library
pub mod Spelling
pub mod Typedefs
pub mod Recalls
pub mod Text
pub mod Scopes
pub mod Seen
pub mod Knowledge
