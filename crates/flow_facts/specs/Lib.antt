-- What contracts see of the points and of the facts.
pub mod Points
pub mod Expanded
pub mod Paths
pub mod Targets
pub mod States
pub mod Orders
pub mod Locations
pub mod Told
pub mod Exact
pub mod Classes
