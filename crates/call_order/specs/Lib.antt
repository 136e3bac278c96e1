-- The definitions that contracts cite.
pub mod Marks
pub mod Orders
pub mod Placings
pub mod Stops
