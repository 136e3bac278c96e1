pub mod Changed
pub mod Filters
pub mod Placed
pub mod Sorted
