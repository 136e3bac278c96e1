-- The definitions that contracts cite.
pub mod Transfers
pub mod Graphs
pub mod PointLists
pub mod Tables
pub mod Frames
pub mod Strings
pub mod Threads
pub mod Stops
