pub mod Lists
pub mod Syntax
pub mod Trees
