pub mod Fitting
pub mod Causes
pub mod ActionCauses
pub mod Laws
