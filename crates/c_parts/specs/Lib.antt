pub mod Chains
pub mod GroupedKinds
pub mod Kinds
pub mod PartData
pub mod PartViews
pub mod Reading
