pub mod NodeKinds
