pub mod OperandNodes
pub mod ExpressionNodes
pub mod SpecifierNodes
pub mod DeclaratorNodes
pub mod ExternalNodes
pub mod StatementNodes
pub mod SwitchNodes
pub mod Nodes
