pub mod Nodes
pub mod FormulaSets
pub mod Lowering
pub mod SheetRules
