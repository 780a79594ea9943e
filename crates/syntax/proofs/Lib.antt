pub mod EqualParts
pub mod NodeTypes
pub mod Modes
