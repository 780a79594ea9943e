pub mod Words
pub mod Spelling
pub mod Grammar
pub mod Productions
pub mod Nodes
pub mod Language
