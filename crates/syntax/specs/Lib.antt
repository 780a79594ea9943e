pub mod Nodes
pub mod Shape
pub mod Faults
pub mod Formed
pub mod Types
pub mod Meaning
