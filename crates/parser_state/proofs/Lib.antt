pub mod Packing
pub mod ClosedNodes
pub mod TakenWords
