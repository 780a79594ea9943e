pub mod Demands
pub mod SpareNodes
pub mod Answers
