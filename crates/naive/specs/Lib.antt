-- What the contracts of the second implementation cite.
-- Assumes nothing.
pub mod Bytes
pub mod Marks
pub mod Nodes
pub mod Sequences
pub mod Truths
pub mod Types
