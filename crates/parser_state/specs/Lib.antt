pub mod Packed
pub mod Progress
