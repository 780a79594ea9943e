pub mod Slots
pub mod Makes
