pub mod Building
pub mod BuiltSlots
pub mod Minimising
pub mod Sequences
pub mod Slots
pub mod PartRows
