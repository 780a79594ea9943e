pub mod Kinds
pub mod Bytes
pub mod Sheets
pub mod Writing
