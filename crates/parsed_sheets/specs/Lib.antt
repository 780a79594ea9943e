pub mod Sheets
pub mod Bounds
