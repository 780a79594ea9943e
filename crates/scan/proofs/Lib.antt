pub mod Parts
pub mod Seeing
pub mod Surveying
pub mod Scanning
