pub mod ByLength
pub mod Scanning
pub mod Spelled
