pub mod Survey
pub mod Scans
