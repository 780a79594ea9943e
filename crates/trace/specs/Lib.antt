pub mod Trace
pub mod Limits
