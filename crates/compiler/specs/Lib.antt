pub mod Limits
pub mod Compiles
pub mod Refusals
pub mod Building
pub mod Calling
