pub mod Exports
pub mod Compiling
pub mod Joining
pub mod Explaining
pub mod Texts
