pub mod Denials
pub mod Explains
pub mod Calling
pub mod Reading
