pub mod Tables
pub mod Meaning
pub mod Joins
pub mod Calling
pub mod Reading
