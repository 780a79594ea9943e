pub mod Written
pub mod Right
pub mod Starred
