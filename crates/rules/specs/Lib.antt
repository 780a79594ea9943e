pub mod Rules
pub mod Codes
pub mod Steps
