pub mod Asking
pub mod Examples
pub mod Naming
pub mod Reading
pub mod Uniting
