pub mod Asking
pub mod Targets
