pub mod Machines
pub mod Minimises
pub mod Builds
