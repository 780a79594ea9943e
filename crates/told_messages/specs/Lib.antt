pub mod Misfits
pub mod Told
