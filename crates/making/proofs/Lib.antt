pub mod LentAreas
pub mod TableBytes
pub mod Calls
