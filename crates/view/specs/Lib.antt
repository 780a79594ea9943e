pub mod View
pub mod Possible
pub mod Moves
pub mod Steps
pub mod Calls
