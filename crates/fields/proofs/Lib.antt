pub mod Fielding
pub mod Listed
