pub mod Answers
pub mod Named
pub mod Boards
pub mod Meanings
pub mod SpareNodes
