pub mod Outcomes
pub mod Exactly
pub mod FewWords
pub mod Written
pub mod Passing
pub mod Compiled
pub mod Boards
