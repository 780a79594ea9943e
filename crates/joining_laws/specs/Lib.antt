pub mod Answers
pub mod Conjunction
pub mod Sets
pub mod Groups
pub mod Boards
pub mod Policies
