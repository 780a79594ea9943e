pub mod EntryTexts
pub mod Lengths
pub mod Examples
