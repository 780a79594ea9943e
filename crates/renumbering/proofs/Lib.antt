pub mod Numbering
pub mod Equivalence
pub mod Meanings
pub mod Types
pub mod FirstFault
pub mod Judged
pub mod Alike
pub mod Leftover
