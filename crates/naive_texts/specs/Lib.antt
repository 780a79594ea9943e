-- What the contracts of the second reader of texts cite.
-- Assumes nothing.
pub mod Answers
pub mod Reading
