-- What the contracts of the corpus cite.
-- Assumes nothing.
pub mod Numbers
pub mod Progress
