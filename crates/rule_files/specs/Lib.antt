-- What the contracts of rule files cite.
-- Assumes nothing.
pub mod Standing
