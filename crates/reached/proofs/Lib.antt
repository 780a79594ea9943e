pub mod ReachedSets
pub mod NodeParts
pub mod NodeSets
