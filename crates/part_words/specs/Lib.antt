pub mod Kinds
pub mod Parts
pub mod Places
pub mod Denier
pub mod Propositions
