pub mod Encoding
pub mod Fitting
pub mod Lowest
pub mod Moves
pub mod Reading
pub mod RuleParts
pub mod Slots
pub mod Stepping
