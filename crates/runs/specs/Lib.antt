pub mod Events
pub mod Runs
pub mod Verdicts
pub mod Holding
