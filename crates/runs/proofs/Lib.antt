pub mod Rules
pub mod Places
pub mod State
pub mod Actions
pub mod Refusals
pub mod Runs
pub mod Reports
pub mod Holding
