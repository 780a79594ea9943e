pub mod Tests
pub mod Bisimulation
pub mod Tables
pub mod RuleTests
pub mod Machines
pub mod Cases
