pub mod Judge
pub mod JudgedFrom
pub mod Malformed
