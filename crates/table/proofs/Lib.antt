pub mod Formed
pub mod SharedRows
pub mod Verdicts
pub mod Loading
