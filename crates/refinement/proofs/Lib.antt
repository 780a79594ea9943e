pub mod Beginning
pub mod Counted
pub mod Refining
pub mod Stable
