pub mod Machine
pub mod Partition
pub mod Quotient
pub mod Minimal
