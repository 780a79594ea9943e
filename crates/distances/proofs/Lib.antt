pub mod Measured
pub mod Numbers
pub mod Shortest
