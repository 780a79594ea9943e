pub mod Refining
