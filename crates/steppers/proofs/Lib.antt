pub mod Tupling
