pub mod Agreement
pub mod Meanings
pub mod Sound
pub mod Typings
