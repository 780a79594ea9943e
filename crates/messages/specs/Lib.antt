pub mod Adding
pub mod Message
