pub mod Reading
pub mod ReadFrom
