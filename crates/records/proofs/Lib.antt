pub mod ReadBack
pub mod Words
