pub mod Written
pub mod Made
