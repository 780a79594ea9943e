pub mod Lists
pub mod Next
