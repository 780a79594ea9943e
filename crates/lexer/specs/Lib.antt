pub mod Next
pub mod Tables
