pub mod History
pub mod Unread
