pub mod Judging
pub mod JudgedFrom
pub mod Malformed
pub mod Unread
