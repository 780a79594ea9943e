pub mod Changes
pub mod Calls
pub mod Unread
pub mod HistoryRun
pub mod History
