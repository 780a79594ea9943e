pub mod Session
pub mod TextTables
pub mod SpareSheets
