pub mod EntriesRange
