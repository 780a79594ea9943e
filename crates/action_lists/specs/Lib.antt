pub mod ActionLists
pub mod AskedLists
