pub mod Written
pub mod NodeBack
pub mod ReadBack
pub mod Lists
pub mod NodesWritten
pub mod SheetWritten
pub mod WrittenBack
