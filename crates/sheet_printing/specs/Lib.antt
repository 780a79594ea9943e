pub mod SheetText
