pub mod Catalogue
pub mod Numbers
