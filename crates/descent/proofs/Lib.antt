pub mod Arms
pub mod Misfits
pub mod Parts
pub mod WholeText
