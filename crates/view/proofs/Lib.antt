pub mod ViewLaws
pub mod StepLaws
pub mod Calling
