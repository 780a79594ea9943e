pub mod Fields
pub mod ReadNodes
pub mod ReadFrom
