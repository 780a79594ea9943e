pub mod FieldLaws
pub mod KindLaws
pub mod PartLaws
pub mod PlaceLaws
pub mod DenierLaws
mod Example
pub mod PropositionLaws
