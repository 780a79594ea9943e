pub mod AreaLaws
pub mod CaseLaws
