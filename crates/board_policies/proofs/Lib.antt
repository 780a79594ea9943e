pub mod RunPolicies
pub mod Permits
