pub mod SameUsed
pub mod FirstFault
