pub mod Walks
pub mod ReachedNodes
pub mod Findings
pub mod Standing
