pub mod Passed
pub mod SameCodes
pub mod NodeRuns
pub mod SlotTables
pub mod BuiltNodes
pub mod Standing
pub mod WrittenTables
pub mod Judgements
