pub mod Walking
pub mod Laying
pub mod TupleRuns
pub mod Meeting
