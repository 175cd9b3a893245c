pub mod Words
pub mod Faults
pub mod ExpressionTrees
pub mod Outcomes
pub mod Valuations
pub mod InnerNodes
pub mod InnerReadings
pub mod Calls
