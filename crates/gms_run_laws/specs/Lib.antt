pub mod Agreeing
pub mod Names
pub mod JointRun
pub mod Labels
pub mod LastStates
pub mod Reached
pub mod Extensions
