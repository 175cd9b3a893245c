pub mod Alike
pub mod StatementLines
pub mod JointPrograms
pub mod Restarts
pub mod Labels
pub mod LastStates
