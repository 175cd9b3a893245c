pub mod Faults
pub mod JointErrors
pub mod InnerRestartChecks
pub mod InnerRestoreSteps
pub mod Saves
