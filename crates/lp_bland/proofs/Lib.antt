pub mod Naturality
pub mod SameSteps
pub mod Eased
pub mod Widened
pub mod Few
pub mod Answered
