pub mod Meaning
pub mod InnerSteps
pub mod Last
pub mod Recovery
pub mod Points
