pub mod Spans
pub mod Ranges
pub mod Moved
pub mod InnerSteps
