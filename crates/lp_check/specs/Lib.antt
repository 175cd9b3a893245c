pub mod BoundSteps
pub mod Partials
