pub mod RowSums
pub mod Duality
pub mod Rays
pub mod Checks
pub mod Points
pub mod ShapeSteps
pub mod Rules
pub mod Optimum
mod Examples
