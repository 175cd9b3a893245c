pub mod Deepest
pub mod TreeEquations
