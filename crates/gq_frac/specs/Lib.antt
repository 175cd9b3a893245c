pub mod Frac
pub mod Steps
