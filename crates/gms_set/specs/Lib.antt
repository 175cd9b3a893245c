pub mod Expansion
pub mod Faults
pub mod Ranges
pub mod InnerGiven
