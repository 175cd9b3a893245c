pub mod Bounds
pub mod WithinBound
pub mod Pairs
pub mod InnerChoice
pub mod Whole
