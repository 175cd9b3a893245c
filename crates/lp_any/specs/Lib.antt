pub mod InnerImproving
pub mod SteepestName
pub mod Costs
pub mod Denominators
pub mod Measures
pub mod Members
pub mod Name
pub mod Shuffles
