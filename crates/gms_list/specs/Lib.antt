pub mod Amounts
pub mod Conditions
pub mod InnerLineEnds
pub mod ListingText
pub mod SolveText
pub mod InnerSolves
