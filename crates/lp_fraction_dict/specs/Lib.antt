pub mod Rows
pub mod Lines
pub mod InnerChoice
pub mod First
pub mod Tableau
pub mod InnerPricing
pub mod Pivots
pub mod Reading
