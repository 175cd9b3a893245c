pub mod Cycling
pub mod PivotCount
pub mod Turns
