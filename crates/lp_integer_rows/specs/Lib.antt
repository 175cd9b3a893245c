pub mod Turning
pub mod Marks
pub mod Form
pub mod Parts
