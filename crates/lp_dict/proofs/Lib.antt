pub mod Numbers
pub mod Kept
pub mod Follows
pub mod Parts
pub mod Filled
pub mod Finals
pub mod Opens
pub mod Readings
