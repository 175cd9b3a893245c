pub mod Ends
pub mod Least
pub mod Name
