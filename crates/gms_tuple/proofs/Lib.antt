pub mod Combined
pub mod Forks
pub mod Lines
pub mod Members
pub mod Ordered
pub mod Spans
pub mod Steps
pub mod Turns
