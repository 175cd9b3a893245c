pub mod Lines
pub mod Places
pub mod Words
pub mod Differences
pub mod Clearing
pub mod Each
pub mod Picking
pub mod Topmost
