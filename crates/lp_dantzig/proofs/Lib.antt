pub mod Nexts
pub mod Greatest
pub mod Only
