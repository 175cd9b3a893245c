pub mod Cheapest
pub mod Denominators
pub mod Each
pub mod Few
pub mod Measured
pub mod Shuffled
