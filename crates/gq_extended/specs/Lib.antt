pub mod Extended
pub mod ExtendedOrder
pub mod Meaning
pub mod Powers
