pub mod EventView
pub mod Events
pub mod Endings
