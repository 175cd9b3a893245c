pub mod Labels
pub mod Table
