pub mod Tableau
pub mod InnerReading
pub mod InnerConversions
