pub mod Columns
pub mod ElementTexts
