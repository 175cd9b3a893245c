mod FirstFile
pub mod Counting
pub mod WrittenPrefixes
pub mod Spools
