mod Faultless
mod Forms
mod PrintedLines
mod Parts
mod PlainWords
pub mod RequestedSizes
mod Rows
mod Sizes
pub mod Appended
pub mod Same
pub mod Says
