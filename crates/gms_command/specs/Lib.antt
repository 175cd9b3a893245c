pub mod CommandLine
pub mod Laws
pub mod RangeTexts
pub mod Answered
