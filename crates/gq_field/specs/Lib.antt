pub mod FieldLaws
pub mod Fits
pub mod Parts
pub mod Values
