pub mod Affine
pub mod Forms
pub mod Keys
pub mod InnerMerging
pub mod InnerOperations
pub mod Sums
pub mod Shown
