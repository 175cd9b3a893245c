pub mod Turning
pub mod Lessening
pub mod Updating
pub mod Plans
pub mod Putting
pub mod Results
pub mod Filling
