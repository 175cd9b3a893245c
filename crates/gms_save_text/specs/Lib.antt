pub mod Reading
pub mod SavedState
pub mod Validity
