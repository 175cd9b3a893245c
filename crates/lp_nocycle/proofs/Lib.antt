pub mod Sparse
pub mod Agreeing
pub mod Units
pub mod Runs
pub mod Level
pub mod Fickle
pub mod Pigeons
pub mod Places
pub mod Following
pub mod Counts
pub mod Answering
pub mod AnsweringTurn
pub mod Doubled
pub mod SameForm
mod Examples
