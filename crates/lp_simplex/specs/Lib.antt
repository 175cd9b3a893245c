pub mod InnerStates
pub mod InnerEnds
pub mod Choices
pub mod Only
pub mod Turn
pub mod InnerNext
pub mod InnerCounting
