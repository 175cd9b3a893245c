mod Choosing
pub mod FromNumbers
pub mod Joints
pub mod LoadedNames
mod LoopDepths
mod Restarts
mod Restored
mod SavedNames
pub mod SeenActs
pub mod SeenJoints
pub mod SeenPrograms
