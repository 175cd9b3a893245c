pub mod Codes
pub mod Declarations
pub mod Frames
pub mod Overlays
pub mod InnerParts
pub mod Shown
pub mod State
pub mod Statuses
