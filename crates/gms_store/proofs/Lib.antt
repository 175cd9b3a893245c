mod Frames
pub mod Maps
pub mod Overlays
pub mod Parts
pub mod Refilling
pub mod Views
pub mod Writes
