mod Ways
pub mod Orders
mod Empties
mod Belows
mod Listed
mod Ascents
mod Assigned
mod BodyDepths
mod Begins
