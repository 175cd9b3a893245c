pub mod Assigning
pub mod Changes
pub mod Entries
pub mod GivenStates
pub mod LeftSides
pub mod MemberSets
pub mod MemberTrees
pub mod OtherTrees
pub mod Overlays
pub mod Positions
pub mod Putting
mod ActSteps
mod Acts
mod Arms
mod BodyDepths
pub mod Assigned
mod Chosen
mod Folding
mod Joining
mod Keeping
pub mod KeptSettings
pub mod Levels
mod OneSolver
pub mod Newest
pub mod Staying
pub mod Symbols
pub mod EarlierEvents
pub mod Quiet
pub mod ValidCalls
mod Decimals
mod SolveRuns
mod ValidSequences
mod Stepping
mod Loops
mod AfterSolve
pub mod Once
