pub mod Eaches
pub mod Values
pub mod Linear
pub mod FormKeys
pub mod RowElements
pub mod Points
pub mod ModelRows
pub mod Changing
pub mod Assigning
pub mod Running
pub mod Later
mod Labelled
pub mod Persisting
pub mod Reaching
pub mod OnceInRuns
pub mod Tidying
pub mod LastStates
pub mod TidyLoaded
pub mod Lasting
mod MarkedTrees
mod LinearSides
pub mod DeclaredKinds
pub mod Starting
pub mod EachDefinition
pub mod LinearDefinitions
pub mod DeclaredStates
pub mod FewPositions
mod UnsolvedLoaded
pub mod LoadedPositions
pub mod StaticDomains
pub mod ElementLabels
mod KeyedRows
mod ElementForms
mod SolvedElements
pub mod CleanNames
pub mod Declared
pub mod ProgramNames
pub mod Closing
pub mod Padding
pub mod Keeping
pub mod Begins
pub mod Models
pub mod Equations
pub mod SolvesAlike
