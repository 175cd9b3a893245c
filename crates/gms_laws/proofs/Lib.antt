pub mod Answered
pub mod Carried
pub mod Programs
pub mod Instances
pub mod Meanings
pub mod Moments
pub mod Definitions
pub mod Meant
pub mod Promised
mod AcceptedSources
mod AssignedEntries
mod ChosenElements
mod ComputedModels
mod Executions
mod FaultlessStatements
pub mod GeneratedSizes
mod KeptEntries
mod LastGiven
mod LocalTexts
mod Occurring
mod OnePart
mod OneTable
mod OrderedData
mod ReadModes
mod ShortNumerals
mod SoundTokens
mod SourcePieces
mod SourcePrograms
mod SourceTests
mod StatementPlaces
mod TakenTrees
mod TextedTokens
mod TreePlaces
