pub mod Meaning
pub mod Rules
pub mod Counts
pub mod MemoryState
pub mod RealState
pub mod Spooling
