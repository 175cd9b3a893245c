pub mod InnerNarrowing
