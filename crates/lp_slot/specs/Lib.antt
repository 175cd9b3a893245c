pub mod SolverNames
pub mod Under
