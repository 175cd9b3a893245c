-- These names have the form of a solver's name.
use Rattle.std.proofs.Common.{codes, refl, arith}
use Rattle.lp_slot.specs.SolverNames.{IsSolverName}

pub bland_is_name : IsSolverName (codes "bland")
bland_is_name = record { letter = refl; plain = refl; short = omega arith; not_none = refl }

-- `greatest`, the name of the solver in the crate's tests, has the form of a solver's name
pub greatest_is_name : IsSolverName (codes "greatest")
greatest_is_name = record { letter = refl; plain = refl; short = omega arith; not_none = refl }
