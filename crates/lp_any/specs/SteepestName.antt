-- This name has the form of a solver's name.
use Rattle.std.proofs.Common.{codes, refl, arith}
use Rattle.lp_slot.specs.SolverNames.{IsSolverName}

pub steepest_is_name : IsSolverName (codes "steepest")
steepest_is_name = record { letter = refl; plain = refl; short = omega arith; not_none = refl }
