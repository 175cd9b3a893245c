use Rattle.std.proofs.Common.{◌≡◌, take, map, string_bytes}
use Rattle.gms_check.proofs.checker.names_of.Given as goal

abbrev pub invariant-loop-solver : goal.invariant-loop-solver
invariant-loop-solver l = l.names.items ≡ map string_bytes (take l.solver-index l.solvers)
