use Rattle.std.proofs.Common.{◌≡◌, drop}
use Rattle.std.specs.List.{list_any}
use Rattle.std.specs.Str.{str_eq_ignore_ascii_case}
use Rattle.gms_check.specs.OptionWords.{is_one_of}
use Rattle.gms_check.proofs.checker.Checker.has_solver.Given as goal

abbrev pub invariant-loop-solver : goal.invariant-loop-solver
invariant-loop-solver g l =
    list_any (str_eq_ignore_ascii_case l.name) (drop l.solver-index l.solver-items) ≡ is_one_of l.self.solvers.now l.name
