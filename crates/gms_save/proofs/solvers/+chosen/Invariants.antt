use Rattle.std.proofs.Common.{◌≡◌, ◌++◌, take}
use Rattle.std.specs.Prelude.{flat_map}
use Rattle.gms_save.specs.Saves.{solvers_in}
use Rattle.gms_save.proofs.solvers.+chosen.Given as goal

abbrev pub invariant-push_chosen-loop-statement : goal.invariant-push_chosen-loop-statement
invariant-push_chosen-loop-statement l = l.names.items ≡ l.fn.names.items ++ flat_map solvers_in (take l.statement-index l.statements)
