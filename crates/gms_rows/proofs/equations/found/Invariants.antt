use Rattle.std.proofs.Common.{◌≡◌, drop}
use Rattle.gms_rows.specs.Rows.{found}
use Rattle.gms_rows.proofs.equations.found.Given as goal

abbrev pub invariant-loop-model : goal.invariant-loop-model
invariant-loop-model l = found l.declared l.name l.models ≡ found l.declared l.name (drop l.model-index l.models)
