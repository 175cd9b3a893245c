use Rattle.std.proofs.Common.{◌≡◌, ◌++◌, take}
use Rattle.std.specs.Prelude.{flat_map}
use Rattle.gms_save.specs.Saves.{option_solvers}
use Rattle.gms_save.proofs.solvers.push_options.Given as goal

abbrev pub invariant-loop-word : goal.invariant-loop-word
invariant-loop-word l = l.names.items ≡ l.fn.names.items ++ flat_map option_solvers (take l.word-index l.settings)
