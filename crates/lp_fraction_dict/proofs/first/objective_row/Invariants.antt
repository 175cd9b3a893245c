use Rattle.std.proofs.Common.{◌+◌}
use Rattle.lp_core.specs.Dictionary.{first_objective}
use Rattle.lp_std.specs.Meaning.{standard_value}
use Rattle.lp_fraction_dict.specs.First.{IsFilled}
use Rattle.lp_fraction_dict.proofs.first.objective_row.Given as goal

abbrev pub invariant-loop-place : goal.invariant-loop-place
invariant-loop-place g l = IsFilled g.F.ExactField.value (first_objective (standard_value g.F.ExactField.value l.s)) (l.place + 2) l.made.items
