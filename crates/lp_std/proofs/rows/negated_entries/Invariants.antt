use Rattle.std.proofs.Common.{◌≡◌, take, map}
use Rattle.gq_number.specs.Number.{neg_ℚ}
use Rattle.lp_std.specs.Meaning.{entries_value}
use Rattle.lp_std.proofs.rows.negated_entries.Given as goal

abbrev pub invariant-loop-variable : goal.invariant-loop-variable
invariant-loop-variable g l =
    entries_value g.F.ExactField.value l.negated.items ≡ map (λ e. (e.0, neg_ℚ (g.F.ExactField.value e.1))) (take l.variable-index l.entries)
