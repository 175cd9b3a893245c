use Rattle.std.proofs.Common.{drop}
use Rattle.lp_form.specs.InnerOperations.{step_by}
use Rattle.lp_form.specs.InnerMerging.{Outcome, after, Changes}
use Rattle.lp_form.proofs.terms.changed.Given as goal

abbrev pub invariant-loop-i : goal.invariant-loop-i
invariant-loop-i g l =
    (r : Outcome _) → Changes g.F.ExactField.value (step_by g.F.ExactField.value g.F.ExactField.limit l.operation) (drop l.i l.keys) (drop l.i l.numbers) r → Changes g.F.ExactField.value (step_by g.F.ExactField.value g.F.ExactField.limit l.operation) l.keys l.numbers (after l.made.keys.items l.made.numbers.items r)
