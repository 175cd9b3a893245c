use Rattle.lp_form.specs.Forms.{coefficient}
use Rattle.lp_form.proofs.Sums.{Summing}
use Rattle.lp_form.proofs.sum.FormSum.sums.Given as goal

abbrev pub invariant-loop-i : goal.invariant-loop-i
invariant-loop-i g l =
    Summing g.F.ExactField.value g.F.ExactField.limit (coefficient g.F.ExactField.value l.self) l.keys l.numbers l.i l.sums.items
