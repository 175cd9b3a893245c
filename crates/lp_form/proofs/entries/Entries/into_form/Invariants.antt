use Rattle.std.proofs.Common.{◌≡◌}
use Rattle.lp_form.specs.Forms.{coefficient}
use Rattle.lp_form.proofs.SumTerms.{Making}
use Rattle.lp_form.proofs.entries.Entries.into_form.Given as goal

abbrev pub invariant-loop-key : goal.invariant-loop-key
invariant-loop-key g l =
    (goal.iterator-loop-key g).can_next l.key-iterator × (goal.iterator-loop-key g).is_finite l.key-iterator × Making g.F.ExactField.value (coefficient g.F.ExactField.value l.fn.self) (coefficient g.F.ExactField.value l.form) l.key-iterator × (g.F.ExactField.value l.form.constant ≡ g.F.ExactField.value l.fn.self.constant)
