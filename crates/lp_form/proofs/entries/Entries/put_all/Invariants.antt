use Rattle.std.proofs.Common.{◌≡◌, drop}
use Rattle.lp_form.specs.Keys.{AreOrdered}
use Rattle.lp_form.specs.Forms.{coefficient}
use Rattle.lp_form.proofs.Updates.{Putting}
use Rattle.lp_form.proofs.entries.Entries.put_all.Given as goal

abbrev pub invariant-loop-i : goal.invariant-loop-i
invariant-loop-i g l =
    Putting g.F.ExactField.value (coefficient g.F.ExactField.value l.fn.self) (coefficient g.F.ExactField.value l.self) l.keys l.numbers l.i × AreOrdered (drop l.i l.keys) × (l.self.constant ≡ l.fn.self.constant)
