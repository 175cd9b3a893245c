use Rattle.std.proofs.Common.{◌≡◌, ◌+◌, ◌++◌, take, drop, map}
use Rattle.std.specs.Prelude.{sum_by}
use Rattle.lp_core.specs.StandardForm as form
use Rattle.lp_std.specs.Meaning.{shift_value}
use Rattle.lp_std.specs.InnerSteps.{placed_value}
use Rattle.lp_std.proofs.bounds.placed.Given as goal

abbrev pub invariant-loop-shift : goal.invariant-loop-shift
invariant-loop-shift g l =
    record {
      counted : l.next ≡ 1 + sum_by (λ shift. form.width (shift_value g.F.ExactField.value shift)) (take l.shift-index l.shifts);
      numbers : placed_value g.F.ExactField.value l.placed.items ++ form.numbered l.next (map (shift_value g.F.ExactField.value) (drop l.shift-index l.shifts)) ≡ form.numbered 1 (map (shift_value g.F.ExactField.value) l.shifts);
    }
