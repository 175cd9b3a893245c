use Rattle.std.proofs.Common.{◌≡◌, ◌+◌, ◌++◌, map, drop}
use Rattle.std.specs.Prelude.{sum_by}
use Rattle.lp_core.specs.StandardForm.{width, numbered}
use Rattle.lp_std.specs.declared.types.Shift.{Shift}
use Rattle.lp_std.specs.Meaning.{shift_value}
use Rattle.lp_dict.specs.Tableau.{dictionary}
use Rattle.lp_range.specs.Ranges.{span_value, cost_spans}
use Rattle.lp_range.proofs.costs.ranges_of.Given as goal

abbrev pub invariant-loop-place : goal.invariant-loop-place
invariant-loop-place g l =
    record {
      counted : l.variable + sum_by (λ (shift : Shift _). width (shift_value g.F.ExactField.value shift)) (drop l.place l.shifts) ≡ 1 + sum_by (λ (shift : Shift _). width (shift_value g.F.ExactField.value shift)) l.shifts;
      made : map (span_value g.F.ExactField.value) l.made.items ++ cost_spans g.F.ExactField.limit (dictionary g.F.ExactField.value l.dict) l.lp l.place (numbered l.variable (map (shift_value g.F.ExactField.value) (drop l.place l.shifts)))
          ≡ cost_spans g.F.ExactField.limit (dictionary g.F.ExactField.value l.dict) l.lp 0 (numbered 1 (map (shift_value g.F.ExactField.value) l.shifts));
    }
