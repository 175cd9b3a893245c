use Rattle.std.proofs.Common.{◌≡◌, ◌≤◌, List, map, sym, ap, ◌∙◌, subst}
use Rattle.std.specs.Prelude.{Vec, sum_by}
use Rattle.std.specs.declared.alloc.Global.{Global}
use Rattle.std.specs.Prelude.{Option}
use Rattle.std.proofs.lemmas.Result.{IfOk-weaker}
use Rattle.lp_core.specs.StandardForm.{width, numbered}
use Rattle.lp_std.specs.declared.types.Shift.{Shift}
use Rattle.lp_std.specs.Meaning.{shift_value}
use Rattle.lp_std.proofs.Answered.{columns_are, shifts_within}
use Rattle.lp_dict.specs.Tableau.{dictionary}
use Rattle.lp_range.specs.declared.interval.Interval.{Interval}
use Rattle.lp_range.specs.Ranges.{span_value, cost_spans, costs}
use Rattle.lp_range.proofs.costs.costs_of.Goals as goal

pub ranges_of-requires-clause-few : goal.ranges_of-requires-clause-few
ranges_of-requires-clause-few g c =
    subst (λ (l : List (Shift _)). sum_by (λ (shift : Shift _). width (shift_value g.F.ExactField.value shift)) l ≤ 3000) (sym c.as_slice.ensures)
    (shifts_within g.F.ExactField.value c.args.lp.now c.requires.well_formed c.args.s.now c.requires.form)

pub returns : goal.returns
returns g c =
    let d = dictionary g.F.ExactField.value c.args.dict.now in
    IfOk-weaker c.ranges_of.result
    (λ (made : Vec (Option (Interval _)) Global). map (span_value g.F.ExactField.value) made.items ≡ cost_spans g.F.ExactField.limit d c.args.lp.now 0 (numbered 1 (map (shift_value g.F.ExactField.value) c.as_slice.result.now)))
    (λ (made : Vec (Option (Interval _)) Global). map (span_value g.F.ExactField.value) made.items ≡ costs g.F.ExactField.value g.F.ExactField.limit c.args.lp.now d)
    (λ made h. h ∙ ap (cost_spans g.F.ExactField.limit d c.args.lp.now 0) (ap (λ (l : List (Shift _)). numbered 1 (map (shift_value g.F.ExactField.value) l)) c.as_slice.ensures ∙ columns_are g.F.ExactField.value c.args.lp.now c.requires.well_formed c.args.s.now c.requires.form))
    c.ranges_of.ensures
