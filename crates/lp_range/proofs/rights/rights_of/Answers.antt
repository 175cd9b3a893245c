use Rattle.std.proofs.Common.{◌≡◌, map, ap, ap₂, ◌∙◌, arith}
use Rattle.std.specs.Prelude.{Vec, Option}
use Rattle.std.specs.declared.alloc.Global.{Global}
use Rattle.std.proofs.lemmas.Result.{IfOk-weaker}
use Rattle.lp_core.specs.Steps.{count_of_rows}
use Rattle.lp_dict.specs.Tableau.{dictionary}
use Rattle.lp_range.specs.declared.interval.Interval.{Interval}
use Rattle.lp_range.specs.Ranges.{span_value, right_spans, rights}
use Rattle.lp_range.proofs.Loops.{first_slack, slack_bound}
use Rattle.lp_range.proofs.rights.rights_of.Goals as goal

pub ranges_of-requires : goal.ranges_of-requires
ranges_of-requires g c =
    let d = dictionary g.F.ExactField.value c.args.dict.now in
    let same = first_slack g.F.ExactField.value c.args.lp.now c.requires.well_formed d c.requires.of_form c.variables.result c.len.result c.variables.ensures c.len.ensures in
    let within_bound = slack_bound g.F.ExactField.value c.args.lp.now c.requires.well_formed d c.requires.of_form in
    let rows = ap count_of_rows c.as_slice.ensures in
    omega (arith, same, within_bound, rows)

pub returns : goal.returns
returns g c =
    let d = dictionary g.F.ExactField.value c.args.dict.now in
    let same = first_slack g.F.ExactField.value c.args.lp.now c.requires.well_formed d c.requires.of_form c.variables.result c.len.result c.variables.ensures c.len.ensures in
    IfOk-weaker c.ranges_of.result
    (λ (made : Vec (Option (Interval _)) Global). map (span_value g.F.ExactField.value) made.items ≡ right_spans g.F.ExactField.limit d g.F.ExactField.value _ c.as_slice.result.now)
    (λ (made : Vec (Option (Interval _)) Global). map (span_value g.F.ExactField.value) made.items ≡ rights g.F.ExactField.value g.F.ExactField.limit c.args.lp.now d)
    (λ made h. h ∙ ap₂ (λ n rows. right_spans g.F.ExactField.limit d g.F.ExactField.value n rows) same c.as_slice.ensures)
    c.ranges_of.ensures
