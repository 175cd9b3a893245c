use Rattle.std.proofs.Common.{◌+◌, ◌-◌, ◌<◌, ◌≤◌, List, length, map, sym, ap, ◌∙◌, arith}
use Rattle.std.specs.List.{range_with_len}
use Rattle.lp_core.specs.Feasible.{bound_value}
use Rattle.lp_dict.specs.Tableau.{dictionary}
use Rattle.lp_range.specs.Spans.{span_from}
use Rattle.lp_range.specs.Ranges.{right_gain}
use Rattle.lp_range.proofs.RightBounds.{amount_is}
use Rattle.lp_range.proofs.Loops.{gain_goes, gain_stops, end_stops, range_more, range_ends}
use Rattle.lp_range.proofs.rights.range_of.Goals as goal

pub returns-in_default : goal.returns-in_default
returns-in_default g c =
    let d = dictionary g.F.ExactField.value c.args.dict.now in
    let k = c.loop-row.row in
    let n = length c.args.dict.now.basic in
    let less : k < n = omega (arith, c.len-row-end.ensures, c.loop-row-test.true) in
    let f = right_gain g.F.ExactField.limit d c.args.sense c.args.slack in
    sym (c.loop-row.invariant
    ∙ ap (λ (ks : List _). span_from g.F.ExactField.limit (g.F.ExactField.value c.args.right) (bound_value g.F.ExactField.value c.loop-row.moves.low) (bound_value g.F.ExactField.value c.loop-row.moves.high) (map f ks)) (range_more k n less)
    ∙ gain_stops g.F.ExactField.value g.F.ExactField.limit (g.F.ExactField.value c.args.right) c.loop-row.moves (f k) (map f (range_with_len (k + 1) (n - (k + 1)))) c.in_default.ensures)

pub returns-in_default-with_constant : goal.returns-in_default-with_constant
returns-in_default-with_constant g c =
    let d = dictionary g.F.ExactField.value c.args.dict.now in
    let k = c.loop-row.row in
    let n = length c.args.dict.now.basic in
    let less : k < n = omega (arith, c.len-row-end.ensures, c.loop-row-test.true) in
    let f = right_gain g.F.ExactField.limit d c.args.sense c.args.slack in
    let amount = sym (amount_is g.F.ExactField.limit d c.args.sense c.args.slack c.args.sense k) in
    sym (c.loop-row.invariant
    ∙ ap (λ (ks : List _). span_from g.F.ExactField.limit (g.F.ExactField.value c.args.right) (bound_value g.F.ExactField.value c.loop-row.moves.low) (bound_value g.F.ExactField.value c.loop-row.moves.high) (map f ks)) (range_more k n less)
    ∙ end_stops g.F.ExactField.value g.F.ExactField.limit (g.F.ExactField.value c.args.right) c.loop-row.moves (f k) (map f (range_with_len (k + 1) (n - (k + 1)))) _ c.in-Some.each c.in-Some.ensures amount c.in_default-with_constant.ensures)

pub loop-row-preserved : goal.loop-row-preserved
loop-row-preserved g c =
    let d = dictionary g.F.ExactField.value c.args.dict.now in
    let k = c.loop-row.row in
    let n = length c.args.dict.now.basic in
    let less : k < n = omega (arith, c.len-row-end.ensures, c.loop-row-test.true) in
    let f = right_gain g.F.ExactField.limit d c.args.sense c.args.slack in
    let amount = sym (amount_is g.F.ExactField.limit d c.args.sense c.args.slack c.args.sense k) in
    c.loop-row.invariant
    ∙ ap (λ (ks : List _). span_from g.F.ExactField.limit (g.F.ExactField.value c.args.right) (bound_value g.F.ExactField.value c.loop-row.moves.low) (bound_value g.F.ExactField.value c.loop-row.moves.high) (map f ks)) (range_more k n less)
    ∙ gain_goes g.F.ExactField.value g.F.ExactField.limit (g.F.ExactField.value c.args.right) c.loop-row.moves (f k) (map f (range_with_len (k + 1) (n - (k + 1)))) c.in-Some-with_constant.after _ c.in-Some.each c.in-Some.ensures amount c.in-Some-with_constant.ensures

pub returns : goal.returns
returns g c =
    let d = dictionary g.F.ExactField.value c.args.dict.now in
    let k = c.loop-row.row in
    let n = length c.args.dict.now.basic in
    let most : n ≤ k = omega (arith, c.len-row-end.ensures, c.loop-row-test.false) in
    let f = right_gain g.F.ExactField.limit d c.args.sense c.args.slack in
    c.around.ensures
    ∙ sym (c.loop-row.invariant ∙ ap (λ (ks : List _). span_from g.F.ExactField.limit (g.F.ExactField.value c.args.right) (bound_value g.F.ExactField.value c.loop-row.moves.low) (bound_value g.F.ExactField.value c.loop-row.moves.high) (map f ks)) (range_ends k n most))
