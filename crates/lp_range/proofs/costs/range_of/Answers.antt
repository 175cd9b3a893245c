use Rattle.std.proofs.Common.{◌+◌, List, map, drop, refl, sym, ap, ◌∙◌}
use Rattle.std.specs.Prelude.{slice_index_or}
use Rattle.std.proofs.lemmas.List.{drop_all}
use Rattle.lp_form.proofs.LoopSteps.{drop_item, get_or_itself}
use Rattle.lp_core.specs.Feasible.{bound_value}
use Rattle.lp_std.specs.Meaning.{shift_value}
use Rattle.lp_dict.specs.Tableau.{dictionary}
use Rattle.lp_range.specs.Spans.{span_from}
use Rattle.lp_range.specs.Ranges.{cost_gain}
use Rattle.lp_range.proofs.CostBounds.{other_there}
use Rattle.lp_range.proofs.Loops.{gain_goes, gain_stops, end_stops, traversal_begins}
use Rattle.lp_range.proofs.costs.range_of.Goals as goal

pub gain_of-requires-clause-there : goal.gain_of-requires-clause-there
gain_of-requires-clause-there g c = other_there g.F.ExactField.limit (dictionary g.F.ExactField.value c.args.dict.now) c.args.others.now c.requires.others c.loop-other.other-index 0 c.loop-other-test.true

pub with_coefficient-requires : goal.with_coefficient-requires
with_coefficient-requires g c = other_there g.F.ExactField.limit (dictionary g.F.ExactField.value c.args.dict.now) c.args.others.now c.requires.others c.loop-other.other-index 0 c.loop-other-test.true

pub loop-other-init : goal.loop-other-init
loop-other-init g c =
    let f = cost_gain g.F.ExactField.limit (dictionary g.F.ExactField.value c.args.dict.now) c.args.maximize (c.args.column.first.variable, shift_value g.F.ExactField.value c.args.column.shift) in
    traversal_begins g.F.ExactField.value g.F.ExactField.limit (g.F.ExactField.value c.args.cost) c.all_numbers-moves.result _ (map f c.args.others.now) c.all_numbers-moves.ensures.low c.all_numbers-moves.ensures.high (ap (map f) c.requires.others)

pub returns-in_default : goal.returns-in_default
returns-in_default g c =
    let others = c.args.others.now in
    let i = c.loop-other.other-index in
    let q = slice_index_or others i 0 in
    let f = cost_gain g.F.ExactField.limit (dictionary g.F.ExactField.value c.args.dict.now) c.args.maximize (c.args.column.first.variable, shift_value g.F.ExactField.value c.args.column.shift) in
    sym (c.loop-other.invariant
    ∙ ap (λ (ks : List _). span_from g.F.ExactField.limit (g.F.ExactField.value c.args.cost) (bound_value g.F.ExactField.value c.loop-other.moves.low) (bound_value g.F.ExactField.value c.loop-other.moves.high) (map f ks)) (drop_item others i q c.loop-other-test.true (get_or_itself others i 0 c.loop-other-test.true))
    ∙ gain_stops g.F.ExactField.value g.F.ExactField.limit (g.F.ExactField.value c.args.cost) c.loop-other.moves (f q) (map f (drop (i + 1) others)) c.in_default.ensures)

pub returns-in_default-with_coefficient : goal.returns-in_default-with_coefficient
returns-in_default-with_coefficient g c =
    let d = dictionary g.F.ExactField.value c.args.dict.now in
    let others = c.args.others.now in
    let i = c.loop-other.other-index in
    let q = slice_index_or others i 0 in
    let f = cost_gain g.F.ExactField.limit d c.args.maximize (c.args.column.first.variable, shift_value g.F.ExactField.value c.args.column.shift) in
    sym (c.loop-other.invariant
    ∙ ap (λ (ks : List _). span_from g.F.ExactField.limit (g.F.ExactField.value c.args.cost) (bound_value g.F.ExactField.value c.loop-other.moves.low) (bound_value g.F.ExactField.value c.loop-other.moves.high) (map f ks)) (drop_item others i q c.loop-other-test.true (get_or_itself others i 0 c.loop-other-test.true))
    ∙ end_stops g.F.ExactField.value g.F.ExactField.limit (g.F.ExactField.value c.args.cost) c.loop-other.moves (f q) (map f (drop (i + 1) others)) _ c.in-Some.each c.in-Some.ensures refl c.in_default-with_coefficient.ensures)

pub loop-other-preserved : goal.loop-other-preserved
loop-other-preserved g c =
    let d = dictionary g.F.ExactField.value c.args.dict.now in
    let others = c.args.others.now in
    let i = c.loop-other.other-index in
    let q = slice_index_or others i 0 in
    let f = cost_gain g.F.ExactField.limit d c.args.maximize (c.args.column.first.variable, shift_value g.F.ExactField.value c.args.column.shift) in
    c.loop-other.invariant
    ∙ ap (λ (ks : List _). span_from g.F.ExactField.limit (g.F.ExactField.value c.args.cost) (bound_value g.F.ExactField.value c.loop-other.moves.low) (bound_value g.F.ExactField.value c.loop-other.moves.high) (map f ks)) (drop_item others i q c.loop-other-test.true (get_or_itself others i 0 c.loop-other-test.true))
    ∙ gain_goes g.F.ExactField.value g.F.ExactField.limit (g.F.ExactField.value c.args.cost) c.loop-other.moves (f q) (map f (drop (i + 1) others)) c.in-Some-with_coefficient.after _ c.in-Some.each c.in-Some.ensures refl c.in-Some-with_coefficient.ensures

pub returns : goal.returns
returns g c =
    let others = c.args.others.now in
    let i = c.loop-other.other-index in
    let f = cost_gain g.F.ExactField.limit (dictionary g.F.ExactField.value c.args.dict.now) c.args.maximize (c.args.column.first.variable, shift_value g.F.ExactField.value c.args.column.shift) in
    c.around.ensures
    ∙ sym (c.loop-other.invariant ∙ ap (λ (ks : List _). span_from g.F.ExactField.limit (g.F.ExactField.value c.args.cost) (bound_value g.F.ExactField.value c.loop-other.moves.low) (bound_value g.F.ExactField.value c.loop-other.moves.high) (map f ks)) (drop_all i others c.loop-other-test.false))
