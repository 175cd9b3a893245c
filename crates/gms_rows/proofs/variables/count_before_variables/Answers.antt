use Rattle.std.proofs.Common.{sym, ◌∙◌, arith}
use Rattle.gms_rows.proofs.Having.{prefix-ends, prefix-more, prefix-over}
use Rattle.gms_rows.proofs.variables.count_before_variables.Goals as goal

pub loop-place-preserved : goal.loop-place-preserved
loop-place-preserved g c =
    let e = c.loop-place.invariant in
    let f = prefix-more c.args.store.now c.args.parts.now c.loop-place.place c.index-parts-place.result c.loop-place-test.true c.index-parts-place.is (sym c.has_variables.ensures ∙ c.if-has_variables.false) in
    omega (arith, e, f)

pub returns-then-has_variables-clause-count : goal.returns-then-has_variables-clause-count
returns-then-has_variables-clause-count g c =
    let e = c.loop-place.invariant in
    let f = prefix-ends c.args.store.now c.args.parts.now c.loop-place.place c.index-parts-place.result c.loop-place-test.true c.index-parts-place.is (sym c.has_variables.ensures ∙ c.if-has_variables.true) in
    omega (arith, e, f)

pub returns-clause-count : goal.returns-clause-count
returns-clause-count g c =
    let e = c.loop-place.invariant in
    let f = prefix-over c.args.store.now c.args.parts.now c.loop-place.place c.loop-place-test.false in
    omega (arith, e, f)
