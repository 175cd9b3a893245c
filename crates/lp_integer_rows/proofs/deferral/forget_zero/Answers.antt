use Rattle.std.proofs.Common.{◌≡◌, ◌<◌, length, Some, sym, ◌∙◌, arith}
use Rattle.std.specs.Prelude.{slice_get}
use Rattle.lp_integer_rows.proofs.Plans.{index_get}
use Rattle.lp_integer_rows.proofs.Putting.{forgotten_more, forgotten_all}
use Rattle.lp_integer_rows.proofs.deferral.forget_zero.Goals as goal

pub forget-requires-clause-line : goal.forget-requires-clause-line
forget-requires-clause-line c =
    let within : c.loop-i.i < length c.loop-i.lines.items = omega (arith, c.loop-i.lines.ok.0) in
    let there : slice_get c.args.lines.now.items c.loop-i.i ≡ Some c.index_mut-line.result.now =
    sym (c.loop-i.invariant.left c.loop-i.i (omega arith)) ∙ index_get c.loop-i.lines.items c.loop-i.i c.index_mut-line.result.now c.index_mut-line.result.now within (sym c.index_mut-line.ensures.value) in
    (c.requires.1 c.loop-i.i c.index_mut-line.result.now there).0

pub forget-requires-clause-within : goal.forget-requires-clause-within
forget-requires-clause-within c =
    let within : c.loop-i.i < length c.loop-i.lines.items = omega (arith, c.loop-i.lines.ok.0) in
    let there : slice_get c.args.lines.now.items c.loop-i.i ≡ Some c.index_mut-line.result.now =
    sym (c.loop-i.invariant.left c.loop-i.i (omega arith)) ∙ index_get c.loop-i.lines.items c.loop-i.i c.index_mut-line.result.now c.index_mut-line.result.now within (sym c.index_mut-line.ensures.value) in
    let wide = c.requires.2 in
    let is = (c.requires.1 c.loop-i.i c.index_mut-line.result.now there).1 in
    omega arith

pub loop-i-preserved : goal.loop-i-preserved
loop-i-preserved c =
    let within : c.loop-i.i < length c.loop-i.lines.items = omega (arith, c.loop-i.lines.ok.0) in
    let there : slice_get c.args.lines.now.items c.loop-i.i ≡ Some c.index_mut-line.result.now =
    sym (c.loop-i.invariant.left c.loop-i.i (omega arith)) ∙ index_get c.loop-i.lines.items c.loop-i.i c.index_mut-line.result.now c.index_mut-line.result.now within (sym c.index_mut-line.ensures.value) in
    forgotten_more c.args.lines.now.items c.loop-i.lines.items c.loop-i.i c.index_mut-line.result.now c.forget.new.line c.loop-i.invariant within there c.forget.ensures

pub returns : goal.returns
returns c = forgotten_all c.args.lines.now.items c.loop-i.lines.items c.loop-i.i (let same = c.loop-i.invariant.sized in omega (arith, c.loop-i.lines.ok.0)) c.loop-i.invariant
