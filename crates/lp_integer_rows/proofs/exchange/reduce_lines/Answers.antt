use Rattle.std.proofs.Common.{◌≡◌, ◌<◌, length, Some, sym, ◌∙◌, arith}
use Rattle.std.specs.Prelude.{slice_get}
use Rattle.lp_integer_rows.proofs.Plans.{index_get, reduced_more, reduced_all}
use Rattle.lp_integer_rows.proofs.exchange.reduce_lines.Goals as goal

pub loop-i-preserved : goal.loop-i-preserved
loop-i-preserved c =
    let within : c.loop-i.i < length c.loop-i.lines.items = omega (arith, c.loop-i.lines.ok.0) in
    let there : slice_get c.args.lines.now.items c.loop-i.i ≡ Some c.index_mut-line.result.now =
    sym (c.loop-i.invariant.left c.loop-i.i (omega arith)) ∙ index_get c.loop-i.lines.items c.loop-i.i c.index_mut-line.result.now c.index_mut-line.result.now within (sym c.index_mut-line.ensures.value) in
    reduced_more c.args.lines.now.items c.loop-i.lines.items c.loop-i.i c.index_mut-line.result.now c.reduce.new.line c.loop-i.invariant within there c.in_ok-reduce.ensures.same

pub returns : goal.returns
returns c = reduced_all c.args.lines.now.items c.loop-i.lines.items c.loop-i.i (omega (arith, c.loop-i.lines.ok.0)) c.loop-i.invariant

pub reduce-requires : goal.reduce-requires
reduce-requires c =
    let within : c.loop-i.i < length c.loop-i.lines.items = omega (arith, c.loop-i.lines.ok.0) in
    let there : slice_get c.args.lines.now.items c.loop-i.i ≡ Some c.index_mut-line.result.now =
    sym (c.loop-i.invariant.left c.loop-i.i (omega arith)) ∙ index_get c.loop-i.lines.items c.loop-i.i c.index_mut-line.result.now c.index_mut-line.result.now within (sym c.index_mut-line.ensures.value) in
    (c.requires.1 c.loop-i.i c.index_mut-line.result.now there).0
