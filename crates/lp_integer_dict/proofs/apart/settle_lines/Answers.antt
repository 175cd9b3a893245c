use Rattle.std.proofs.Common.{◌≡◌, ◌<◌, length, Some, sym, ◌∙◌, arith}
use Rattle.std.specs.Prelude.{slice_get}
use Rattle.lp_integer_rows.proofs.Plans.{index_get, get_within, reduced_more, reduced_all}
use Rattle.lp_integer_dict.proofs.Settling.{lowest_more, reduced_none}
use Rattle.lp_integer_dict.proofs.apart.settle_lines.Goals as goal

pub loop-i-init : goal.loop-i-init
loop-i-init c = (reduced_none c.args.lines.now.items, λ k x less. absurd (omega arith))

pub loop-i-preserved : goal.loop-i-preserved
loop-i-preserved c =
    let within : c.loop-i.i < length c.loop-i.lines.items = omega (arith, c.loop-i.lines.ok.0) in
    let there : slice_get c.args.lines.now.items c.loop-i.i ≡ Some c.index_mut-line.result.now =
    sym (c.loop-i.invariant.0.left c.loop-i.i (omega arith)) ∙ index_get c.loop-i.lines.items c.loop-i.i c.index_mut-line.result.now c.index_mut-line.result.now within (sym c.index_mut-line.ensures.value) in (
      reduced_more c.args.lines.now.items c.loop-i.lines.items c.loop-i.i c.index_mut-line.result.now c.settle.new.line c.loop-i.invariant.0 within there c.in_ok-settle.ensures.same,
      lowest_more c.loop-i.lines.items c.loop-i.i c.settle.new.line c.loop-i.invariant.1 within c.in_ok-settle.ensures.lowest,
    )

pub returns-clause-same : goal.returns-clause-same
returns-clause-same c = reduced_all c.args.lines.now.items c.loop-i.lines.items c.loop-i.i (omega (arith, c.loop-i.lines.ok.0)) c.loop-i.invariant.0

pub returns-clause-lowest : goal.returns-clause-lowest
returns-clause-lowest c = λ k x at. c.loop-i.invariant.1 k x (let less = get_within c.loop-i.lines.items k x at in omega (arith, c.loop-i.lines.ok.0)) at

pub settle-requires : goal.settle-requires
settle-requires c =
    let within : c.loop-i.i < length c.loop-i.lines.items = omega (arith, c.loop-i.lines.ok.0) in
    let there : slice_get c.args.lines.now.items c.loop-i.i ≡ Some c.index_mut-line.result.now =
    sym (c.loop-i.invariant.0.left c.loop-i.i (omega arith)) ∙ index_get c.loop-i.lines.items c.loop-i.i c.index_mut-line.result.now c.index_mut-line.result.now within (sym c.index_mut-line.ensures.value) in
    (c.requires.1 c.loop-i.i c.index_mut-line.result.now there).0
