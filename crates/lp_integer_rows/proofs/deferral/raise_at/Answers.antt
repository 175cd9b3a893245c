use Rattle.std.proofs.Common.{sym, arith}
use Rattle.lp_integer_rows.proofs.Plans.{index_get}
use Rattle.lp_integer_rows.proofs.Putting.{raised_at}
use Rattle.lp_integer_rows.proofs.deferral.raise_at.Goals as goal

pub raise-requires-clause-line : goal.raise-requires-clause-line
raise-requires-clause-line c = (c.requires.lines.1 c.args.k c.index_mut-line.result.now (index_get c.args.lines.now.items c.args.k c.index_mut-line.result.now c.index_mut-line.result.now c.requires.within (sym c.index_mut-line.ensures.value))).0

pub raise-requires-clause-within : goal.raise-requires-clause-within
raise-requires-clause-within c =
    let wide = c.requires.lines.2 in
    let is = (c.requires.lines.1 c.args.k c.index_mut-line.result.now (index_get c.args.lines.now.items c.args.k c.index_mut-line.result.now c.index_mut-line.result.now c.requires.within (sym c.index_mut-line.ensures.value))).1 in
    omega arith

pub raise-requires-clause-some : goal.raise-requires-clause-some
raise-requires-clause-some c = c.requires.some c.index_mut-line.result.now (index_get c.args.lines.now.items c.args.k c.index_mut-line.result.now c.index_mut-line.result.now c.requires.within (sym c.index_mut-line.ensures.value))

pub returns : goal.returns
returns c = raised_at c.args.k c.args.lines.now.items c.index_mut-line.result.now c.raise.new.line c.requires.within (index_get c.args.lines.now.items c.args.k c.index_mut-line.result.now c.index_mut-line.result.now c.requires.within (sym c.index_mut-line.ensures.value)) c.raise.ensures
