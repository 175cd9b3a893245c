use Rattle.std.proofs.Common.{length, length-set, ap, ◌∙◌, arith}
use Rattle.lp_integer_rows.proofs.Putting.{swapped_lines}
use Rattle.lp_integer_rows.proofs.deferral.swap_lines.Goals as goal

pub put_line-second-requires : goal.put_line-second-requires
put_line-second-requires c =
    let one = ap length c.put_line-first.ensures.put ∙ length-set c.args.lines.now.items c.args.k _ in
    let within = c.requires.second in
    omega arith

pub put_line-requires : goal.put_line-requires
put_line-requires c =
    let one = ap length c.put_line-first.ensures.put ∙ length-set c.args.lines.now.items c.args.k _ in
    let two = ap length c.put_line-second.ensures.put ∙ length-set c.put_line-first.new.lines.items c.args.l _ in
    let within = c.requires.first in
    omega arith

pub returns : goal.returns
returns c =
    swapped_lines c.args.k c.args.l c.args.lines.now.items c.put_line-first.new.lines.items c.put_line-second.new.lines.items c.put_line.new.lines.items _ c.put_line-first.result c.put_line-second.result c.requires.apart c.requires.first c.requires.second
    c.put_line-first.ensures.given c.put_line-first.ensures.put c.put_line-second.ensures.given c.put_line-second.ensures.put c.put_line.ensures.put
