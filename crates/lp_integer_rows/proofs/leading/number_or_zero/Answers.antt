use Rattle.std.proofs.Common.{sym, arith}
use Rattle.lp_integers.proofs.Lines.{whole_past}
use Rattle.lp_integer_rows.proofs.leading.number_or_zero.Goals as goal

pub returns : goal.returns
returns c = sym (whole_past c.args.numbers.now c.args.place (let e = c.len.ensures in let f = c.if-place-len.false in omega arith))
