use Rattle.std.proofs.Common.{◌%◌, arith}
use Rattle.std.proofs.lemmas.Nat.Bits.{bit_at_or}
use Rattle.lp_integer_rows.proofs.marks.Marks.joined.Goals as goal

pub returns-clause-own : goal.returns-clause-own
returns-clause-own c = λ k clear.
    let is = bit_at_or c.args.self.bits c.args.others.bits (k % 128) in
    grind arith

pub returns-clause-others : goal.returns-clause-others
returns-clause-others c = λ k clear.
    let is = bit_at_or c.args.self.bits c.args.others.bits (k % 128) in
    grind arith
