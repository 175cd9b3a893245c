use Rattle.std.proofs.Common.{◌<◌, ◌%◌, arith}
use Rattle.std.proofs.lemmas.Nat.Bits.{bit_at_ones}
use Rattle.std.proofs.Math.Nat.{mod-lt}
use Rattle.lp_integer_rows.proofs.marks.Marks.everywhere.Goals as goal

pub returns : goal.returns
returns c = λ k clear.
    let less : k % 128 < 128 = mod-lt k (omega arith) in
    let one = bit_at_ones 128 (k % 128) less in
    absurd (omega arith)
