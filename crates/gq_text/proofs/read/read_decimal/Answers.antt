-- A text divides in one way, so what is not read is none.
use Rattle.std.proofs.Common.{◌+◌, ◌<◌, length, arith}
use Rattle.std.proofs.lemmas.Bool.Decides.{nat_tests}
use Rattle.gq_text.specs.InnerParts.{exponent_of}
use Rattle.gq_text.specs.Decimal.{Decimal}
use Rattle.gq_text.proofs.Readings.{read_literal, no_digits, no_power}
use Rattle.gq_text.proofs.read.read_decimal.Goals as goal
use Rattle.gq_text.proofs.read.read_decimal.Goals.{else-is_empty-via-then-is_empty+else-is_empty-2, else-is_empty-via-else-is_empty}

pub returns-then-is_empty-2 : goal.returns-then-is_empty-2
returns-then-is_empty-2 g c x h =
    no_digits c.args.text.now c.split_pointed-pointed.result.before.now c.split_pointed-pointed.result.following.now c.split_pointed-pointed.result.rest.now x c.split_pointed-pointed.ensures
    (let t = c.if-is_empty.true in let e = c.is_empty.ensures in grind (arith, nat_tests))
    (let t = c.if-is_empty-2.true in let e = c.is_empty-then-is_empty.ensures in grind (arith, nat_tests))
    h

pub returns-in-Some : goal.returns-in-Some
returns-in-Some g c =
    let p = c.split_pointed-pointed.result in
    let first = c.is_empty.ensures in
    let d : Decimal = record { before = p.before.now; following = p.following.now; exponent = exponent_of c.in-Some.exponent.negative c.in-Some.exponent.digits.now } in
    let some : 0 < length p.before.now + length p.following.now = elim c.else-is_empty.branch [
      | else-is_empty-via-then-is_empty+else-is_empty-2 w ↦ (let t = w.if-is_empty-2.false in let e = w.is_empty-then-is_empty.ensures in grind (arith, nat_tests))
      | else-is_empty-via-else-is_empty w ↦ (let t = w.if-is_empty.false in grind (arith, nat_tests))
    ] in
    read_literal g.F.ExactField.limit g.F.ExactField.value c.args.text.now p.rest.now d c.literal.result c.split_pointed-pointed.ensures some c.in-Some.ensures.value c.literal.ensures

pub returns-in-None : goal.returns-in-None
returns-in-None g c x h =
    no_power c.args.text.now c.split_pointed-pointed.result.before.now c.split_pointed-pointed.result.following.now c.split_pointed-pointed.result.rest.now x c.split_pointed-pointed.ensures c.in-None.ensures.none h
