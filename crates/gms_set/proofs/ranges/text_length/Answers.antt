use Rattle.std.proofs.Common.{arith, subst, sym, ◌∙◌, ◌≡◌, ◌-◌, true, length, get_or, false}
use Rattle.std.specs.Char.{is_ascii_digit}
use Rattle.gms_set.proofs.Digits.{AreDigitsFrom, none-yet, one-more, text_length-from, boundary-from, decimal-from}
use Rattle.gms_set.proofs.ranges.text_length.Goals as goal

-- src/ranges.rt:132:5
pub loop-length-init : goal.loop-length-init
loop-length-init c = subst (λ bytes. AreDigitsFrom c.args.label.now (length bytes)) (sym c.as_bytes-bytes.ensures.value) (none-yet c.args.label.now)

-- src/ranges.rt:132:25
pub bounds-bytes-length : goal.bounds-bytes-length
bounds-bytes-length c =
    let within = c.loop-length.invariant.within in let some = c.loop-length-test.true in let same = c.as_bytes-bytes.ensures.len in omega arith

-- src/ranges.rt:132:5
pub loop-length-preserved : goal.loop-length-preserved
loop-length-preserved c = one-more c.args.label.now c.loop-length.length c.loop-length.invariant c.loop-length-test.true (subst (λ bytes. is_ascii_digit (get_or bytes (c.loop-length.length - 1) 0) ≡ true) c.as_bytes-bytes.ensures.value (sym c.is_ascii_digit.ensures.value ∙ c.if-is_ascii_digit.true))

-- src/ranges.rt:125:1
pub returns-else-is_ascii_digit-clause-value : goal.returns-else-is_ascii_digit-clause-value
returns-else-is_ascii_digit-clause-value c = text_length-from c.args.label.now c.loop-length.length c.loop-length.invariant (λ some. subst (λ bytes. is_ascii_digit (get_or bytes (c.loop-length.length - 1) 0) ≡ false) c.as_bytes-bytes.ensures.value (sym c.is_ascii_digit.ensures.value ∙ c.if-is_ascii_digit.false))

-- src/ranges.rt:125:1
pub returns-else-is_ascii_digit-clause-boundary : goal.returns-else-is_ascii_digit-clause-boundary
returns-else-is_ascii_digit-clause-boundary c = boundary-from c.args.label.now c.loop-length.length c.loop-length.invariant

-- src/ranges.rt:125:1
pub returns-else-is_ascii_digit-clause-decimal : goal.returns-else-is_ascii_digit-clause-decimal
returns-else-is_ascii_digit-clause-decimal c = decimal-from c.args.label.now c.loop-length.length c.loop-length.invariant

-- src/ranges.rt:125:1
pub returns-after-loop-length-clause-value : goal.returns-after-loop-length-clause-value
returns-after-loop-length-clause-value c = text_length-from c.args.label.now c.loop-length.length c.loop-length.invariant (λ some. grind arith)

-- src/ranges.rt:125:1
pub returns-after-loop-length-clause-boundary : goal.returns-after-loop-length-clause-boundary
returns-after-loop-length-clause-boundary c = boundary-from c.args.label.now c.loop-length.length c.loop-length.invariant

-- src/ranges.rt:125:1
pub returns-after-loop-length-clause-decimal : goal.returns-after-loop-length-clause-decimal
returns-after-loop-length-clause-decimal c = decimal-from c.args.label.now c.loop-length.length c.loop-length.invariant
