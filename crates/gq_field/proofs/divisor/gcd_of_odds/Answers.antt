-- The odd part of the difference has with the lesser number what both had in common.
use Rattle.std.proofs.Common.{◌≡◌, ℕ, ◌-◌, ◌/◌, ◌^◌, ◌<◌, ◌∙◌, sym, ap, ap₂, arith}
use lib.Count.{count_trailing_zeros}
use Rattle.gq_number.specs.Gcd.{gcd}
use Rattle.gq_number.proofs.Gcd.{gcd_comm}
use Rattle.gq_field.proofs.Binary.{Odd, odd_part, gcd-difference, gcd-one_left, gcd_self}
use Rattle.gq_field.proofs.divisor.gcd_of_odds.Goals as goal
use Rattle.gq_field.proofs.divisor.gcd_of_odds.Goals.{then-a-b, else-a-b}

pub loop-low-init : goal.loop-low-init
loop-low-init c =
    elim c.if-a-b.branch [
      | then-a-b w ↦ let e : c.if-a-b.low.0 ≡ c.args.a = ap (λ p. p.0) w.low-is in let f : c.if-a-b.low.1 ≡ c.args.b = ap (λ p. p.1) w.low-is in record { low_odd = omega arith; high_odd = omega arith; in_order = omega arith; same = ap₂ gcd e f }
      | else-a-b w ↦ let e : c.if-a-b.low.0 ≡ c.args.b = ap (λ p. p.0) w.low-is in let f : c.if-a-b.low.1 ≡ c.args.a = ap (λ p. p.1) w.low-is in record { low_odd = omega arith; high_odd = omega arith; in_order = omega arith; same = ap₂ gcd e f ∙ gcd_comm c.args.b c.args.a }
    ]

-- the odd part of the difference of two words
difference : (low high : ℕ) → low < high → high < 2 ^ 64 → Odd (high - low) ((high - low) / 2 ^ count_trailing_zeros 64 (high - low)) (count_trailing_zeros 64 (high - low))
difference low high less small = odd_part 64 (high - low) (omega arith) (omega arith)

pub loop-low-preserved-then-odd-low : goal.loop-low-preserved-then-odd-low
loop-low-preserved-then-odd-low c =
    let rest = difference c.loop-low.low c.loop-low.high (omega arith) (omega arith) in
    record {
      low_odd = rest.is_odd;
      high_odd = c.loop-low.invariant.low_odd;
      in_order = omega arith;
      same = gcd_comm _ c.loop-low.low ∙ gcd-difference _ _ _ _ c.loop-low.invariant.low_odd c.loop-low.invariant.in_order rest ∙ c.loop-low.invariant.same;
    }

pub loop-low-preserved : goal.loop-low-preserved
loop-low-preserved c =
    let rest = difference c.loop-low.low c.loop-low.high (omega arith) (omega arith) in
    record {
      low_odd = c.loop-low.invariant.low_odd;
      high_odd = rest.is_odd;
      in_order = omega arith;
      same = gcd-difference _ _ _ _ c.loop-low.invariant.low_odd c.loop-low.invariant.in_order rest ∙ c.loop-low.invariant.same;
    }

pub returns-else-low-high : goal.returns-else-low-high
returns-else-low-high c =
    let e : c.loop-low.low ≡ c.loop-low.high = omega arith in
    sym (gcd_self c.loop-low.low) ∙ ap (gcd c.loop-low.low) e ∙ c.loop-low.invariant.same

pub returns-after-loop-low : goal.returns-after-loop-low
returns-after-loop-low c =
    let e : c.loop-low.low ≡ 1 = omega arith in
    e ∙ sym (gcd-one_left c.loop-low.high) ∙ ap (λ n. gcd n c.loop-low.high) (sym e) ∙ c.loop-low.invariant.same
