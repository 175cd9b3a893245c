-- Where the bounds are below 2^63 the factor is the same in one word.
use Rattle.std.proofs.Common.{◌<◌, ◌≤◌, ◌-◌, ◌^◌, ℕ, pos, Fits, w64, refl, sym, subst, le_trans, arith}
use Rattle.lp_integers.specs.Lines.{CombinationsStayWithin}
use Rattle.lp_integers.proofs.Lines.{small_fits, small_again}
use Rattle.lp_integers.proofs.Places.{same_lessened_from}
use Rattle.lp_integers.proofs.numbers.Numbers.lessen_at.Goals as goal

pub returns-in-Some : goal.returns-in-Some
returns-in-Some c =
    same_lessened_from (small_again c.args.b c.unsigned_abs.result c.ranges.b c.unsigned_abs.ensures.value c.if-unsigned_abs-lt-HALF.true) refl refl refl c.in-Some.ensures

fits_word : (n : ℕ) → n < 2 ^ 63 → Fits w64 n
fits_word n h = omega arith

below_next : (n : ℕ) → n < 2 ^ 63 → n ≤ 2 ^ 63 - 1
below_next n h = omega arith

pub overflow_cast-b : goal.overflow_cast-b
overflow_cast-b c = small_fits c.args.b c.unsigned_abs.result c.ranges.b c.unsigned_abs.ensures.value c.if-unsigned_abs-lt-HALF.true

pub overflow_cast-least : goal.overflow_cast-least
overflow_cast-least c = fits_word c.args.least c.if-least-lt-HALF.true

pub lessen_narrow_at-requires-clause-sized : goal.lessen_narrow_at-requires-clause-sized
lessen_narrow_at-requires-clause-sized c = c.requires.sized

pub lessen_narrow_at-requires-clause-places : goal.lessen_narrow_at-requires-clause-places
lessen_narrow_at-requires-clause-places c = c.requires.places

pub lessen_narrow_at-requires-clause-small : goal.lessen_narrow_at-requires-clause-small
lessen_narrow_at-requires-clause-small c = c.if-least-lt-HALF.true

pub lessen_narrow_at-requires-clause-within : goal.lessen_narrow_at-requires-clause-within
lessen_narrow_at-requires-clause-within c = c.requires.within

pub lessen_narrow_at-requires-clause-within_bound : goal.lessen_narrow_at-requires-clause-within_bound
lessen_narrow_at-requires-clause-within_bound c =
    subst (λ b. CombinationsStayWithin (2 ^ 63 - 1) (pos 1) b c.args.self.now c.args.others.now)
    (sym (small_again c.args.b c.unsigned_abs.result c.ranges.b c.unsigned_abs.ensures.value c.if-unsigned_abs-lt-HALF.true))
    (λ k. le_trans (c.requires.within_bound k) (below_next c.args.within_bound c.if-within_bound-lt-HALF.true))

pub returns-in_default : goal.returns-in_default
returns-in_default c = c.in_default.ensures

pub returns-else-within_bound-lt-HALF : goal.returns-else-within_bound-lt-HALF
returns-else-within_bound-lt-HALF c = refl
