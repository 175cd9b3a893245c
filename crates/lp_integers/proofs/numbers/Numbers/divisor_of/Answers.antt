use Rattle.std.proofs.Common.{◌≤◌, ◌-◌, ◌^◌, ℕ, Fits, w64, nat_abs, sym, ap, ◌∙◌, subst, arith}
use Rattle.std.specs.Int.{◌∣◌}
use Rattle.lp_integers.specs.Lines.{whole_at}
use Rattle.lp_integers.specs.Widths.{listed}
use Rattle.lp_integers.proofs.numbers.Numbers.divisor_of.Goals as goal

pub returns-in-Narrow-clause-numbers : goal.returns-in-Narrow-clause-numbers
returns-in-Narrow-clause-numbers c =
    subst (λ l. (k : ℕ) → c.divisor_of-in-Narrow.result ∣ nat_abs (whole_at l k)) (c.as_slice.ensures.value ∙ sym (ap listed c.in-Narrow.is) ∙ c.self.view_is) c.divisor_of-in-Narrow.ensures.numbers

pub returns-in-Narrow-clause-greatest : goal.returns-in-Narrow-clause-greatest
returns-in-Narrow-clause-greatest c =
    subst (λ l. (g : ℕ) → g ∣ c.args.denominator → ((k : ℕ) → g ∣ nat_abs (whole_at l k)) → g ∣ c.divisor_of-in-Narrow.result) (c.as_slice.ensures.value ∙ sym (ap listed c.in-Narrow.is) ∙ c.self.view_is) c.divisor_of-in-Narrow.ensures.greatest

pub returns-in-Few-clause-numbers : goal.returns-in-Few-clause-numbers
returns-in-Few-clause-numbers c =
    subst (λ l. (k : ℕ) → c.divisor_of.result ∣ nat_abs (whole_at l k)) (sym (ap listed c.in-Few.is) ∙ c.self.view_is) c.divisor_of.ensures.numbers

pub returns-in-Few-clause-greatest : goal.returns-in-Few-clause-greatest
returns-in-Few-clause-greatest c =
    subst (λ l. (g : ℕ) → g ∣ c.args.denominator → ((k : ℕ) → g ∣ nat_abs (whole_at l k)) → g ∣ c.divisor_of.result) (sym (ap listed c.in-Few.is) ∙ c.self.view_is) c.divisor_of.ensures.greatest

fits_word : (n : ℕ) → n ≤ 2 ^ 64 - 1 → Fits w64 n
fits_word n h = omega arith

pub divisor_of_any-requires : goal.divisor_of_any-requires
divisor_of_any-requires c = c.requires

pub returns-then-denominator-gt-WORD-clause-positive : goal.returns-then-denominator-gt-WORD-clause-positive
returns-then-denominator-gt-WORD-clause-positive c = c.divisor_of_any.ensures.positive

pub returns-then-denominator-gt-WORD-clause-denominator : goal.returns-then-denominator-gt-WORD-clause-denominator
returns-then-denominator-gt-WORD-clause-denominator c = c.divisor_of_any.ensures.denominator

pub returns-then-denominator-gt-WORD-clause-numbers : goal.returns-then-denominator-gt-WORD-clause-numbers
returns-then-denominator-gt-WORD-clause-numbers c = c.divisor_of_any.ensures.numbers

pub returns-then-denominator-gt-WORD-clause-greatest : goal.returns-then-denominator-gt-WORD-clause-greatest
returns-then-denominator-gt-WORD-clause-greatest c = c.divisor_of_any.ensures.greatest

pub overflow_cast-denominator : goal.overflow_cast-denominator
overflow_cast-denominator c = fits_word c.args.denominator c.if-denominator-gt-WORD.false

pub divisor_of-requires : goal.divisor_of-requires
divisor_of-requires c = c.requires

pub overflow_cast-denominator-in-Narrow : goal.overflow_cast-denominator-in-Narrow
overflow_cast-denominator-in-Narrow c = fits_word c.args.denominator c.if-denominator-gt-WORD.false

pub divisor_of-requires-in-Narrow : goal.divisor_of-requires-in-Narrow
divisor_of-requires-in-Narrow c = c.requires

pub divisor_of_any-requires-in-Wide : goal.divisor_of_any-requires-in-Wide
divisor_of_any-requires-in-Wide c = c.requires

pub returns-in-Few-clause-positive : goal.returns-in-Few-clause-positive
returns-in-Few-clause-positive c = c.divisor_of.ensures.positive

pub returns-in-Few-clause-denominator : goal.returns-in-Few-clause-denominator
returns-in-Few-clause-denominator c = c.divisor_of.ensures.denominator

pub returns-in-Narrow-clause-positive : goal.returns-in-Narrow-clause-positive
returns-in-Narrow-clause-positive c = c.divisor_of-in-Narrow.ensures.positive

pub returns-in-Narrow-clause-denominator : goal.returns-in-Narrow-clause-denominator
returns-in-Narrow-clause-denominator c = c.divisor_of-in-Narrow.ensures.denominator

pub returns-in-Wide-clause-positive : goal.returns-in-Wide-clause-positive
returns-in-Wide-clause-positive c = c.divisor_of_any-in-Wide.ensures.positive

pub returns-in-Wide-clause-denominator : goal.returns-in-Wide-clause-denominator
returns-in-Wide-clause-denominator c = c.divisor_of_any-in-Wide.ensures.denominator

pub returns-in-Wide-clause-numbers : goal.returns-in-Wide-clause-numbers
returns-in-Wide-clause-numbers c = c.divisor_of_any-in-Wide.ensures.numbers

pub returns-in-Wide-clause-greatest : goal.returns-in-Wide-clause-greatest
returns-in-Wide-clause-greatest c = c.divisor_of_any-in-Wide.ensures.greatest
