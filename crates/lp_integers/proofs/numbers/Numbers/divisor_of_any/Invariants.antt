use Rattle.std.specs.Prelude.{ℕ, ◌<◌, nat_abs}
use Rattle.std.specs.Int.{◌∣◌}
use Rattle.lp_integers.specs.Lines.{whole_at, AreDivided}
use Rattle.lp_integers.proofs.numbers.Numbers.divisor_of_any.Given as goal

abbrev pub invariant-loop-place : goal.invariant-loop-place
invariant-loop-place l =
    (0 < l.divisor) × (l.divisor ∣ l.denominator) × ((c : ℕ) → c < l.place → l.divisor ∣ nat_abs (whole_at l.self c)) × ((k : ℕ) → k ∣ l.denominator → AreDivided l.self k → k ∣ l.divisor)
