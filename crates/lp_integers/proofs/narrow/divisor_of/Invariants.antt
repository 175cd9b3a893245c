use Rattle.std.specs.Prelude.{ℕ, ◌<◌, nat_abs}
use Rattle.std.specs.Int.{◌∣◌}
use Rattle.lp_integers.specs.Lines.{whole_at, AreDivided}
use Rattle.lp_integers.proofs.narrow.divisor_of.Given as goal

abbrev pub invariant-loop-n : goal.invariant-loop-n
invariant-loop-n l =
    (0 < l.divisor.value) × (l.divisor.value ∣ l.denominator) × ((c : ℕ) → c < l.n-index → l.divisor.value ∣ nat_abs (whole_at l.numbers c)) × ((k : ℕ) → k ∣ l.denominator → AreDivided l.numbers k → k ∣ l.divisor.value)
