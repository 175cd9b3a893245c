use Rattle.std.proofs.Common.{◌≡◌, ℕ, ◌<◌, nat_abs, Some}
use Rattle.std.specs.Prelude.{slice_get}
use Rattle.std.specs.Int.{◌∣◌}
use Rattle.lp_integers.specs.declared.few.Word.{Word}
use Rattle.lp_integers.specs.Words.{EachNumber}
use Rattle.lp_integers.proofs.few.divisor_of.Given as goal

abbrev pub invariant-loop-word : goal.invariant-loop-word
invariant-loop-word l =
    (0 < l.divisor.value) × (l.divisor.value ∣ l.denominator) × ((i : ℕ) (w : Word) → i < l.word-index → slice_get l.words i ≡ Some w → l.divisor.value ∣ nat_abs w.number) × ((k : ℕ) → k ∣ l.denominator → EachNumber (λ z. k ∣ nat_abs z) l.words → k ∣ l.divisor.value)
