use Rattle.std.proofs.Common.{◌≡◌, ℕ, ◌<◌, ◌≤◌, nat_abs, Some}
use Rattle.std.specs.Prelude.{slice_get}
use Rattle.lp_integers.specs.declared.few.Word.{Word}
use Rattle.lp_integers.specs.Words.{EachNumber}
use Rattle.lp_integers.proofs.few.greatest_of.Given as goal

abbrev pub invariant-loop-word : goal.invariant-loop-word
invariant-loop-word l =
    ((i : ℕ) (w : Word) → i < l.word-index → slice_get l.words i ≡ Some w → nat_abs w.number ≤ l.most) × ((m : ℕ) → EachNumber (λ z. nat_abs z ≤ m) l.words → l.most ≤ m)
