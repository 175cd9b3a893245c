use Rattle.std.proofs.Common.{◌≡◌, ℕ, ◌<◌, ◌≤◌, pos, Some}
use Rattle.std.specs.Prelude.{slice_get, ◌<ℤ◌}
use Rattle.lp_integers.specs.declared.few.Word.{Word}
use Rattle.lp_integers.proofs.few.first_above.Given as goal

abbrev pub invariant-loop-word : goal.invariant-loop-word
invariant-loop-word l =
    (i : ℕ) (w : Word) → i < l.word-index → slice_get l.words i ≡ Some w → l.start ≤ w.place → ¬ (pos 0 <ℤ w.number)
