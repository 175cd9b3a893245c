-- Sums of one entry and of two, of which those of one variable are picked.
use Rattle.std.proofs.Common.{◌≡◌, ◌≢◌, ℕ, ◌+◌, false, true, pos, [], ◌∷◌, ap, ◌∙◌, arith, ◌==◌}
use Rattle.std.specs.Prelude.{if◌then◌else◌}
use Rattle.std.proofs.lemmas.Bool.Decides.{nat_tests}
use Rattle.gq_number.specs.Number.{Number, whole, ◌+ℚ◌}
use Rattle.gq_number.specs.Sums.{sum_by_ℚ}
use Rattle.gq_number.proofs.Field.{+ℚ-zero}
use Rattle.gq_number.proofs.Ring.{zero-+ℚ}
use Rattle.gq_number.proofs.Sums.{sum_by_ℚ-nil, sum_by_ℚ-cons}

-- an entry's number where it is one of this variable
abbrev pub picked : ℕ → ℕ × Number → Number
picked v e = if e.0 == v then e.1 else whole (pos 0)

pub pick_one : (v : ℕ) (e : ℕ × Number) → sum_by_ℚ (picked v) (e ∷ []) ≡ picked v e
pick_one v e = sum_by_ℚ-cons (picked v) e [] ∙ ap (λ n. picked v e +ℚ n) (sum_by_ℚ-nil (picked v)) ∙ +ℚ-zero (picked v e)

pick_two : (v : ℕ) (d e : ℕ × Number) → sum_by_ℚ (picked v) (d ∷ e ∷ []) ≡ picked v d +ℚ picked v e
pick_two v d e = sum_by_ℚ-cons (picked v) d (e ∷ []) ∙ ap (λ n. picked v d +ℚ n) (pick_one v e)

pub pick_first : (v n : ℕ) (a b : Number) → n ≡ v → sum_by_ℚ (picked v) ((n, a) ∷ (n + 1, b) ∷ []) ≡ a
pick_first v n a b e =
    let here : (n == v) ≡ true = grind (arith, nat_tests) in
    let past : (n + 1 == v) ≡ false = grind (arith, nat_tests) in
    pick_two v (n, a) (n + 1, b) ∙ rw (here, past) (+ℚ-zero a)

pub pick_second : (v n : ℕ) (a b : Number) → n ≢ v → sum_by_ℚ (picked v) ((n, a) ∷ (n + 1, b) ∷ []) ≡ picked v (n + 1, b)
pick_second v n a b other =
    let not_here : (n == v) ≡ false = grind (arith, nat_tests) in
    pick_two v (n, a) (n + 1, b) ∙ rw not_here (zero-+ℚ (picked v (n + 1, b)))
