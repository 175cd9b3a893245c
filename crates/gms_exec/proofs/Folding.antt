-- Folds that are computed from the first element on.
use Rattle.std.proofs.Common.{◌≡◌, ℕ, ◌+◌, ◌<◌, List, length, drop, get_or, sym, ap, ◌∙◌}
use Rattle.std.specs.List.{fold}
use Rattle.std.proofs.lemmas.List.{at_drop_more}

-- one more element is folded, and the elements after it remain
pub fold-more : {A B : Type 0} (f : B → A → B) (goes now next : B) (xs : List A) (i : ℕ) (x : A) → i < length xs → x ≡ get_or xs i x → next ≡ f now x → fold f now (drop i xs) ≡ goes → fold f next (drop (i + 1) xs) ≡ goes
fold-more f goes now next xs i x within is step so_far =
    ap (λ b. fold f b (drop (i + 1) xs)) (step ∙ ap (f now) is) ∙ sym (at_drop_more (fold f now) xs i x within) ∙ so_far
