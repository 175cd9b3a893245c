-- Small facts on truth values and lists.
use Rattle.std.proofs.Common.{◌≡◌, Bool, true, false, List, [], ◌∷◌, ◌++◌, refl, sym, ap, ◌∙◌, append_assoc}
pub use Rattle.std.proofs.lemmas.Bool.{or_left, or_right, or_from as or_both, and_from as and_both, and_left as and_first, and_right as and_second, false_from_ne_true as not_true}
pub use mathlib.Core.List.{append-nil as end_nil}

pub both_ways : (a : Bool) → a ≡ true → a ≡ false → ⊥
both_ways a h k = cc

module _ {T : Type 0} where
  -- what follows the same prefix is the same
  pub after_same : (u v w : List T) → u ++ v ≡ u ++ w → v ≡ w
  after_same [] v w e = e
  after_same (x ∷ u) v w e =
      let h : u ++ v ≡ u ++ w = cc in
      after_same u v w h

  -- no list is itself followed by more
  pub not_longer : (u : List T) (x : T) (w : List T) → u ≡ u ++ (x ∷ w) → ⊥
  not_longer [] x w e = cc
  not_longer (y ∷ u) x w e =
      let h : u ≡ u ++ (x ∷ w) = cc in
      not_longer u x w h

  -- lists that are empty together are empty
  pub first_empty : (u v : List T) → u ++ v ≡ [] → u ≡ []
  first_empty [] v e = refl
  first_empty (x ∷ u) v e = cc

  pub second_empty : (u v : List T) → u ++ v ≡ [] → v ≡ []
  second_empty [] v e = e
  second_empty (x ∷ u) v e = cc

  -- a list that is a prefix and a middle and a rest
  pub regrouped : (tokens u between v rest : List T) → tokens ≡ u ++ between → between ≡ v ++ rest → tokens ≡ (u ++ v) ++ rest
  regrouped tokens u between v rest e h = e ∙ ap (λ w. u ++ w) h ∙ sym (append_assoc u v rest)
