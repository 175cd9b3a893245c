-- Two elements of a list, each with what precedes and follows it, are at one place, or one of them
-- comes before the other.
use Rattle.std.proofs.Common.{◌≡◌, List, [], ◌∷◌, ◌++◌, refl, sym, ap₂}

module _ {T : Type 0} where
  -- the order of `x`, between `u` and `v`, and `y`, between `a` and `b`, in the same list
  pub data Order (u : List T) (x : T) (v a : List T) (y : T) (b : List T) : Type 0 where
    at_once : u ≡ a → x ≡ y → v ≡ b → Order u x v a y b
    earlier : (w : List T) → a ≡ u ++ (x ∷ w) → v ≡ w ++ (y ∷ b) → Order u x v a y b
    later : (w : List T) → u ≡ a ++ (y ∷ w) → b ≡ w ++ (x ∷ v) → Order u x v a y b

  pub order : (u : List T) (x : T) (v a : List T) (y : T) (b : List T) → u ++ (x ∷ v) ≡ a ++ (y ∷ b) → Order u x v a y b
  order [] x v [] y b e =
      let first : x ≡ y = cc in
      let others : v ≡ b = cc in
      at_once refl first others
  order [] x v (z ∷ a) y b e =
      let first : z ∷ a ≡ x ∷ a = cc in
      let others : v ≡ a ++ (y ∷ b) = cc in
      earlier a first others
  order (z ∷ u) x v [] y b e =
      let first : z ∷ u ≡ y ∷ u = cc in
      let others : b ≡ u ++ (x ∷ v) = cc in
      later u first others
  order (z ∷ u) x v (k ∷ a) y b e = go (order u x v a y b cc)
    where
      same : z ≡ k
      same = cc

      go : Order u x v a y b → Order (z ∷ u) x v (k ∷ a) y b
      go (at_once f g h) = at_once (ap₂ (λ p q. p ∷ q) same f) g h
      go (earlier w f g) = earlier w (ap₂ (λ p q. p ∷ q) (sym same) f) g
      go (later w f g) = later w (ap₂ (λ p q. p ∷ q) same f) g

  -- a list with an element is not empty
  pub some_there : (u : List T) (x : T) (v : List T) → [] ≡ u ++ (x ∷ v) → ⊥
  some_there [] x v e = cc
  some_there (y ∷ u) x v e = cc
