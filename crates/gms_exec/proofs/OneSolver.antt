-- Solvers of which one has given an answer.
use Rattle.std.proofs.Common.{◌≡◌, ℕ, zero, suc, ◌<◌, Bool, true, false, ◌==◌, List, [], ◌∷◌, ◌++◌, length, map, set, get_or, slice_get, refl, sym, ap, ◌∙◌, cond, Option, Some, None, option_map, append-nil, arith}
use Rattle.std.proofs.lemmas.Bool.{eqb-true, eq-eqb, both_ways}
use Rattle.lp_core.specs.declared.answer.Pivot.{Pivot}
use Rattle.gms_exec.specs.InnerSolving.{path_at}

module _ {S A : Type 0} (f : S → A) where
  -- replacing an element by one with the same image leaves the mapped list unchanged
  pub map-set : (xs : List S) (i : ℕ) (new old : S) → old ≡ get_or xs i old → f new ≡ f old → map f (set xs i new) ≡ map f xs
  map-set [] i new old is same = refl
  map-set (x ∷ xs) zero new old is same = ap (λ y. y ∷ map f xs) (same ∙ ap f is)
  map-set (x ∷ xs) (suc i) new old is same = ap (λ ys. f x ∷ ys) (map-set xs i new old is same)

  -- the reading at a place
  pub get-reading : (xs : List S) (i : ℕ) (old : S) → i < length xs → old ≡ get_or xs i old → slice_get (map f xs) i ≡ Some (f old)
  get-reading [] i old within is = absurd (omega arith)
  get-reading (x ∷ xs) zero old within is = ap (λ s. Some (f s)) (sym is)
  get-reading (x ∷ xs) (suc i) old within is = get-reading xs i old (omega arith) is

module _ {S P : Type 0} (f : S → List P) where
  same-path : (path : Option (List P)) → path ≡ option_map (λ before. before ++ []) path
  same-path None = refl
  same-path (Some before) = ap Some (sym (append-nil before))

  path-here : (xs : List S) (i : ℕ) (new old : S) (p : P) → old ≡ get_or xs i old → f new ≡ f old ++ p ∷ [] → slice_get (map f (set xs i new)) i ≡ option_map (λ before. before ++ p ∷ []) (slice_get (map f xs) i)
  path-here [] i new old p is extended = refl
  path-here (x ∷ xs) zero new old p is extended = ap Some (extended ∙ ap (λ s. f s ++ p ∷ []) is)
  path-here (x ∷ xs) (suc i) new old p is extended = path-here xs i new old p is extended

  path-elsewhere : (xs : List S) (i k : ℕ) (new : S) → (i ≡ k → ⊥) → slice_get (map f (set xs i new)) k ≡ option_map (λ before. before ++ []) (slice_get (map f xs) k)
  path-elsewhere [] i k new apart = refl
  path-elsewhere (x ∷ xs) zero zero new apart = absurd (apart refl)
  path-elsewhere (x ∷ xs) zero (suc k) new apart = same-path (slice_get (map f xs) k)
  path-elsewhere (x ∷ xs) (suc i) zero new apart = same-path (Some (f x))
  path-elsewhere (x ∷ xs) (suc i) (suc k) new apart = path-elsewhere xs i k new (λ e. apart (ap suc e))

-- the paths of solvers of which the one at a place has one more
pub paths-set : {S : Type 0} (f : S → List (List Pivot)) (xs : List S) (i : ℕ) (new old : S) (p : List Pivot) → old ≡ get_or xs i old → f new ≡ f old ++ p ∷ [] → (k : ℕ) → slice_get (map f (set xs i new)) k ≡ option_map (λ before. before ++ path_at i p k) (slice_get (map f xs) k)
paths-set f xs i new old p is extended k = by (i == k) refl
  where
    by : (b : Bool) → (i == k) ≡ b → slice_get (map f (set xs i new)) k ≡ option_map (λ before. before ++ cond b (p ∷ []) []) (slice_get (map f xs) k)
    by true e =
        ap (λ n. slice_get (map f (set xs i new)) n) (sym (eqb-true i k e)) ∙ path-here f xs i new old p is extended ∙ ap (λ n. option_map (λ before. before ++ p ∷ []) (slice_get (map f xs) n)) (eqb-true i k e)
    by false e = path-elsewhere f xs i k new (λ same. both_ways (i == k) e (eq-eqb i k same))
