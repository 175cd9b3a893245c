-- Lists that the recovery makes entry by entry, with the steps of each.
use Rattle.std.proofs.Common.{◌≡◌, ℕ, ◌+◌, ◌<◌, ◌≤◌, List, [], ◌∷◌, ◌++◌, length, map, get_or, take, drop, Some, None, refl, sym, ap, ap₂, ◌∙◌}
use Rattle.std.specs.Prelude.{flat_map}
use Rattle.std.specs.List.{enumerate_from}
use Rattle.std.proofs.lemmas.List.{take_more, drop_all, take_all, map-append}
use Rattle.gq_number.specs.Number.{Number}
use Rattle.lp_core.specs.declared.answer.StepName.{StepName}
use Rattle.lp_core.specs.Steps.{ExpectedStep}
use Rattle.lp_form.proofs.LoopSteps.{drop_item}
use Rattle.lp_std.specs.InnerSteps.{first_stop}
use Rattle.lp_std.proofs.Stops.{stop_after, stop_before}

pub map-map : {X Y Z : Type 0} (f : Y → Z) (g : X → Y) (xs : List X) → map f (map g xs) ≡ map (λ x. f (g x)) xs
map-map f g [] = refl
map-map f g (x ∷ xs) = ap (λ ys. f (g x) ∷ ys) (map-map f g xs)

module _ {X Y : Type 0} (view : X → Y) (steps : ℕ × Y → List ExpectedStep) (xs : List X) where
  -- the steps on the elements from place i on
  abbrev pub traversal : ℕ → List ExpectedStep
  traversal i = flat_map steps (enumerate_from i (map view (drop i xs)))

  module _ (i : ℕ) (x : X) (here : i < length xs) (is : x ≡ get_or xs i x) where
    traversal_here : traversal i ≡ steps (i, view x) ++ traversal (i + 1)
    traversal_here = ap (λ ys. flat_map steps (enumerate_from i (map view ys))) (drop_item xs i x here is)

    pub traversal_goes : first_stop (steps (i, view x)) ≡ None → first_stop (traversal i) ≡ first_stop (traversal (i + 1))
    traversal_goes h = ap first_stop traversal_here ∙ stop_after (steps (i, view x)) (traversal (i + 1)) h

    pub traversal_stops : (step : StepName) → first_stop (steps (i, view x)) ≡ Some step → first_stop (traversal i) ≡ Some step
    traversal_stops step h = ap first_stop traversal_here ∙ stop_before (steps (i, view x)) (traversal (i + 1)) step h

  pub traversal_ends : (i : ℕ) → length xs ≤ i → first_stop (traversal i) ≡ None
  traversal_ends i end = ap (λ ys. first_stop (flat_map steps (enumerate_from i (map view ys)))) (drop_all i xs end)

-- steps of one each
pub traversal_single : {Y : Type 0} (step : ℕ × Y → ExpectedStep) (ys : List (ℕ × Y)) → map step ys ≡ flat_map (λ p. step p ∷ []) ys
traversal_single step [] = refl
traversal_single step (y ∷ ys) = ap (λ zs. step y ∷ zs) (traversal_single step ys)

module _ {X F : Type 0} (value : F → Number) (f : X → Number) (xs : List X) where
  pub made_more : (i : ℕ) (x : X) (made : List F) (y : F) → i < length xs → x ≡ get_or xs i x → map value made ≡ map f (take i xs) → value y ≡ f x → map value (made ++ y ∷ []) ≡ map f (take (i + 1) xs)
  made_more i x made y here is so h =
      map-append value made (y ∷ []) ∙ ap₂ (λ prefix a. prefix ++ a ∷ []) so h ∙ sym (map-append f (take i xs) (x ∷ [])) ∙ sym (ap (map f) (take_more xs i x here ∙ ap (λ y. take i xs ++ y ∷ []) (sym is)))

  pub made_all : (i : ℕ) (made : List F) → length xs ≤ i → map value made ≡ map f (take i xs) → map value made ≡ map f xs
  made_all i made end so = so ∙ ap (map f) (take_all i xs end)
