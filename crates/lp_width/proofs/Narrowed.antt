-- A list made narrow, element by element.
use Rattle.std.proofs.Common.{◌≡◌, ℕ, ◌+◌, ◌<◌, List, [], ◌∷◌, ◌++◌, length, map, take, Result, Ok, Err, sym, ap, ap₂, ◌∙◌, subst}
use Rattle.std.specs.Prelude.{slice_index_or, IsErrAnd}
use Rattle.std.specs.List.{All}
use Rattle.std.proofs.lemmas.List.{length-map, get_or-map, map-append, take_more}
use Rattle.std.proofs.lemmas.List.Elements.{All-nil, All-cons, All-append}
use Rattle.lp_width.specs.declared.narrow.Wide.{Wide}
use Rattle.lp_width.specs.declared.narrow.Wide.TheVariants as wide
use Rattle.lp_width.specs.InnerNarrowing.{IsWide, Narrows}

-- why a part is not made narrow is why the whole is not
wide_whole : (Within Whole : Type 0) (w : Wide) → (Whole → Within) → IsWide Within w → IsWide Whole w
wide_whole Within Whole wide.Number part h = λ all. h (part all)
wide_whole Within Whole wide.Memory part h = tt

pub narrows_whole : {T : Type 0} (Same : T → Type 0) (Within Whole : Type 0) (r : Result T Wide) (w : Wide) → IsErrAnd r (λ v. v ≡ w) → (Whole → Within) → IsWide Within w → Narrows Same Whole r
narrows_whole Same Within Whole (Ok x) w e part h = absurd e
narrows_whole Same Within Whole (Err v) w e part h = subst (IsWide Whole) (sym e) (wide_whole Within Whole w part h)

module _ {Y Z : Type 0} (P : Z → Type 0) (g : Y → Z) (xs : List Y) (i : ℕ) (y : Y) (less : i < length xs) (is : y ≡ slice_index_or xs i y) where
  pub all_here : All P (map g xs) → P (g y)
  all_here all = subst P (get_or-map g xs i y (g y) less ∙ ap g (sym is)) (all i (g y) (subst (λ n. i < n) (sym (length-map xs g)) less))

  more_mapped : map g (take (i + 1) xs) ≡ map g (take i xs) ++ g y ∷ []
  more_mapped = ap (map g) (take_more xs i y less) ∙ map-append g (take i xs) (slice_index_or xs i y ∷ []) ∙ ap (λ z. map g (take i xs) ++ g z ∷ []) (sym is)

  pub within_more : All P (map g (take i xs)) → P (g y) → All P (map g (take (i + 1) xs))
  within_more all here = subst (All P) (sym more_mapped) (All-append P (map g (take i xs)) (g y ∷ []) all (All-cons P (g y) [] here (All-nil P)))

  pub same_more : {X : Type 0} (f : X → Z) (made after : List X) (x : X) → map f made ≡ map g (take i xs) → f x ≡ g y → after ≡ made ++ x ∷ [] → map f after ≡ map g (take (i + 1) xs)
  same_more f made after x same here after_is =
      ap (map f) after_is ∙ map-append f made (x ∷ []) ∙ ap₂ (λ a z. a ++ z ∷ []) same here ∙ sym more_mapped
