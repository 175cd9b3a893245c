-- The elements of the domain of a name: how many there are, and the one of a number.
use Rattle.std.proofs.Common.{◌≡◌, ℕ, zero, suc, ◌+◌, ◌*◌, ◌<◌, ◌≤◌, min, List, [], ◌∷◌, map, drop, get_or, length, Option, Some, refl, sym, ap, subst, ◌∙◌, inl, inr, arith, nat_le, true, false, if◌then◌else◌, le-leb, leb-true, mul_assoc, mul-one, one-mul, mul-zero, mul-suc}
use Rattle.std.proofs.lemmas.Bool.{cases_lt}
use Rattle.std.proofs.lemmas.List.{at_drop_more, at_drop_all, length-map}
use Rattle.gms_tuple.specs.Products.{tuple_product}
use Rattle.gms_store.specs.State.{State, members_of}
use Rattle.gms_eval.specs.Lag.{label_of_element}
use Rattle.gms_eval.proofs.Sizes.{size_of, length-size_of, IsMade}
use Rattle.gms_exec.specs.Showing.{labels_at, elements_at}

cut-above : (a r bound : ℕ) → bound < a → min (bound * r) bound ≡ min (a * r) bound
cut-above a zero bound above = omega (arith, mul-zero bound, mul-zero a)
cut-above a (suc r) bound above = omega (arith, mul-suc bound r, mul-suc a r)

-- a factor may be cut down to the bound before it is multiplied
cut : (a r bound : ℕ) → min (min a bound * r) bound ≡ min (a * r) bound
cut a r bound =
    elim (cases_lt bound a) [
      | inl above ↦ ap (λ n. min (n * r) bound) (let e : min a bound ≡ bound = omega arith in e) ∙ cut-above a r bound above
      | inr below ↦ ap (λ n. min (n * r) bound) (let e : min a bound ≡ a = omega arith in e)
    ]

module _ {X : Type 0} (list : X → List ℕ) where
  -- how many elements the lists of these make
  abbrev pub size_from : List X → ℕ
  size_from xs = size_of (map list xs)

  -- one more list is counted
  pub counted-more : (whole count next bound : ℕ) (xs : List X) (i : ℕ) (d x : X) → i < length xs → x ≡ get_or xs i d → whole ≡ min (count * size_from (drop i xs)) bound → next ≡ min (count * length (list x)) bound → whole ≡ min (next * size_from (drop (i + 1) xs)) bound
  counted-more whole count next bound xs i d x l at so is =
      let rest : ℕ = size_from (drop (i + 1) xs) in
      so
      ∙ ap (λ n. min (count * n) bound) (at_drop_more size_from xs i d l ∙ ap (λ s. length (list s) * rest) (sym at))
      ∙ ap (λ n. min n bound) (sym (mul_assoc count (length (list x)) rest))
      ∙ sym (cut (count * length (list x)) rest bound)
      ∙ ap (λ n. min (n * rest) bound) (sym is)

  pub counted-start : (bound : ℕ) (xs : List X) → min (length (tuple_product (map list xs))) bound ≡ min (1 * size_from (drop 0 xs)) bound
  counted-start bound xs = ap (λ n. min n bound) (length-size_of (map list xs) ∙ sym (one-mul (size_from xs)))

  pub counted-end : (count bound : ℕ) (xs : List X) (i : ℕ) → length xs ≤ i → count ≤ bound → min (count * size_from (drop i xs)) bound ≡ count
  counted-end count bound xs i all below =
      ap (λ n. min (count * n) bound) (at_drop_all size_from xs i all) ∙ (let e : min (count * 1) bound ≡ count = omega (arith, mul-one count) in e)

  -- the list of the position at a place, before those of the others
  pub made-here : (xs : List X) (i : ℕ) (d x : X) (number : ℕ) (element : List ℕ) (size place : ℕ) → i < length xs → x ≡ get_or xs i d → IsMade (map list xs) number (map list (drop i xs)) element size place → IsMade (map list xs) number (list x ∷ map list (drop (i + 1) xs)) element size place
  made-here xs i d x number element size place l at m =
      subst (λ rest. IsMade (map list xs) number rest element size place) (at_drop_more (map list) xs i d l ∙ ap (λ z. map list (z ∷ drop (i + 1) xs)) (sym at)) m

  -- and none where no position is left
  pub made-last : (xs : List X) (i number : ℕ) (element : List ℕ) (size place : ℕ) → length xs ≤ i → IsMade (map list xs) number (map list (drop i xs)) element size place → IsMade (map list xs) number [] element size place
  made-last xs i number element size place all m =
      subst (λ rest. IsMade (map list xs) number rest element size place) (at_drop_all (map list) xs i all) m

module _ (labels : ℕ) (state : State) where
  -- of at most 10 positions the elements are those of the product
  pub elements-few : (positions : List (Option ℕ)) → length positions ≤ 10 → elements_at labels state positions ≡ tuple_product (map (labels_at labels state) positions)
  elements-few positions few =
      ap (λ b. if b then tuple_product (map (labels_at labels state) positions) else []) (le-leb (length positions) 10 few)

  -- of more there are none
  pub elements-many : (positions : List (Option ℕ)) (bound : ℕ) → 10 < length positions → 0 ≡ min (length (elements_at labels state positions)) bound
  elements-many positions bound many =
      elim (nat_le (length positions) 10) as (λ b. nat_le (length positions) 10 ≡ b → 0 ≡ min (length (if b then tuple_product (map (labels_at labels state) positions) else [])) bound) [
        | true ↦ λ few. absurd (let f = leb-true (length positions) 10 few in omega arith)
        | false ↦ λ _. omega arith
      ] refl

  -- if there is an element there are at most 10 positions
  pub few-elements : (positions : List (Option ℕ)) (number size : ℕ) → size ≡ length (elements_at labels state positions) → number < size → length positions ≤ 10
  few-elements positions number size is below =
      elim (nat_le (length positions) 10) as (λ b. nat_le (length positions) 10 ≡ b → size ≡ length (if b then tuple_product (map (labels_at labels state) positions) else []) → length positions ≤ 10) [
        | true ↦ λ few _. leb-true (length positions) 10 few
        | false ↦ λ _ none. absurd (omega arith)
      ] refl is

  -- how many labels a set has
  pub count-set : (position : Option ℕ) (set n : ℕ) (members : List (List ℕ)) → position ≡ Some set → n ≡ length members → members ≡ members_of state set → n ≡ length (labels_at labels state position)
  count-set position set n members some e m =
      e ∙ ap length m ∙ sym (length-map (members_of state set) label_of_element) ∙ ap (λ p. length (labels_at labels state p)) (sym some)
