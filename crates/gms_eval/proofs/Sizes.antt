-- How many elements a product has, counted up to the greatest number of a `u64`.
use Rattle.std.proofs.Common.{◌≡◌, ℕ, ◌+◌, zero, suc, ◌*◌, ◌/◌, ◌%◌, ◌<◌, ◌≤◌, min, List, [], ◌∷◌, ◌++◌, map, drop, get_or, length, refl, sym, ap, subst, ◌∙◌, inl, inr, arith, nat_le, true, false, if◌then◌else◌, le-leb, leb-true, append-nil, mul_comm, append_assoc, mul_assoc, mul-one, one-mul, mul-zero, mul-suc}
use Rattle.std.proofs.lemmas.Bool.{cases_lt}
use Rattle.std.proofs.lemmas.List.{at_drop_more, at_drop_all, length-map}
use Rattle.std.proofs.lemmas.Nat.{mod_below, div_below}
use Rattle.std.proofs.Math.Nat.{mul-div_cancel_left}
use Rattle.gms_store.specs.State.{State, members_of}
use Rattle.gms_eval.specs.Lag.{label_of_element}
use Rattle.gms_tuple.specs.Products.{tuple_product}
use Rattle.gms_eval.specs.Domain.{elements, labels_of}
use Rattle.gms_eval.proofs.Products.{length-product, get_or-product, pos_of_product}

-- the lengths of lists multiplied
abbrev pub size_of : List (List ℕ) → ℕ
size_of [] = 1
size_of (xs ∷ rest) = length xs * size_of rest

pub length-size_of : (lists : List (List ℕ)) → length (tuple_product lists) ≡ size_of lists
length-size_of [] = refl
length-size_of (xs ∷ rest) = length-product xs rest ∙ ap (λ n. length xs * n) (length-size_of rest)

cut-above : (a r bound : ℕ) → bound < a → min (bound * r) bound ≡ min (a * r) bound
cut-above a zero bound above = omega (arith, mul-zero bound, mul-zero a)
cut-above a (suc r) bound above = omega (arith, mul-suc bound r, mul-suc a r)

-- a factor may be cut down to the bound before it is multiplied
cut : (a r bound : ℕ) → min (min a bound * r) bound ≡ min (a * r) bound
cut a r bound =
    elim (cases_lt bound a) [
      | inl above ↦ ap (λ n. min (n * r) bound) (let e : min a bound ≡ bound = omega arith in e) ∙ cut-above a r bound above
      | inr below ↦ ap (λ n. min (n * r) bound) (let e : min a bound ≡ a = omega arith in e)
    ]

module _ (list : ℕ → List ℕ) where
  -- how many elements the lists of these make
  abbrev pub size_from : List ℕ → ℕ
  size_from sets = size_of (map list sets)

  -- one more list is counted
  pub counted-more : (whole count next bound : ℕ) (sets : List ℕ) (i set : ℕ) → i < length sets → set ≡ get_or sets i 0 → whole ≡ min (count * size_from (drop i sets)) bound → next ≡ min (count * length (list set)) bound → whole ≡ min (next * size_from (drop (i + 1) sets)) bound
  counted-more whole count next bound sets i set l at so is =
      let rest : ℕ = size_from (drop (i + 1) sets) in
      so
      ∙ ap (λ n. min (count * n) bound) (at_drop_more size_from sets i 0 l ∙ ap (λ s. length (list s) * rest) (sym at))
      ∙ ap (λ n. min n bound) (sym (mul_assoc count (length (list set)) rest))
      ∙ sym (cut (count * length (list set)) rest bound)
      ∙ ap (λ n. min (n * rest) bound) (sym is)

  pub counted-start : (bound : ℕ) (sets : List ℕ) → min (length (tuple_product (map list sets))) bound ≡ min (1 * size_from (drop 0 sets)) bound
  counted-start bound sets = ap (λ n. min n bound) (length-size_of (map list sets) ∙ sym (one-mul (size_from sets)))

  pub counted-end : (count bound : ℕ) (sets : List ℕ) (i : ℕ) → length sets ≤ i → count ≤ bound → min (count * size_from (drop i sets)) bound ≡ count
  counted-end count bound sets i all below =
      ap (λ n. min (count * n) bound) (at_drop_all size_from sets i all) ∙ (let e : min (count * 1) bound ≡ count = omega (arith, mul-one count) in e)

-- ---- the element of a number, label by label

-- what is known while an element is made: the labels so far, and the remaining number among the
-- elements of the remaining sets
pub record IsMade (lists : List (List ℕ)) (number : ℕ) (rest : List (List ℕ)) (element : List ℕ) (size place : ℕ) : Type 0 where
  pub made : get_or (tuple_product lists) number [] ≡ element ++ get_or (tuple_product rest) place []
  pub size_is : size ≡ length (tuple_product rest)
  pub below : place < size

pub made-more : (lists : List (List ℕ)) (number : ℕ) (xs : List ℕ) (rest : List (List ℕ)) (element : List ℕ) (size place : ℕ) → IsMade lists number (xs ∷ rest) element size place → IsMade lists number rest (element ++ get_or xs (place / length (tuple_product rest)) 0 ∷ []) (length (tuple_product rest)) (place % length (tuple_product rest))
made-more lists number xs rest element size place m =
    let product_size : size ≡ length xs * length (tuple_product rest) = m.size_is ∙ length-product xs rest in
    let inside : place < length xs * length (tuple_product rest) = omega (arith, m.below) in
    let some : 0 < length (tuple_product rest) = pos_of_product (length xs) (length (tuple_product rest)) place inside in
    record {
      made = m.made ∙ ap (λ e. element ++ e) (get_or-product xs rest place inside) ∙ sym (append_assoc element (get_or xs (place / length (tuple_product rest)) 0 ∷ []) (get_or (tuple_product rest) (place % length (tuple_product rest)) []));
      size_is = refl;
      below = mod_below place (length (tuple_product rest)) some;
    }

pub made-start : (lists : List (List ℕ)) (number : ℕ) (element : List ℕ) (size : ℕ) → element ≡ [] → size ≡ length (tuple_product lists) → number < size → IsMade lists number lists element size number
made-start lists number element size none is below =
    record { made = ap (λ e. e ++ get_or (tuple_product lists) number []) (sym none); size_is = is; below = below }

pub made-end : {lists : List (List ℕ)} {number : ℕ} {element : List ℕ} {size place : ℕ} → IsMade lists number [] element size place → element ≡ get_or (tuple_product lists) number []
made-end {lists} {number} {element} {size} {place} m =
    let first : place ≡ 0 = omega (arith, m.below, m.size_is) in
    sym (m.made ∙ ap (λ k. element ++ get_or ([] ∷ []) k []) first ∙ append-nil element)

-- the same of equal values
pub made-as : {lists : List (List ℕ)} {number : ℕ} {rest : List (List ℕ)} {element : List ℕ} {size place : ℕ} (element' : List ℕ) (size' place' : ℕ) → IsMade lists number rest element size place → element' ≡ element → size' ≡ size → place' ≡ place → IsMade lists number rest element' size' place'
made-as {lists} {number} {rest} {element} {size} {place} element' size' place' m e s p =
    record {
      made = m.made ∙ ap (λ x. x ++ get_or (tuple_product rest) place []) (sym e) ∙ ap (λ k. element' ++ get_or (tuple_product rest) k []) (sym p);
      size_is = s ∙ m.size_is;
      below = omega (arith, m.below);
    }

-- what the code requires at a step: its divisors are not 0, and the label exists
pub record IsTurn (xs : List ℕ) (rest : List (List ℕ)) (size place : ℕ) : Type 0 where
  pub quotient : size / length xs ≡ length (tuple_product rest)
  pub some_labels : 0 < length xs
  pub some_rest : 0 < length (tuple_product rest)
  pub label_below : place / length (tuple_product rest) < length xs

pub turn : {lists : List (List ℕ)} {number : ℕ} {xs : List ℕ} {rest : List (List ℕ)} {element : List ℕ} {size place : ℕ} → IsMade lists number (xs ∷ rest) element size place → IsTurn xs rest size place
turn {lists} {number} {xs} {rest} {element} {size} {place} m =
    let n : ℕ = length xs in
    let k : ℕ = length (tuple_product rest) in
    let is : size ≡ n * k = m.size_is ∙ length-product xs rest in
    let below : place < n * k = omega (arith, m.below, is) in
    let some_rest : 0 < k = pos_of_product n k place below in
    let some_labels : 0 < n = pos_of_product k n place (rw (mul_comm k n) below) in
    record {
      quotient = ap (λ s. s / n) is ∙ mul-div_cancel_left k some_labels;
      some_labels = some_labels;
      some_rest = some_rest;
      label_below = div_below place k n some_rest below;
    }

-- the list of the set at a place, before those of the others
pub made-here : (list : ℕ → List ℕ) (sets : List ℕ) (i number : ℕ) (element : List ℕ) (size place : ℕ) → i < length sets → IsMade (map list sets) number (map list (drop i sets)) element size place → IsMade (map list sets) number (list (get_or sets i 0) ∷ map list (drop (i + 1) sets)) element size place
made-here list sets i number element size place l m =
    subst (λ rest. IsMade (map list sets) number rest element size place) (at_drop_more (map list) sets i 0 l) m

-- and none where no set is left
pub made-last : (list : ℕ → List ℕ) (sets : List ℕ) (i number : ℕ) (element : List ℕ) (size place : ℕ) → length sets ≤ i → IsMade (map list sets) number (map list (drop i sets)) element size place → IsMade (map list sets) number [] element size place
made-last list sets i number element size place all m =
    subst (λ rest. IsMade (map list sets) number rest element size place) (at_drop_all (map list) sets i all) m

-- ---- at most 10 sets

-- of at most 10 sets the elements are those of the product
pub elements-few : (state : State) (sets : List ℕ) → length sets ≤ 10 → elements state sets ≡ tuple_product (map (labels_of state) sets)
elements-few state sets few =
    ap (λ b. if b then tuple_product (map (labels_of state) sets) else []) (le-leb (length sets) 10 few)

-- if there is an element there are at most 10 sets
pub few-elements : (state : State) (sets : List ℕ) (number size : ℕ) → size ≡ length (elements state sets) → number < size → length sets ≤ 10
few-elements state sets number size is below =
    elim (nat_le (length sets) 10) as (λ b. nat_le (length sets) 10 ≡ b → size ≡ length (if b then tuple_product (map (labels_of state) sets) else []) → length sets ≤ 10) [
      | true ↦ λ few _. leb-true (length sets) 10 few
      | false ↦ λ _ none. absurd (omega arith)
    ] refl is

-- how many labels a set has
pub length-labels : (state : State) (set n : ℕ) (members : List (List ℕ)) → n ≡ length members → members ≡ members_of state set → n ≡ length (labels_of state set)
length-labels state set n members e m = e ∙ ap length m ∙ sym (length-map (members_of state set) label_of_element)
