-- The elements of a domain.
use Rattle.std.proofs.lemmas.Bool.{and_parts}
use Rattle.std.proofs.Common.{◌≡◌, ◌<◌, ◌≤◌, ℕ, zero, suc, Bool, true, false, ◌&&◌, ◌↔◌, List, [], ◌∷◌, filter, map, length, cond, Ok, Err, if◌then◌else◌, nat_lt, refl, sym, ap, ◌∙◌, subst, arith, true≢false}
use Rattle.std.specs.Prelude.{slice_index}
use Rattle.std.specs.List.{All}
use Rattle.std.proofs.lemmas.List.Elements.{All-head, All-tail}
use Rattle.std.proofs.lemmas.List.{length-map}
use Rattle.gq_number.specs.Number.{Number}
use Rattle.gms_labels.specs.declared.place.Place.{Place}
use Rattle.gms_ast.specs.Trees.{Control, over, over_where, Tree}
use Rattle.gms_tuple.specs.TupleOrder.{IsOrdered}
use Rattle.gms_tuple.specs.TupleSet.{has}
use Rattle.gms_tuple.proofs.Members.{has-filter, IsOrdered-filter}
use Rattle.gms_store.specs.State.{State, members_of}
use Rattle.gms_eval.specs.Bindings.{Pairs, controlled}
use Rattle.gms_eval.specs.Domain.{elements, labels_of, most_elements, sized, those_where, too_large, IsSimple}
use Rattle.gms_eval.specs.Faults.{Answer, ◌and_then◌}
use Rattle.gms_eval.specs.Holds.{holds}
use Rattle.gms_eval.specs.Value.{domain, sets_of}
use Rattle.gms_eval.proofs.Ascents.{all_in, has-product, all_in-length}
use Rattle.gms_eval.proofs.Simple.{has-label, elements-ordered}
use Rattle.gms_eval.proofs.Sizes.{elements-few}
use Rattle.gms_laws.specs.Domains.{HasItsMembers, IsWhereItHolds}

abbrev pub holding : Answer Bool → Bool
holding (Ok b) = b
holding (Err fault) = false

holds_so : (answer : Answer Bool) → holding answer ≡ true → answer ≡ Ok true
holds_so (Ok true) e = refl
holds_so (Ok false) e = absurd (true≢false (sym e))
holds_so (Err fault) e = absurd (true≢false (sym e))

-- the elements that an answer has, or none
abbrev answered : Answer (List (List ℕ)) → List (List ℕ)
answered (Ok those) = those
answered (Err fault) = []

module _ (test : List ℕ → Answer Bool) where
  abbrev pub kept : List ℕ → Bool
  kept element = holding (test element)

  -- the elements that are found are those for which it holds
  pub found_so : (all found : List (List ℕ)) → those_where test all ≡ Ok found → found ≡ filter kept all
  found_so [] found e = sym (ap answered e)
  found_so (x ∷ all) found e = by (found_so all) (test x) refl (those_where test all) refl e
    where
      by : ((others : List (List ℕ)) → those_where test all ≡ Ok others → others ≡ filter kept all) → (answer : Answer Bool) → test x ≡ answer → (rest : Answer (List (List ℕ))) → those_where test all ≡ rest
          → (answer and_then λ holds. rest and_then λ others. Ok (if holds then x ∷ others else others)) ≡ Ok found → found ≡ cond (kept x) (x ∷ filter kept all) (filter kept all)
      by later (Err fault) is rest rest_is e = absurd cc
      by later (Ok b) is (Err fault) rest_is e = absurd cc
      by later (Ok b) is (Ok others) rest_is e =
          sym (ap answered e)
          ∙ ap (λ (more : List (List ℕ)). if b then x ∷ more else more) (later others rest_is)
          ∙ ap (λ (answer : Answer Bool). cond (holding answer) (x ∷ filter kept all) (filter kept all)) (sym is)

sized_so : (at : Place) (binding : Pairs) (those all : List (List ℕ)) → sized at binding those ≡ Ok all → all ≡ those
sized_so at binding those all e = by (nat_lt most_elements (length those)) e
  where
    by : (b : Bool) → (if b then Err (too_large at binding (length those)) else Ok those) ≡ Ok all → all ≡ those
    by true e = absurd cc
    by false e = sym (ap answered e)

-- ---- positions

module _ (state : State) where
  fits : (sets tuple : List ℕ) → All (IsSimple state) sets → all_in (map (labels_of state) sets) tuple ≡ true → (i : ℕ) → i < length sets
      → has (members_of state (slice_index sets i)) (slice_index tuple i ∷ []) ≡ true
  fits [] tuple simple e i l = absurd (omega (arith, l))
  fits (set ∷ sets) [] simple e i l = absurd (true≢false (sym e))
  fits (set ∷ sets) (label ∷ tuple) simple e zero l =
      sym (has-label state set label (All-head (IsSimple state) set sets simple)) ∙ (and_parts _ (all_in (map (labels_of state) sets) tuple) e).0
  fits (set ∷ sets) (label ∷ tuple) simple e (suc i) l =
      fits sets tuple (All-tail (IsSimple state) set sets simple) (and_parts _ (all_in (map (labels_of state) sets) tuple) e).1 i (omega (arith, l))

  all_fit : (sets tuple : List ℕ) → All (IsSimple state) sets → HasItsMembers state sets tuple → all_in (map (labels_of state) sets) tuple ≡ true
  all_fit [] [] simple h = refl
  all_fit [] (label ∷ tuple) simple h = let none : length {A = ℕ} (label ∷ tuple) ≡ length {A = ℕ} [] = h.0 in absurd (omega (arith, none))
  all_fit (set ∷ sets) [] simple h = let none : length {A = ℕ} [] ≡ length {A = ℕ} (set ∷ sets) = h.0 in absurd (omega (arith, none))
  all_fit (set ∷ sets) (label ∷ tuple) simple h =
      let same : length (label ∷ tuple) ≡ length (set ∷ sets) = h.0 in
      let fewer : length tuple ≡ length sets = omega (arith, same) in
      ap (λ (b : Bool). b && all_in (map (labels_of state) sets) tuple) (has-label state set label (All-head (IsSimple state) set sets simple) ∙ h.1 zero (omega arith))
      ∙ all_fit sets tuple (All-tail (IsSimple state) set sets simple) (fewer, λ i l. h.1 (suc i) (omega (arith, l)))

  product_so : (sets tuple : List ℕ) → length sets ≤ 10 → has (elements state sets) tuple ≡ all_in (map (labels_of state) sets) tuple
  product_so sets tuple few =
      ap (λ (those : List (List ℕ)). has those tuple) (elements-few state sets few) ∙ has-product (map (labels_of state) sets) tuple

  of_product : (sets tuple : List ℕ) → All (IsSimple state) sets → length sets ≤ 10 → has (elements state sets) tuple ≡ true → HasItsMembers state sets tuple
  of_product sets tuple simple few there =
      let all : all_in (map (labels_of state) sets) tuple ≡ true = sym (product_so sets tuple few) ∙ there in
      (all_in-length (map (labels_of state) sets) tuple all ∙ length-map sets (labels_of state), fits sets tuple simple all)

  in_product : (sets tuple : List ℕ) → All (IsSimple state) sets → length sets ≤ 10 → HasItsMembers state sets tuple → has (elements state sets) tuple ≡ true
  in_product sets tuple simple few h = product_so sets tuple few ∙ all_fit sets tuple simple h

  -- ---- domains

  module _ {F : Type 0} (value : F → Number) (limit : ℕ) (binding : Pairs) (at : Place) where
    abbrev tested : Tree F → List ℕ → List ℕ → Answer Bool
    tested condition sets element = holds value limit state (controlled binding sets element) condition

    chosen : (sets : List ℕ) (condition : Tree F) (found : List (List ℕ)) → domain value limit state binding at (over_where sets condition) ≡ Ok found → found ≡ filter (kept (tested condition sets)) (elements state sets)
    chosen sets condition found e = by (sized at binding (elements state sets)) refl e
      where
        by : (answer : Answer (List (List ℕ))) → sized at binding (elements state sets) ≡ answer → (answer and_then λ all. those_where (tested condition sets) all) ≡ Ok found → found ≡ filter (kept (tested condition sets)) (elements state sets)
        by (Err fault) is e = absurd cc
        by (Ok all) is e =
            found_so (tested condition sets) all found e
            ∙ ap (filter (kept (tested condition sets))) (sized_so at binding (elements state sets) all is)

    pub in_order : (control : Control F) (found : List (List ℕ)) → All (IsSimple state) (sets_of control) → domain value limit state binding at control ≡ Ok found → IsOrdered found
    in_order (over sets) found simple e =
        subst IsOrdered (sym (sized_so at binding (elements state sets) found e)) (elements-ordered state sets simple)
    in_order (over_where sets condition) found simple e =
        subst IsOrdered (sym (chosen sets condition found e)) (IsOrdered-filter (kept (tested condition sets)) (elements state sets) (elements-ordered state sets simple))

    pub exact : (control : Control F) (found : List (List ℕ)) (element : List ℕ) → All (IsSimple state) (sets_of control) → length (sets_of control) ≤ 10 → domain value limit state binding at control ≡ Ok found
        → (has found element ≡ true) ↔ (HasItsMembers state (sets_of control) element × IsWhereItHolds value limit state binding control element)
    exact (over sets) found element simple few e =
        let is : found ≡ elements state sets = sized_so at binding (elements state sets) found e in (
          λ there. (of_product sets element simple few (sym (ap (λ (those : List (List ℕ)). has those element) is) ∙ there), tt),
          λ h. ap (λ (those : List (List ℕ)). has those element) is ∙ in_product sets element simple few h.0,
        )
    exact (over_where sets condition) found element simple few e =
        let same : has found element ≡ (has (elements state sets) element && kept (tested condition sets) element) =
        ap (λ (those : List (List ℕ)). has those element) (chosen sets condition found e) ∙ has-filter (kept (tested condition sets)) (elements state sets) element in (
          λ there.
              let two = and_parts (has (elements state sets) element) (kept (tested condition sets) element) (sym same ∙ there) in
              (of_product sets element simple few two.0, holds_so (tested condition sets element) two.1),
          λ h. same ∙ ap (λ (b : Bool). b && kept (tested condition sets) element) (in_product sets element simple few h.0) ∙ ap holding h.1,
        )
