-- The labels of an element of sets over one position are members of the sets.
use Rattle.std.proofs.lemmas.Bool.{and_parts}
use Rattle.std.proofs.Common.{◌≡◌, ℕ, Bool, true, false, ◌&&◌, List, [], ◌∷◌, map, length, nat_eq, sym, ◌∙◌}
use Rattle.std.specs.Prelude.{if◌then◌else◌, nat_le}
use Rattle.std.specs.List.{All, list_any}
use Rattle.std.proofs.lemmas.List.Elements.{All-head, All-tail}
use Rattle.gms_tuple.specs.Products.{tuple_product}
use Rattle.gms_tuple.specs.TupleSet.{has}
use Rattle.gms_store.specs.State.{State}
use Rattle.gms_eval.specs.Domain.{elements, labels_of, IsSimple}
use Rattle.gms_eval.proofs.Ascents.{all_in, has-product}
use Rattle.gms_eval.proofs.Simple.{has-label}
use Rattle.gms_run_laws.specs.Labels.{AreMembers}

second-holds : (a b : Bool) → (a && b) ≡ true → b ≡ true
second-holds true b e = e
second-holds false b e = absurd (cc)

module _ (state : State) where
  all-members : (sets element : List ℕ) → All (IsSimple state) sets → all_in (map (labels_of state) sets) element ≡ true → AreMembers state sets element
  all-members [] [] simple there = tt
  all-members [] (label ∷ element) simple there = absurd (cc)
  all-members (set ∷ sets) [] simple there = absurd (cc)
  all-members (set ∷ sets) (label ∷ element) simple there =
      let here = list_any (λ m. nat_eq m label) (labels_of state set) in
      let rest = all_in (map (labels_of state) sets) element in
      (sym (has-label state set label (All-head (IsSimple state) set sets simple)) ∙ (and_parts here rest there).0, all-members sets element (All-tail (IsSimple state) set sets simple) (second-holds here rest there))

  pub element-members : (sets element : List ℕ) → All (IsSimple state) sets → has (elements state sets) element ≡ true → AreMembers state sets element
  element-members sets element simple there = by (nat_le (length sets) 10) there
    where
      by : (b : Bool) → has (if b then tuple_product (map (labels_of state) sets) else []) element ≡ true → AreMembers state sets element
      by true e =
          all-members sets element simple (sym (has-product (map (labels_of state) sets) element) ∙ e)
      by false e = absurd (cc)
