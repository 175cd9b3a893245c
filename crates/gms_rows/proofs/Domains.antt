-- The elements of the domain of a definition: each has a label for each set, and they are in order.
use Rattle.std.proofs.Common.{◌≡◌, ℕ, nat_lt, Bool, true, false, not, ◌==◌, if◌then◌else◌, List, [], ◌∷◌, length, get_or, filter, Option, Some, None, Ok, Err, refl, sym, subst}
use Rattle.std.specs.List.{All}
use Rattle.std.proofs.lemmas.List.Elements.{All-nil, All-cons, All-head, All-tail, All-filter, All-contains, Contains-get_or}
use Rattle.gms_labels.specs.declared.place.Place.{Place}
use Rattle.gq_number.specs.Number.{Number}
use Rattle.gms_ast.specs.Trees as tree
use Rattle.gms_tuple.specs.TupleOrder.{tuple_cmp, IsOrdered}
use Rattle.gms_tuple.proofs.Members.{has-Contains, Contains-has}
use Rattle.gms_tuple.proofs.Ordered.{first-before, rest-ordered, ordered-cons}
use Rattle.std.specs.declared.cmp.Ordering.TheVariants.{Less}
use Rattle.gms_store.specs.State.{State, members_of}
use Rattle.gms_eval.specs.Bindings.{controlled}
use Rattle.gms_eval.specs.Domain.{elements, most_elements, too_large, sized, those_where, IsSimple}
use Rattle.gms_eval.specs.Faults.{Answer, ◌and_then◌}
use Rattle.gms_eval.specs.Holds.{holds}
use Rattle.gms_eval.specs.Value.{domain, control_over}
use Rattle.gms_eval.proofs.Simple.{elements-ordered, element-length}
use Rattle.gms_rows.specs.Plain.{ArePlain}
use Rattle.gms_rows.specs.Rows.{distinct_numbers, sets_among}
use Rattle.gms_rows.specs.ElementRows.{AreInOrder}

-- ---- answers and their parts

-- What a step and then another gave.
pub record Given {A B : Type 0} (a : Answer A) (next : A → Answer B) (y : B) : Type 0 where
  pub value : A
  pub is : a ≡ Ok value
  pub next_is : next value ≡ Ok y

pub given : {A B : Type 0} (a : Answer A) (next : A → Answer B) (y : B) → (a and_then next) ≡ Ok y → Given a next y
given (Ok x) next y e = record { value = x; is = refl; next_is = e }
given (Err fault) next y e = absurd (cc)

-- an answer that is a value is no other
pub only_value : {A : Type 0} (x y : A) → ◌≡◌ {A = Answer A} (Ok x) (Ok y) → x ≡ y
only_value x y e = cc

-- ---- the elements for which a test holds

module _ (test : List ℕ → Answer Bool) where
  -- What the elements of a list are, where the first and the others are known.
  pub record First (x : List ℕ) (xs those : List (List ℕ)) : Type 0 where
    pub holds : Bool
    pub others : List (List ℕ)
    pub tested : test x ≡ Ok holds
    pub rest : those_where test xs ≡ Ok others
    pub is : those ≡ (if holds then x ∷ others else others)

  pub first_of : (x : List ℕ) (xs those : List (List ℕ)) → those_where test (x ∷ xs) ≡ Ok those → First x xs those
  first_of x xs those e =
      let one = given (test x) (λ holds. those_where test xs and_then λ others. Ok (if holds then x ∷ others else others)) those e in
      let two = given (those_where test xs) (λ others. Ok (if one.value then x ∷ others else others)) those one.next_is in
      record { holds = one.value; others = two.value; tested = one.is; rest = two.is; is = sym (only_value _ _ two.next_is) }

  -- what holds of all holds of those
  pub those-All : (P : List ℕ → Type 0) (xs those : List (List ℕ)) → All P xs → those_where test xs ≡ Ok those → All P those
  those-All P [] those all e = subst (All P) (only_value _ _ e) (All-nil P)
  those-All P (x ∷ xs) those all e =
      let f = first_of x xs those e in
      let rest = those-All P xs f.others (All-tail P x xs all) f.rest in
      subst (All P) (sym f.is) (by f.holds f.others rest)
    where
      by : (b : Bool) (others : List (List ℕ)) → All P others → All P (if b then x ∷ others else others)
      by true others rest = All-cons P x others (All-head P x xs all) rest
      by false others rest = rest

  -- those of elements in order are in order
  pub those-ordered : (xs those : List (List ℕ)) → IsOrdered xs → those_where test xs ≡ Ok those → IsOrdered those
  those-ordered [] those ordered e = subst IsOrdered (only_value _ _ e) ordered
  those-ordered (x ∷ xs) those ordered e =
      let f = first_of x xs those e in
      let rest = those-ordered xs f.others (rest-ordered x xs ordered) f.rest in
      let before = those-All (λ y. tuple_cmp x y ≡ Less) xs f.others (first-before x xs ordered) f.rest in
      subst IsOrdered (sym f.is) (by f.holds f.others rest before)
    where
      by : (b : Bool) (others : List (List ℕ)) → IsOrdered others → All (λ y. tuple_cmp x y ≡ Less) others → IsOrdered (if b then x ∷ others else others)
      by true others rest before = ordered-cons x others before rest
      by false others rest before = rest

-- ---- sets

-- what holds of all numbers holds of all after repetitions are removed
pub All-distinct_numbers : (P : ℕ → Type 0) (ns : List ℕ) → All P ns → All P (distinct_numbers ns)
All-distinct_numbers P [] all = all
All-distinct_numbers P (n ∷ ns) all =
    All-cons P n (filter (λ m. not (m == n)) (distinct_numbers ns)) (All-head P n ns all) (All-filter (λ m. not (m == n)) P (distinct_numbers ns) (All-distinct_numbers P ns (All-tail P n ns all)))

module _ {F : Type 0} (state : State) where
  -- the sets of plain indices have members of one label
  plain-sets : (indices : tree.Indices F) → ArePlain state indices → All (λ set. All (λ t. length t ≡ 1) (members_of state set)) (sets_among indices)
  plain-sets tree.no_index plain = All-nil (λ set. All (λ t. length t ≡ 1) (members_of state set))
  plain-sets (tree.label n rest) plain = plain-sets rest plain
  plain-sets (tree.set set rest) plain =
      All-cons (λ set. All (λ t. length t ≡ 1) (members_of state set)) set (sets_among rest) plain.0 (plain-sets rest plain.1)
  plain-sets (tree.lagged set op at amount rest) plain = absurd plain

  -- and are simple where they are in order
  pub plain-simple : (indices : tree.Indices F) → ArePlain state indices → AreInOrder state (distinct_numbers (sets_among indices)) → All (IsSimple state) (distinct_numbers (sets_among indices))
  plain-simple indices plain kept =
      let singles = All-distinct_numbers (λ set. All (λ t. length t ≡ 1) (members_of state set)) (sets_among indices) (plain-sets indices plain) in
      λ k d below. (kept k d below, λ member there. All-contains (λ t. length t ≡ 1) (members_of state (get_or (distinct_numbers (sets_among indices)) k d)) member (singles k d below) (Contains-has (members_of state (get_or (distinct_numbers (sets_among indices)) k d)) member there))

-- ---- domains

-- the elements that are few enough are these
pub sized-is : (at : Place) (those found : List (List ℕ)) → sized at [] those ≡ Ok found → those ≡ found
sized-is at those found e = by (nat_lt most_elements (length those)) e
  where
    by : (b : Bool) → (if b then Err (too_large at [] (length those)) else Ok those) ≡ Ok found → those ≡ found
    by true e = absurd (cc)
    by false e = only_value _ _ e

module _ {F : Type 0} (v : F → Number) (limit : ℕ) (state : State) (at : Place) (sets : List ℕ) (simple : All (IsSimple state) sets) where
  elements-long : All (λ t. length t ≡ length sets) (elements state sets)
  elements-long k d below =
      let all = elements state sets in
      element-length state sets (get_or all k d) (has-Contains all (get_or all k d) (Contains-get_or all k d below))

  -- What is known of the elements of a domain.
  pub record IsDomain (found : List (List ℕ)) : Type 0 where
    pub ordered : IsOrdered found
    pub long : All (λ t. length t ≡ length sets) found

  pub domain-known : (condition : Option (tree.Tree F)) (found : List (List ℕ)) → domain v limit state [] at (control_over sets condition) ≡ Ok found → IsDomain found
  domain-known None found e =
      let is = sized-is at (elements state sets) found e in
      record { ordered = subst IsOrdered is (elements-ordered state sets simple); long = subst (All (λ t. length t ≡ length sets)) is elements-long }
  domain-known (Some condition) found e =
      let all = given (sized at [] (elements state sets)) (λ all. those_where (λ element. holds v limit state (controlled [] sets element) condition) all) found e in
      let is = sized-is at (elements state sets) all.value all.is in
      let ordered = subst IsOrdered is (elements-ordered state sets simple) in
      let long = subst (All (λ t. length t ≡ length sets)) is elements-long in
      record {
        ordered = those-ordered (λ element. holds v limit state (controlled [] sets element) condition) all.value found ordered all.next_is;
        long = those-All (λ element. holds v limit state (controlled [] sets element) condition) (λ t. length t ≡ length sets) all.value found long all.next_is;
      }
