-- Each row of a definition is that of one element whose condition holds, and each such element has
-- one.
use Rattle.std.proofs.Common.{◌≡◌, ◌≢◌, ℕ, Bool, true, false, ◌||◌, cond, if◌then◌else◌, List, [], ◌∷◌, map, length, get_or, Option, Some, None, Ok, refl, sym, ap, ◌∙◌, subst, arith}
use Rattle.std.specs.Prelude.{count_by}
use Rattle.std.specs.List.{All, AllPairs}
use Rattle.std.proofs.lemmas.Bool.{both_ways}
use Rattle.std.proofs.lemmas.List.Elements.{All-nil, All-cons, All-head, All-tail, All-weaker, Contains-get_or}
use Rattle.std.proofs.lemmas.List.Sums.{sum_by-cons}
use Rattle.std.specs.declared.cmp.Ordering.TheVariants.{Less}
use Rattle.gq_number.specs.Number.{Number}
use Rattle.gms_ast.specs.Trees as tree
use Rattle.gms_labels.specs.declared.place.Place.{Place}
use Rattle.gms_tuple.specs.TupleOrder.{tuple_cmp, same_tuple, IsOrdered}
use Rattle.gms_tuple.specs.TupleSet.{has}
use Rattle.gms_tuple.proofs.Members.{has-Contains}
use Rattle.gms_tuple.proofs.Ordered.{first-before, rest-ordered, same_tuple-Decides, same_tuple_refl, same_tuple-Greater, tuple_cmp-flip}
use Rattle.gms_store.specs.State.{State}
use Rattle.gms_eval.specs.Nodes.{in_order}
use Rattle.gms_eval.specs.Bindings.{controlled}
use Rattle.gms_eval.specs.Domain.{elements, sized, those_where}
use Rattle.gms_eval.specs.Faults.{Answer}
use Rattle.gms_eval.specs.Holds.{holds}
use Rattle.gms_eval.specs.Value.{domain, control_over}
use Rattle.gms_eval.proofs.Simple.{elements-ordered, element-length}
use Rattle.gms_rows.specs.ElementRows.{sets_of_definition, bound_to, holds_for, tuple_at, IsRowOf, HasPlainSets}
use Rattle.gms_rows.specs.Plain.{ArePlain}
use Rattle.gms_rows.specs.Rows.{Definition, FormRow, present_rows, rows_of_definition}
use Rattle.gms_rows.proofs.Domains.{given, only_value, first_of, those-All, plain-simple, domain-known, sized-is}
use Rattle.gms_rows.proofs.RowKeys.{IsMade, the_same, row-known, row-absent, rows-parts, rows-All, tuple-decides, sourced, definition-apart}
use Rattle.gms_rows.proofs.RowSequences.{row_of}

-- ---- which elements a domain has

-- the elements of a list are among them
members : (xs : List (List ℕ)) → All (λ t. has xs t ≡ true) xs
members xs k d below = has-Contains xs (get_or xs k d) (Contains-get_or xs k d below)

or-false : (a b : Bool) → a ≡ false → (a || b) ≡ b
or-false a b e = ap (λ c. c || b) e

-- a tuple that differs from all of a list is not in it
none_of : (others : List (List ℕ)) (t : List ℕ) → All (λ y. same_tuple y t ≡ false) others → has others t ≡ false
none_of [] t all = refl
none_of (y ∷ ys) t all =
    or-false (same_tuple y t) (has ys t) (All-head (λ y. same_tuple y t ≡ false) y ys all) ∙ none_of ys t (All-tail (λ y. same_tuple y t ≡ false) y ys all)

absent : (x t : List ℕ) (others : List (List ℕ)) → All (λ y. tuple_cmp x y ≡ Less) others → x ≡ t → has others t ≡ false
absent x t others before at =
    none_of others t (λ k d below. same_tuple-Greater (get_or others k d) t (ap (tuple_cmp (get_or others k d)) (sym at) ∙ tuple_cmp-flip x (get_or others k d) Less (before k d below)))

module _ (test : List ℕ → Answer Bool) where
  -- those for which a test holds pass it
  those-pass : (xs those : List (List ℕ)) → those_where test xs ≡ Ok those → All (λ t. test t ≡ Ok true) those
  those-pass [] those e =
      subst (All (λ t. test t ≡ Ok true)) (only_value _ _ e) (All-nil (λ t. test t ≡ Ok true))
  those-pass (x ∷ xs) those e =
      let f = first_of test x xs those e in
      subst (All (λ t. test t ≡ Ok true)) (sym f.is) (by f.holds f.others f.tested (those-pass xs f.others f.rest))
    where
      by : (b : Bool) (others : List (List ℕ)) → test x ≡ Ok b → All (λ t. test t ≡ Ok true) others → All (λ t. test t ≡ Ok true) (if b then x ∷ others else others)
      by true others is rest = All-cons (λ t. test t ≡ Ok true) x others is rest
      by false others is rest = rest

  module _ (x t : List ℕ) where
    here : (so : Bool) (others : List (List ℕ)) → same_tuple x t ≡ true → has others t ≡ false → has (if so then x ∷ others else others) t ≡ so
    here true others same none = ap (λ c. c || has others t) same
    here false others same none = none

    not_here : (so : Bool) (others : List (List ℕ)) → same_tuple x t ≡ false → has (if so then x ∷ others else others) t ≡ has others t
    not_here true others other = or-false (same_tuple x t) (has others t) other
    not_here false others other = refl

  -- an element is one of those exactly where it passes
  those-has : (xs those : List (List ℕ)) (t : List ℕ) (b : Bool) → IsOrdered xs → those_where test xs ≡ Ok those → has xs t ≡ true → test t ≡ Ok b → has those t ≡ b
  those-has [] those t b ordered e there is = absurd (cc)
  those-has (x ∷ xs) those t b ordered e there is =
      let f = first_of test x xs those e in
      ap (λ ys. has ys t) f.is
      ∙ by f.holds f.others (λ later. those-has xs f.others t b (rest-ordered x xs ordered) f.rest later is) (same_tuple x t) refl f.tested f.rest there
    where
      by : (so : Bool) (others : List (List ℕ)) → (has xs t ≡ true → has others t ≡ b) → (same : Bool) → same_tuple x t ≡ same → test x ≡ Ok so → those_where test xs ≡ Ok others → (same_tuple x t || has xs t) ≡ true → has (if so then x ∷ others else others) t ≡ b
      by so others later true same tested rest there =
          let at : x ≡ t = (same_tuple-Decides x t).0 same in
          let none : has others t ≡ false = absent x t others (those-All test (λ y. tuple_cmp x y ≡ Less) xs others (first-before x xs ordered) rest) at in
          here x t so others same none ∙ only_value _ _ (sym tested ∙ ap test at ∙ is)
      by so others later false other tested rest there =
          not_here x t so others other ∙ later (sym (or-false (same_tuple x t) (has xs t) other) ∙ there)

module _ {F : Type 0} (v : F → Number) (limit : ℕ) (state : State) (at : Place) (sets : List ℕ) where
  -- each element of a domain is one of the sets, and its condition holds
  domain-All : (condition : Option (tree.Tree F)) (found : List (List ℕ)) → domain v limit state [] at (control_over sets condition) ≡ Ok found → All (λ t. (has (elements state sets) t ≡ true) × (holds_for v limit state (controlled [] sets t) condition ≡ Ok true)) found
  domain-All None found e =
      let is = sized-is at (elements state sets) found e in
      subst (All (λ t. (has (elements state sets) t ≡ true) × (holds_for v limit state (controlled [] sets t) None ≡ Ok true))) is (λ k d below. (members (elements state sets) k d below, refl))
  domain-All (Some condition) found e =
      let all = given (sized at [] (elements state sets)) (λ all. those_where (λ element. holds v limit state (controlled [] sets element) condition) all) found e in
      let is = sized-is at (elements state sets) all.value all.is in
      let within = those-All (λ element. holds v limit state (controlled [] sets element) condition) (λ t. has (elements state sets) t ≡ true) all.value found (subst (All (λ t. has (elements state sets) t ≡ true)) is (members (elements state sets))) all.next_is in
      let pass = those-pass (λ element. holds v limit state (controlled [] sets element) condition) all.value found all.next_is in
      λ k d below. (within k d below, pass k d below)

  -- an element of the sets is one of a domain exactly where its condition holds
  domain-has : (condition : Option (tree.Tree F)) (found : List (List ℕ)) (t : List ℕ) (b : Bool) → IsOrdered (elements state sets) → domain v limit state [] at (control_over sets condition) ≡ Ok found → has (elements state sets) t ≡ true → holds_for v limit state (controlled [] sets t) condition ≡ Ok b → has found t ≡ b
  domain-has None found t b ordered e there is =
      ap (λ xs. has xs t) (sym (sized-is at (elements state sets) found e)) ∙ there ∙ only_value _ _ is
  domain-has (Some condition) found t b ordered e there is =
      let all = given (sized at [] (elements state sets)) (λ all. those_where (λ element. holds v limit state (controlled [] sets element) condition) all) found e in
      let same = sized-is at (elements state sets) all.value all.is in
      those-has (λ element. holds v limit state (controlled [] sets element) condition) all.value found t b (subst IsOrdered same ordered) all.next_is (subst (λ xs. has xs t ≡ true) same there) is

-- ---- how many rows have a tuple

counted-yes : {X : Type 0} (p : X → Bool) (x : X) (xs : List X) → p x ≡ true → count_by p xs ≡ 0 → count_by p (x ∷ xs) ≡ 1
counted-yes p x xs e rest =
    let first = sum_by-cons (λ y. cond (p y) 1 0) x xs in
    let at : ◌≡◌ {A = ℕ} (cond (p x) 1 0) 1 = ap (λ b. cond b 1 0) e in omega (arith, first, at, rest)

counted-no : {X : Type 0} (p : X → Bool) (x : X) (xs : List X) → p x ≡ false → count_by p (x ∷ xs) ≡ count_by p xs
counted-no p x xs e =
    let first = sum_by-cons (λ y. cond (p y) 1 0) x xs in
    let at : ◌≡◌ {A = ℕ} (cond (p x) 1 0) 0 = ap (λ b. cond b 1 0) e in omega (arith, first, at)

module _ {F : Type 0} (v : F → Number) (limit : ℕ) (state : State) (d : Definition F) (plain : ArePlain state d.indices) where
  unlike : (x element t : List ℕ) (row : FormRow) → length element ≡ length (sets_of_definition d) → length x ≡ length (sets_of_definition d) → tuple_at v limit state d element ≡ Ok (Some t) → same_tuple x element ≡ false → row_of v limit state d x ≡ Ok (Some row) → (b : Bool) → same_tuple row.key.tuple t ≡ b → same_tuple row.key.tuple t ≡ false
  unlike x element t row l m tuple other made false e = e
  unlike x element t row l m tuple other made true e =
      let known = row-known v limit state d plain x row made in
      let is : row.key.tuple ≡ t = (same_tuple-Decides row.key.tuple t).0 e in
      let at : x ≡ element = tuple-decides v limit state d plain x element t m l (known.tuple ∙ ap (λ y. Ok (Some y)) is) tuple in
      absurd (both_ways (same_tuple x element) other ((same_tuple-Decides x element).1 at))

  rows-count : (xs : List (List ℕ)) (made : List (Option FormRow)) (element t : List ℕ) → IsOrdered xs → All (λ x. length x ≡ length (sets_of_definition d)) xs → length element ≡ length (sets_of_definition d) → tuple_at v limit state d element ≡ Ok (Some t) → in_order (map (row_of v limit state d) xs) ≡ Ok made → count_by (λ (row : FormRow). same_tuple row.key.tuple t) (present_rows made) ≡ (if has xs element then 1 else 0)
  rows-count [] made element t ordered long l tuple e =
      ap (λ those. count_by (λ (row : FormRow). same_tuple row.key.tuple t) (present_rows those)) (sym (only_value _ _ e))
  rows-count (x ∷ xs) made element t ordered long l tuple e =
      let parts = rows-parts v limit state d plain x xs made e in
      let rest = rows-count xs parts.later element t (rest-ordered x xs ordered) (All-tail (λ x. length x ≡ length (sets_of_definition d)) x xs long) l tuple parts.rest in
      ap (λ those. count_by (λ (row : FormRow). same_tuple row.key.tuple t) (present_rows those)) parts.is
      ∙ by (same_tuple x element) refl parts.row parts.later parts.first rest
    where
      by : (same : Bool) → same_tuple x element ≡ same → (row : Option FormRow) (later : List (Option FormRow)) → row_of v limit state d x ≡ Ok row → count_by (λ (row : FormRow). same_tuple row.key.tuple t) (present_rows later) ≡ (if has xs element then 1 else 0) → count_by (λ (row : FormRow). same_tuple row.key.tuple t) (present_rows (row ∷ later)) ≡ (if same || has xs element then 1 else 0)
      by true same None later made rest =
          let at : x ≡ element = (same_tuple-Decides x element).0 same in
          let none = row-absent v limit state d plain x made in
          let both : ◌≡◌ {A = Answer (Option (List ℕ))} (Ok None) (Ok (Some t)) = sym none ∙ ap (tuple_at v limit state d) at ∙ tuple in
          absurd (cc)
      by true same (Some row) later made rest =
          let at : x ≡ element = (same_tuple-Decides x element).0 same in
          let known = row-known v limit state d plain x row made in
          let is : row.key.tuple ≡ t = the_same _ _ (only_value _ _ (sym known.tuple ∙ ap (tuple_at v limit state d) at ∙ tuple)) in
          let none = absent x element xs (first-before x xs ordered) at in
          counted-yes (λ (row : FormRow). same_tuple row.key.tuple t) row (present_rows later) (ap (λ y. same_tuple y t) is ∙ same_tuple_refl t) (rest ∙ ap (λ b. if b then 1 else 0) none)
      by false other None later made rest = rest
      by false other (Some row) later made rest =
          counted-no (λ (row : FormRow). same_tuple row.key.tuple t) row (present_rows later) (unlike x element t row l (All-head (λ x. length x ≡ length (sets_of_definition d)) x xs long) tuple other made (same_tuple row.key.tuple t) refl) ∙ rest

-- ---- the laws

module _ {F : Type 0} (v : F → Number) (limit : ℕ) (state : State) (d : Definition F) (rows : List FormRow) (sets : HasPlainSets state d) (e : rows_of_definition v limit state d ≡ Ok rows) where
  -- each row is that of an element whose condition holds
  pub row-sources : All (λ row. (element : List ℕ) × IsRowOf v limit state d row element) rows
  row-sources =
      let source = sourced v limit state d rows e in
      let known = domain-All v limit state d.at (sets_of_definition d) d.condition source.elements source.domain in
      let all = rows-All v limit state d sets.plain (λ t. (has (elements state (sets_of_definition d)) t ≡ true) × (holds_for v limit state (bound_to d t) d.condition ≡ Ok true)) source.elements source.made known source.answered in
      subst (All (λ (row : FormRow). (element : List ℕ) × IsRowOf v limit state d row element)) source.is
      (All-weaker (λ (row : FormRow). (element : List ℕ) × ((has (elements state (sets_of_definition d)) element ≡ true) × (holds_for v limit state (bound_to d element) d.condition ≡ Ok true)) × IsMade v limit state d sets.plain row element) (λ row. (element : List ℕ) × IsRowOf v limit state d row element) (λ row made. (made.0, record { there = made.1.0; holds = made.1.1; equation = made.2.equation; tuple = made.2.tuple; sense = made.2.sense; form = made.2.form })) (present_rows source.made) all)

  -- at the tuple of an element there is one row where its condition holds, and else none
  pub row-one : (element t : List ℕ) (b : Bool) → has (elements state (sets_of_definition d)) element ≡ true → holds_for v limit state (bound_to d element) d.condition ≡ Ok b → tuple_at v limit state d element ≡ Ok (Some t) → count_by (λ (row : FormRow). same_tuple row.key.tuple t) rows ≡ (if b then 1 else 0)
  row-one element t b there holds tuple =
      let source = sourced v limit state d rows e in
      let simple = plain-simple state d.indices sets.plain sets.ordered in
      let known = domain-known v limit state d.at (sets_of_definition d) simple d.condition source.elements source.domain in
      let long = element-length state (sets_of_definition d) element there in
      ap (count_by (λ (row : FormRow). same_tuple row.key.tuple t)) (sym source.is)
      ∙ rows-count v limit state d sets.plain source.elements source.made element t known.ordered known.long long tuple source.answered
      ∙ ap (λ b. if b then 1 else 0) (domain-has v limit state d.at (sets_of_definition d) d.condition source.elements element b (elements-ordered state (sets_of_definition d) simple) source.domain there holds)

  -- no two rows have the same key
  pub row-differ : AllPairs (λ a b. a.key ≢ b.key) rows
  row-differ = definition-apart v limit state d rows sets.plain sets.ordered e
