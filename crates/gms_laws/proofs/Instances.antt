-- A plan satisfies an equation exactly where it satisfies the equation's definition: each instance
-- is that of an element of the domain, and each element of the domain is an instance.
use Rattle.std.proofs.Common.{◌≡◌, ℕ, ◌≤◌, ◌+◌, ◌==◌, Bool, true, false, not, ◌||◌, cond, if◌then◌else◌, List, [], ◌∷◌, length, get_or, filter, Option, Some, None, option_map, is_some, Ok, refl, sym, ap, ◌∙◌, subst, arith, eq-eqb, le-leb}
use Rattle.std.specs.List.{All}
use Rattle.std.proofs.lemmas.Bool.{eqb-true, or_left, or_right}
use Rattle.std.proofs.lemmas.List.Elements.{All-nil, All-cons, All-contains, Contains-get_or}
use Rattle.gq_number.specs.Number.{Number}
use Rattle.gms_ast.specs.Trees as tree
use Rattle.gms_labels.specs.declared.place.Place.{Place}
use Rattle.gms_store.specs.State.{State}
use Rattle.gms_tuple.specs.TupleOrder.{same_tuple}
use Rattle.gms_tuple.specs.TupleSet.{has}
use Rattle.gms_tuple.proofs.Members.{has-Contains, Contains-has}
use Rattle.gms_tuple.proofs.Ordered.{same_tuple-Decides}
use Rattle.gms_eval.specs.Bindings.{Pairs, label_of, paired, controlled}
use Rattle.gms_eval.specs.Domain.{elements, sized, those_where}
use Rattle.gms_eval.specs.Faults.{Answer, ◌and_then◌}
use Rattle.gms_eval.specs.Holds.{holds}
use Rattle.gms_eval.specs.Leaders.{number_of_indices}
use Rattle.gms_eval.specs.Nodes.{in_order}
use Rattle.gms_eval.specs.References.{all_there}
use Rattle.gms_eval.specs.Value.{labels, domain, control_over}
use Rattle.gms_eval.proofs.Simple.{element-length}
use Rattle.lp_form.specs.declared.key.Key.{Key}
use Rattle.gms_rows.specs.ElementRows.{sets_of_definition, bound_to, holds_for}
use Rattle.gms_rows.specs.ModelPoints.{SidesCompare, KeepsDefinition, is_there}
use Rattle.gms_rows.specs.Rows.{Definition, distinct_numbers, has_lag, sets_among}
use Rattle.gms_rows.proofs.Domains.{given, only_value, first_of, those-All, sized-is}

-- ---- the elements of a domain

-- the elements of a list are among them
members : (xs : List (List ℕ)) → All (λ t. has xs t ≡ true) xs
members xs k d below = has-Contains xs (get_or xs k d) (Contains-get_or xs k d below)

module _ (test : List ℕ → Answer Bool) where
  -- those for which a test holds pass it
  those-pass : (xs those : List (List ℕ)) → those_where test xs ≡ Ok those → All (λ t. test t ≡ Ok true) those
  those-pass [] those e =
      subst (All (λ t. test t ≡ Ok true)) (only_value _ _ e) (All-nil (λ t. test t ≡ Ok true))
  those-pass (x ∷ xs) those e =
      let f = first_of test x xs those e in
      subst (All (λ t. test t ≡ Ok true)) (sym f.is) (by f.holds f.others f.tested (those-pass xs f.others f.rest))
    where
      by : (b : Bool) (others : List (List ℕ)) → test x ≡ Ok b → All (λ t. test t ≡ Ok true) others → All (λ t. test t ≡ Ok true) (if b then x ∷ others else others)
      by true others is rest = All-cons (λ t. test t ≡ Ok true) x others is rest
      by false others is rest = rest

  -- and what passes it is one of them
  those-have : (xs those : List (List ℕ)) (t : List ℕ) → those_where test xs ≡ Ok those → has xs t ≡ true → test t ≡ Ok true → has those t ≡ true
  those-have [] those t e there is = absurd (cc)
  those-have (x ∷ xs) those t e there is =
      let f = first_of test x xs those e in
      ap (λ ys. has ys t) f.is
      ∙ by f.holds f.others (λ later. those-have xs f.others t f.rest later is) (same_tuple x t) refl f.tested there
    where
      by : (so : Bool) (others : List (List ℕ)) → (has xs t ≡ true → has others t ≡ true) → (same : Bool) → same_tuple x t ≡ same → test x ≡ Ok so → (same_tuple x t || has xs t) ≡ true → has (if so then x ∷ others else others) t ≡ true
      by true others later true same tested there = or_left (same_tuple x t) (has others t) same
      by false others later true same tested there =
          let no : false ≡ true = only_value false true (sym tested ∙ ap test ((same_tuple-Decides x t).0 same) ∙ is) in absurd (cc)
      by true others later false other tested there = or_right (same_tuple x t) (has others t) (later (sym (ap (λ c. c || has xs t) other) ∙ there))
      by false others later false other tested there = later (sym (ap (λ c. c || has xs t) other) ∙ there)

module _ {F : Type 0} (v : F → Number) (limit : ℕ) (state : State) (at : Place) (sets : List ℕ) where
  -- each element of a domain is one of the sets, and its condition holds
  domain-all : (condition : Option (tree.Tree F)) (found : List (List ℕ)) → domain v limit state [] at (control_over sets condition) ≡ Ok found → All (λ t. (has (elements state sets) t ≡ true) × (holds_for v limit state (controlled [] sets t) condition ≡ Ok true)) found
  domain-all None found e =
      let is = sized-is at (elements state sets) found e in
      subst (All (λ t. (has (elements state sets) t ≡ true) × (holds_for v limit state (controlled [] sets t) None ≡ Ok true))) is (λ k d below. (members (elements state sets) k d below, refl))
  domain-all (Some condition) found e =
      let all = given (sized at [] (elements state sets)) (λ all. those_where (λ element. holds v limit state (controlled [] sets element) condition) all) found e in
      let is = sized-is at (elements state sets) all.value all.is in
      let within = those-All (λ element. holds v limit state (controlled [] sets element) condition) (λ t. has (elements state sets) t ≡ true) all.value found (subst (All (λ t. has (elements state sets) t ≡ true)) is (members (elements state sets))) all.next_is in
      let pass = those-pass (λ element. holds v limit state (controlled [] sets element) condition) all.value found all.next_is in
      λ k d below. (within k d below, pass k d below)

  -- and each such element is one of the domain
  domain-have : (condition : Option (tree.Tree F)) (found : List (List ℕ)) (t : List ℕ) → domain v limit state [] at (control_over sets condition) ≡ Ok found → has (elements state sets) t ≡ true → holds_for v limit state (controlled [] sets t) condition ≡ Ok true → has found t ≡ true
  domain-have None found t e there is = ap (λ xs. has xs t) (sym (sized-is at (elements state sets) found e)) ∙ there
  domain-have (Some condition) found t e there is =
      let all = given (sized at [] (elements state sets)) (λ all. those_where (λ element. holds v limit state (controlled [] sets element) condition) all) found e in
      let same = sized-is at (elements state sets) all.value all.is in
      those-have (λ element. holds v limit state (controlled [] sets element) condition) all.value found t all.next_is (subst (λ xs. has xs t ≡ true) same there) is

-- ---- the labels of its indices

-- each of some sets stands for a label
abbrev Occur : Pairs → List ℕ → Type 0
Occur binding [] = Unit {0}
Occur binding (set ∷ sets) = (is_some (label_of binding set) ≡ true) × Occur binding sets

occur-more : (set label : ℕ) (pairs : Pairs) (sets : List ℕ) → Occur pairs sets → Occur ((set, label) ∷ pairs) sets
occur-more set label pairs [] all = tt
occur-more set label pairs (other ∷ sets) all = (by (set == other), occur-more set label pairs sets all.1)
  where
    by : (b : Bool) → is_some (cond b (Some label) (label_of pairs other)) ≡ true
    by true = refl
    by false = all.0

paired-occur : (sets element : List ℕ) → length element ≡ length sets → Occur (paired sets element) sets
paired-occur [] element long = tt
paired-occur (set ∷ sets) [] long = absurd (omega (arith, long))
paired-occur (set ∷ sets) (label ∷ element) long =
    (ap (λ (b : Bool). is_some (cond b (Some label) (label_of (paired sets element) set))) (eq-eqb set set refl), occur-more set label (paired sets element) sets (paired-occur sets element (omega (arith, long))))

-- what holds of each number once holds of all
occur-unfiltered : (binding : Pairs) (n : ℕ) (sets : List ℕ) → is_some (label_of binding n) ≡ true → Occur binding (filter (λ m. not (m == n)) sets) → Occur binding sets
occur-unfiltered binding n [] one all = tt
occur-unfiltered binding n (set ∷ sets) one all = by (set == n) refl all (occur-unfiltered binding n sets one)
  where
    by : (b : Bool) → (set == n) ≡ b → Occur binding (cond (not b) (set ∷ filter (λ m. not (m == n)) sets) (filter (λ m. not (m == n)) sets)) → (Occur binding (filter (λ m. not (m == n)) sets) → Occur binding sets) → Occur binding (set ∷ sets)
    by true same all rest =
        (subst (λ m. is_some (label_of binding m) ≡ true) (sym (eqb-true set n same)) one, rest all)
    by false other all rest = (all.0, rest all.1)

occur-all : (binding : Pairs) (sets : List ℕ) → Occur binding (distinct_numbers sets) → Occur binding sets
occur-all binding [] all = tt
occur-all binding (set ∷ sets) all =
    (all.0, occur-all binding sets (occur-unfiltered binding set (distinct_numbers sets) all.0 all.1))

module _ {F : Type 0} (v : F → Number) (limit : ℕ) (state : State) (binding : Pairs) where
  -- The labels of indices all exist.
  pub record HaveLabels (indices : tree.Indices F) : Type 0 where
    pub those : List (Option ℕ)
    pub are : in_order (labels v limit state binding indices) ≡ Ok those
    pub there : is_some (all_there those) ≡ true
    pub long : length those ≡ number_of_indices indices

  some-more : (label : ℕ) (o : Option (List ℕ)) → is_some o ≡ true → is_some (option_map (λ labels. label ∷ labels) o) ≡ true
  some-more label None e = absurd (cc)
  some-more label (Some labels) e = refl

  with-label : (label : ℕ) (index : tree.Indices F → tree.Indices F) (rest : tree.Indices F) → (labels v limit state binding (index rest) ≡ Ok (Some label) ∷ labels v limit state binding rest) → number_of_indices (index rest) ≡ number_of_indices rest + 1 → HaveLabels rest → HaveLabels (index rest)
  with-label label index rest same count have =
      let long = have.long in
      record {
        those = Some label ∷ have.those;
        are = ap in_order same ∙ ap (λ (a : Answer (List (Option ℕ))). a and_then λ xs. Ok (Some label ∷ xs)) have.are;
        there = some-more label (all_there have.those) have.there;
        long = omega (arith, long, count);
      }

  have-labels : (indices : tree.Indices F) → has_lag indices ≡ false → Occur binding (sets_among indices) → HaveLabels indices
  have-labels tree.no_index none all = record { those = []; are = refl; there = refl; long = refl }
  have-labels (tree.label label rest) none all =
      with-label label (λ (is : tree.Indices F). tree.label label is) rest refl (omega arith) (have-labels rest none all)
  have-labels (tree.set set rest) none all = by (label_of binding set) refl all.0 (have-labels rest none all.1)
    where
      by : (o : Option ℕ) → label_of binding set ≡ o → is_some o ≡ true → HaveLabels rest → HaveLabels (tree.set set rest)
      by None e some have = absurd (cc)
      by (Some label) e some have =
          with-label label (λ (is : tree.Indices F). tree.set set is) rest (ap (λ (o : Option ℕ). Ok o ∷ labels v limit state binding rest) e) (omega arith) have
  have-labels (tree.lagged set op at amount rest) none all = absurd (cc)

  are-there : (indices : tree.Indices F) → number_of_indices indices ≤ 10 → HaveLabels indices → is_there (in_order (labels v limit state binding indices)) ≡ true
  are-there indices few have =
      let long = have.long in
      ap is_there have.are
      ∙ ap (λ (b : Bool). is_some (cond b (all_there have.those) None)) (le-leb (length have.those) 10 (omega (arith, long, few)))
      ∙ have.there

-- ---- equations

-- A definition without lags, with at most 10 indices, as each of an accepted program.
pub record IsShort {F : Type 0} (d : Definition F) : Type 0 where
  pub no_lag : has_lag d.indices ≡ false
  pub few : number_of_indices d.indices ≤ 10

module _ {F : Type 0} (v : F → Number) (limit : ℕ) (state : State) (point : Key → Number) (d : Definition F) where
  abbrev Satisfied : Type 0
  Satisfied = (element : List ℕ) → has (elements state (sets_of_definition d)) element ≡ true → holds_for v limit state (bound_to d element) d.condition ≡ Ok true → SidesCompare v limit state point d (bound_to d element)

  pub satisfied-keeps : Satisfied → KeepsDefinition v limit state point d
  satisfied-keeps satisfied found e =
      let all = domain-all v limit state d.at (sets_of_definition d) d.condition found e in
      λ k t below there. satisfied (get_or found k t) (all k t below).0 (all k t below).1

  labels-there : IsShort d → (element : List ℕ) → has (elements state (sets_of_definition d)) element ≡ true → is_there (in_order (labels v limit state (bound_to d element) d.indices)) ≡ true
  labels-there short element there =
      let occur = occur-all (bound_to d element) (sets_among d.indices) (paired-occur (sets_of_definition d) element (element-length state (sets_of_definition d) element there)) in
      are-there v limit state (bound_to d element) d.indices short.few (have-labels v limit state (bound_to d element) d.indices short.no_lag occur)

  pub keeps-satisfied : IsShort d → (found : List (List ℕ)) → domain v limit state [] d.at (control_over (sets_of_definition d) d.condition) ≡ Ok found → KeepsDefinition v limit state point d → Satisfied
  keeps-satisfied short found e keeps element there holds =
      let among = domain-have v limit state d.at (sets_of_definition d) d.condition found element e there holds in
      All-contains (λ t. is_there (in_order (labels v limit state (bound_to d t) d.indices)) ≡ true → SidesCompare v limit state point d (bound_to d t)) found element (keeps found e) (Contains-has found element among) (labels-there short element there)
