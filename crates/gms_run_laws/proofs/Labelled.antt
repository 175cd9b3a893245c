-- Where each controlled set has a label, so has each set among the indices of a reference of an
-- accepted program.
use Rattle.std.proofs.Common.{◌≡◌, ◌≤◌, ℕ, ◌+◌, ℤ, Bool, true, false, ◌||◌, ◌==◌, List, [], ◌∷◌, ◌++◌, length, get_or, Option, Some, None, is_some, option_map, option_and_then, Ok, refl, sym, ap, ◌∙◌, subst, if◌then◌else◌, eq-eqb, inl, inr, arith}
use Rattle.std.specs.Prelude.{nat_le, ok_or}
use Rattle.std.specs.List.{All}
use Rattle.std.proofs.lemmas.Bool.{eqb-true}
use Rattle.std.proofs.lemmas.Bool.Decides.{nat_tests}
use Rattle.std.proofs.lemmas.List.Elements.{All-nil, All-cons, All-head, All-tail, All-append}
use Rattle.gms_labels.specs.declared.place.Place.{Place}
use Rattle.gq_number.specs.Number.{Number}
use Rattle.gq_extended.specs.Extended.{Extended}
use Rattle.gms_ast.specs.declared.expression.LagOp.{LagOp}
use Rattle.gms_ast.specs.Trees as tree
use Rattle.gms_tuple.specs.TupleSet.{has}
use Rattle.gms_store.specs.State.{State, members_of}
use Rattle.gms_check.specs.Domains.{index_count}
use Rattle.gms_check.specs.Past.{is_among}
use Rattle.gms_check.specs.Uses.{index_sets}
use Rattle.gms_eval.specs.Bindings.{Pairs, label_of, paired, controlled}
use Rattle.gms_eval.specs.Domain.{elements}
use Rattle.gms_eval.specs.Faults.{Answer, nothing, faulted, ◌and_then◌}
use Rattle.gms_eval.specs.Lag.{lagged_label, whole_number}
use Rattle.gms_eval.specs.Nodes.{in_order}
use Rattle.gms_eval.specs.References.{reached_label, all_there, tuple_of}
use Rattle.gms_eval.specs.Value.{value, labels}
use Rattle.gms_eval.specs.declared.stop.StopKind.TheVariants.{LagNotWhole}
use Rattle.gms_eval.proofs.Simple.{element-length}
use Rattle.gms_rows.proofs.Domains.{given, only_value}
use Rattle.gms_run_laws.specs.Labels.{OccurForLabels, GoesPast, SomeGoesPast}

-- ---- sets that stand for labels

-- one of sets that do
among-occurs : (b : Pairs) (within : List ℕ) (set : ℕ) → OccurForLabels b within → is_among within set ≡ true → is_some (label_of b set) ≡ true
among-occurs b [] set all there = absurd (cc)
among-occurs b (n ∷ ns) set all there =
    by (n == set) refl (among-occurs b ns set (All-tail (λ set. is_some (label_of b set) ≡ true) n ns all)) there
  where
    by : (same : Bool) → (n == set) ≡ same → (is_among ns set ≡ true → is_some (label_of b set) ≡ true) → (same || is_among ns set) ≡ true → is_some (label_of b set) ≡ true
    by true is rest there =
        subst (λ m. is_some (label_of b m) ≡ true) (eqb-true n set is) (All-head (λ set. is_some (label_of b set) ≡ true) n ns all)
    by false is rest there = rest there

pub sets-occur : (b : Pairs) (within sets : List ℕ) → OccurForLabels b within → All (λ index. is_among within index ≡ true) sets → OccurForLabels b sets
sets-occur b within sets occur all = λ k d below. among-occurs b within (get_or sets k d) occur (all k d below)

-- ---- the labels of an element

-- a set that stands for a label also does so with more pairs
occurs-first : (b more : Pairs) (set : ℕ) → is_some (label_of b set) ≡ true → is_some (label_of (b ++ more) set) ≡ true
occurs-first [] more set is = absurd (cc)
occurs-first (p ∷ b) more set is = by (p.0 == set) (occurs-first b more set) is
  where
    by : (same : Bool) → (is_some (label_of b set) ≡ true → is_some (label_of (b ++ more) set) ≡ true) → is_some (if same then Some p.1 else label_of b set) ≡ true → is_some (if same then Some p.1 else label_of (b ++ more) set) ≡ true
    by true rest is = refl
    by false rest is = rest is

occurs-following : (b more : Pairs) (set : ℕ) → is_some (label_of more set) ≡ true → is_some (label_of (b ++ more) set) ≡ true
occurs-following [] more set is = is
occurs-following (p ∷ b) more set is = by (p.0 == set) (occurs-following b more set is)
  where
    by : (same : Bool) → is_some (label_of (b ++ more) set) ≡ true → is_some (if same then Some p.1 else label_of (b ++ more) set) ≡ true
    by true rest = refl
    by false rest = rest

-- sets with as many labels
paired-occur : (sets element : List ℕ) → length element ≡ length sets → All (λ set. is_some (label_of (paired sets element) set) ≡ true) sets
paired-occur [] element long = All-nil (λ set. is_some (label_of (paired [] element) set) ≡ true)
paired-occur (s ∷ sets) [] long = absurd (omega (arith, long))
paired-occur (s ∷ sets) (l ∷ labels) long =
    let rest = paired-occur sets labels (omega (arith, long)) in
    All-cons (λ set. is_some (label_of (paired (s ∷ sets) (l ∷ labels)) set) ≡ true) s sets
    (ap (λ (same : Bool). is_some (if same then Some l else label_of (paired sets labels) s)) (eq-eqb s s refl))
    (λ k d below. occurs-following ((s, l) ∷ []) (paired sets labels) (get_or sets k d) (rest k d below))

pub element-occurs : (state : State) (b : Pairs) (around sets element : List ℕ) → OccurForLabels b around → has (elements state sets) element ≡ true → OccurForLabels (controlled b sets element) (around ++ sets)
element-occurs state b around sets element occur there =
    let pairs = paired sets element in
    let own = paired-occur sets element (element-length state sets element there) in
    All-append (λ set. is_some (label_of (b ++ pairs) set) ≡ true) around sets
    (λ k d below. occurs-first b pairs (get_or around k d) (occur k d below))
    (λ k d below. occurs-following b pairs (get_or sets k d) (own k d below))

-- ---- labels of indices

module _ {F : Type 0} (v : F → Number) (limit : ℕ) (state : State) (b : Pairs) where
  one-more : (o : Option ℕ) (those xs : List (Option ℕ)) (n : ℕ) → o ∷ xs ≡ those → length xs ≡ n → length those ≡ n + 1
  one-more o those xs n same long = let is = ap length same in omega (arith, is, long)

  -- as many labels as indices
  pub labels-count : (indices : tree.Indices F) (those : List (Option ℕ)) → in_order (labels v limit state b indices) ≡ Ok those → length those ≡ index_count indices
  labels-count tree.no_index those e = sym (ap length (only_value [] those e))
  labels-count (tree.label n rest) those e =
      let one = given (in_order (labels v limit state b rest)) (λ xs. Ok (Some n ∷ xs)) those e in
      one-more (Some n) those one.value (index_count rest) (only_value (Some n ∷ one.value) those one.next_is) (labels-count rest one.value one.is)
  labels-count (tree.set set rest) those e =
      let one = given (in_order (labels v limit state b rest)) (λ xs. Ok (label_of b set ∷ xs)) those e in
      one-more (label_of b set) those one.value (index_count rest) (only_value (label_of b set ∷ one.value) those one.next_is) (labels-count rest one.value one.is)
  labels-count (tree.lagged set op at amount rest) those e =
      let first = given (value v limit state b amount and_then reached_label state b set op at) (λ o. in_order (labels v limit state b rest) and_then λ xs. Ok (o ∷ xs)) those e in
      let one = given (in_order (labels v limit state b rest)) (λ xs. Ok (first.value ∷ xs)) those first.next_is in
      one-more first.value those one.value (index_count rest) (only_value (first.value ∷ one.value) those one.next_is) (labels-count rest one.value one.is)

  none-later : (l : ℕ) (o : Option (List ℕ)) → option_map (λ (those : List ℕ). l ∷ those) o ≡ None → o ≡ None
  none-later l None e = refl
  none-later l (Some those) e = absurd (cc)

  -- a lag that reaches no label
  lag-past : (set : ℕ) (op : LagOp) (at : Place) (amount : tree.Tree F) (x : Extended) → value v limit state b amount ≡ Ok x → is_some (label_of b set) ≡ true → reached_label state b set op at x ≡ Ok None → GoesPast v limit state b set op amount
  lag-past set op at amount x is occurs e = by (whole_number x) refl (label_of b set) refl occurs e
    where
      by : (w : Option ℤ) → whole_number x ≡ w → (o : Option ℕ) → label_of b set ≡ o → is_some o ≡ true → (ok_or w (faulted LagNotWhole at b x nothing) and_then λ places. Ok (option_and_then (λ label. lagged_label (members_of state set) op places label) o)) ≡ Ok None → GoesPast v limit state b set op amount
      by None whole o occur some e = absurd (cc)
      by (Some places) whole None occur some e = absurd (cc)
      by (Some places) whole (Some label) occur some e =
          record { label = label; occurs = occur; given = x; is = is; places = places; whole = whole; past = only_value (lagged_label (members_of state set) op places label) None e }

  missing : (indices : tree.Indices F) (those : List (Option ℕ)) → OccurForLabels b (index_sets indices) → in_order (labels v limit state b indices) ≡ Ok those → all_there those ≡ None → SomeGoesPast v limit state b indices
  missing tree.no_index those occur e none =
      absurd (let no : ◌≡◌ {A = Option (List ℕ)} (Some []) None = ap all_there (only_value [] those e) ∙ none in cc)
  missing (tree.label n rest) those occur e none =
      let one = given (in_order (labels v limit state b rest)) (λ xs. Ok (Some n ∷ xs)) those e in
      missing rest one.value occur one.is (none-later n (all_there one.value) (ap all_there (only_value (Some n ∷ one.value) those one.next_is) ∙ none))
  missing (tree.set set rest) those occur e none =
      let one = given (in_order (labels v limit state b rest)) (λ xs. Ok (label_of b set ∷ xs)) those e in
      let later = missing rest one.value (All-tail (λ set. is_some (label_of b set) ≡ true) set (index_sets rest) occur) one.is in
      by (label_of b set) (All-head (λ set. is_some (label_of b set) ≡ true) set (index_sets rest) occur) one.value later (ap all_there (only_value (label_of b set ∷ one.value) those one.next_is) ∙ none)
    where
      by : (o : Option ℕ) → is_some o ≡ true → (xs : List (Option ℕ)) → (all_there xs ≡ None → SomeGoesPast v limit state b rest) → all_there (o ∷ xs) ≡ None → SomeGoesPast v limit state b rest
      by None some xs later none = absurd (cc)
      by (Some l) some xs later none = later (none-later l (all_there xs) none)
  missing (tree.lagged set op at amount rest) those occur e none =
      let first = given (value v limit state b amount and_then reached_label state b set op at) (λ o. in_order (labels v limit state b rest) and_then λ xs. Ok (o ∷ xs)) those e in
      let amounts = given (value v limit state b amount) (reached_label state b set op at) first.value first.is in
      let one = given (in_order (labels v limit state b rest)) (λ xs. Ok (first.value ∷ xs)) those first.next_is in
      let later = missing rest one.value (All-tail (λ set. is_some (label_of b set) ≡ true) set (index_sets rest) occur) one.is in
      let here = lag-past set op at amount amounts.value amounts.is (All-head (λ set. is_some (label_of b set) ≡ true) set (index_sets rest) occur) in
      by first.value (λ no. here (amounts.next_is ∙ ap {B = Answer (Option ℕ)} Ok no)) one.value later (ap all_there (only_value (first.value ∷ one.value) those one.next_is) ∙ none)
    where
      by : (o : Option ℕ) → (o ≡ None → GoesPast v limit state b set op amount) → (xs : List (Option ℕ)) → (all_there xs ≡ None → SomeGoesPast v limit state b rest) → all_there (o ∷ xs) ≡ None → SomeGoesPast v limit state b (tree.lagged set op at amount rest)
      by None here xs later none = inl (here refl)
      by (Some l) here xs later none = inr (later (none-later l (all_there xs) none))

  -- at most 10 labels are a tuple if each exists
  pub tuple-past : (indices : tree.Indices F) (those : List (Option ℕ)) → OccurForLabels b (index_sets indices) → index_count indices ≤ 10 → in_order (labels v limit state b indices) ≡ Ok those → tuple_of those ≡ None → SomeGoesPast v limit state b indices
  tuple-past indices those occur few e none =
      missing indices those occur e (by (nat_le (length those) 10) (within (length those) (index_count indices) (labels-count indices those e) few) none)
    where
      within : (n m : ℕ) → n ≡ m → m ≤ 10 → nat_le n 10 ≡ true
      within n m same few = grind (arith, nat_tests)

      by : (c : Bool) → c ≡ true → (if c then all_there those else None) ≡ None → all_there those ≡ None
      by true is e = e
      by false is e = absurd (cc)
