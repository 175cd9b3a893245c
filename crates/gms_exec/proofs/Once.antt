-- An assignment gives no element twice: two elements of its sets have two tuples on the left.
use Rattle.gms_rows.proofs.Domains.{only_value}
use Rattle.std.proofs.Common.{◌≡◌, ℕ, zero, suc, ◌+◌, ◌-◌, ◌*◌, ◌/◌, ◌%◌, ◌<◌, ◌≤◌, ◌==◌, ℤ, pos, negsuc, ◌+ℤ◌, neg_ℤ, Bool, true, false, not, ◌||◌, List, [], ◌∷◌, map, filter, length, get_or, slice_get, Option, Some, None, is_none, option_map, option_and_then, Ok, Err, refl, sym, ap, ◌∙◌, subst, cond, eq-eqb, arith, inl, inr, if◌then◌else◌}
use Rattle.std.specs.Prelude.{ok_or, nat_lt}
use Rattle.std.specs.Int.{int_rem_euclid}
use Rattle.std.specs.List.{AllByRecursion, IsDistinct, list_any}
use Rattle.std.proofs.Math.Nat.{mul-le-mul_right}
use Rattle.std.proofs.lemmas.Bool.{cases_lt, eqb-true}
use Rattle.std.proofs.lemmas.Int.{int_rem_euclid_is, ints}
use Rattle.std.proofs.lemmas.List.Elements.{All-from_recursion}
use Rattle.std.proofs.lemmas.List.Quantifiers.{position-Some}
use Rattle.std.proofs.lemmas.Nat.{div-add-mod'}
use Rattle.gms_labels.specs.declared.place.Place.{Place}
use Rattle.gq_number.specs.Number.{Number}
use Rattle.gq_extended.specs.Extended.{Extended}
use Rattle.gms_ast.specs.declared.expression.LagOp.{LagOp}
use Rattle.gms_ast.specs.declared.expression.LagOp.TheVariants.{Lead, Lag, CircularLead, CircularLag}
use Rattle.gms_ast.specs.declared.expression.Suffix.TheVariants as suffix
use Rattle.gms_ast.specs.StatementTrees.{Target}
use Rattle.gms_ast.specs.Trees as tree
use Rattle.gms_tuple.specs.TupleOrder.{same_tuple, IsOrdered}
use Rattle.gms_tuple.specs.TupleSet.{has, place_of_tuple}
use Rattle.gms_tuple.proofs.Members.{after-first}
use Rattle.gms_tuple.proofs.Ordered.{first-before, rest-ordered, same_tuple-Decides, same_tuple-Less, same_tuple_refl}
use Rattle.gms_store.specs.State.{State, members_of}
use Rattle.gms_eval.specs.Nodes.{in_order}
use Rattle.gms_eval.specs.Bindings.{Pairs, label_of, paired, controlled}
use Rattle.gms_eval.specs.Domain.{elements, sized, those_where, too_large, IsSimple}
use Rattle.gms_eval.specs.Faults.{Answer, nothing, faulted, ◌and_then◌}
use Rattle.gms_eval.specs.Lag.{label_of_element, label_at, moved, lagged_label, whole_number}
use Rattle.gms_eval.specs.References.{reached_label, tuple_of}
use Rattle.gms_eval.specs.Value.{value, labels, domain, control_over, when_so}
use Rattle.gms_eval.specs.declared.stop.StopKind.TheVariants.{LagNotWhole}
use Rattle.gms_eval.proofs.Entries.{there, tuple-labels, label-inside}
use Rattle.gms_eval.proofs.Places.{place-below}
use Rattle.gms_eval.proofs.Simple.{elements-ordered, element-length}
use Rattle.gms_rows.specs.Rows.{sets_among, distinct_numbers}
use Rattle.gms_exec.specs.Assignment.{newly_controlled, given_under, element_under, given_elements, given_by}
use Rattle.gms_exec.specs.Given.{Given, AllGiven}
use Rattle.gms_exec.specs.Once.{is_constant_lag, AreLeft, IsOnce}

-- ---- places of members

has-at : (xs : List (List ℕ)) (i : ℕ) (x : List ℕ) → slice_get xs i ≡ Some x → has xs x ≡ true
has-at [] i x at = absurd cc
has-at (y ∷ ys) zero x at =
    let e : y ≡ x = cc in
    ap (λ b. b || has ys x) (ap (λ y. same_tuple y x) e ∙ same_tuple_refl x)
has-at (y ∷ ys) (suc i) x at = by (same_tuple y x) (has-at ys i x at)
  where
    by : (b : Bool) → has ys x ≡ true → (b || has ys x) ≡ true
    by true there = refl
    by false there = there

-- a tuple does not occur again after itself in an ordered list
not-following : (x : List ℕ) (xs : List (List ℕ)) → IsOrdered (x ∷ xs) → has xs x ≡ false
not-following x xs ordered = by (has xs x) refl
  where
    by : (b : Bool) → has xs x ≡ b → b ≡ false
    by true there =
        let f : true ≡ false = sym (same_tuple_refl x) ∙ same_tuple-Less x x (after-first x xs x (first-before x xs ordered) there) in
        f
    by false none = refl

-- a tuple occurs at one place
one-place : (xs : List (List ℕ)) (i j : ℕ) (x : List ℕ) → IsOrdered xs → slice_get xs i ≡ Some x → slice_get xs j ≡ Some x → i ≡ j
one-place [] i j x ordered at other = absurd cc
one-place (y ∷ ys) zero zero x ordered at other = refl
one-place (y ∷ ys) zero (suc j) x ordered at other =
    let e : y ≡ x = cc in
    absurd (let f : true ≡ false = sym (has-at ys j x other) ∙ ap (has ys) (sym e) ∙ not-following y ys ordered in cc)
one-place (y ∷ ys) (suc i) zero x ordered at other =
    let e : y ≡ x = cc in
    absurd (let f : true ≡ false = sym (has-at ys i x at) ∙ ap (has ys) (sym e) ∙ not-following y ys ordered in cc)
one-place (y ∷ ys) (suc i) (suc j) x ordered at other = ap suc (one-place ys i j x (rest-ordered y ys ordered) at other)

-- the member at a place is the tuple that has it
place-member : (xs : List (List ℕ)) (t : List ℕ) (n : ℕ) → place_of_tuple xs t ≡ Some n → get_or xs n [] ≡ t
place-member xs t n found =
    (same_tuple-Decides (get_or xs n []) t).0 (position-Some (λ member. same_tuple member t) xs n [] found).1

one-label : (m k : List ℕ) → length m ≡ 1 → length k ≡ 1 → label_of_element m ≡ label_of_element k → m ≡ k
one-label [] k long same e = absurd (omega arith)
one-label (x ∷ []) [] long same e = absurd (omega arith)
one-label (x ∷ []) (y ∷ []) long same e = ap (λ n. n ∷ []) e
one-label (x ∷ []) (y ∷ z ∷ k) long same e = absurd (omega arith)
one-label (x ∷ w ∷ m) k long same e = absurd (omega arith)

-- ---- lags

-- The member at a place that is given as an integer.
record AtPlace (members : List (List ℕ)) (z : ℤ) (h : ℕ) : Type 0 where
  place : ℕ
  is : z ≡ pos place
  member : List ℕ
  at : slice_get members place ≡ Some member
  label : label_of_element member ≡ h

at-place : (members : List (List ℕ)) (z : ℤ) (h : ℕ) → label_at members z ≡ Some h → AtPlace members z h
at-place members (pos k) h e = by (slice_get members k) refl e
  where
    by : (o : Option (List ℕ)) → slice_get members k ≡ o → option_map label_of_element o ≡ Some h → AtPlace members (pos k) h
    by (Some m) is e = record { place = k; is = refl; member = m; at = is; label = cc }
    by None is e = absurd cc
at-place members (negsuc k) h e = absurd cc

module _ (members : List (List ℕ)) (ordered : IsOrdered members) (single : (member : List ℕ) → has members member ≡ true → length member ≡ 1) where
  same-place : (y z : ℤ) (h : ℕ) → label_at members y ≡ Some h → label_at members z ≡ Some h → y ≡ z
  same-place y z h one other =
      let a = at-place members y h one in
      let b = at-place members z h other in
      let same : a.member ≡ b.member = one-label a.member b.member (single a.member (has-at members a.place a.member a.at)) (single b.member (has-at members b.place b.member b.at)) (a.label ∙ sym b.label) in
      a.is ∙ ap pos (one-place members a.place b.place b.member ordered (a.at ∙ ap Some same) b.at) ∙ sym b.is

plus-same : (i j : ℕ) (a : ℤ) → pos i +ℤ a ≡ pos j +ℤ a → i ≡ j
plus-same i j a e = omega (arith, ints)

-- An integer that becomes non-negative by adding some multiple of `n`.
record Shifted (a : ℤ) (n : ℕ) : Type 0 where
  times : ℕ
  shifted : ℕ
  is : a +ℤ pos (times * n) ≡ pos shifted

pos-plus : (p q : ℕ) → pos p +ℤ pos q ≡ pos (p + q)
pos-plus p q = omega (arith, ints)

negsuc-plus : (p q : ℕ) → suc p ≤ q → negsuc p +ℤ pos q ≡ pos (q - suc p)
negsuc-plus p q l = omega (arith, ints)

shift : (a : ℤ) (n : ℕ) → 0 < n → Shifted a n
shift (pos p) n some = record { times = 0; shifted = p + 0 * n; is = pos-plus p (0 * n) }
shift (negsuc p) n some =
    let l : suc p * 1 ≤ suc p * n = grind (arith, mul-le-mul_right {m = 1} {n = n} (suc p) some) in
    record { times = suc p; shifted = suc p * n - suc p; is = negsuc-plus p (suc p * n) (omega arith) }

rest-same : (i j m q r n : ℕ) (rest : ℕ) → q * n + rest ≡ i + m → r * n + rest ≡ j + m → i < n → j < n → i ≡ j
rest-same i j m q r n rest one other below under = elim (cases_lt q r) [
  | inl less ↦ (let l = mul-le-mul_right {m = q + 1} {n = r} n (omega arith) in let e : (q + 1) * n ≡ q * n + n = omega arith in absurd (omega arith))
  | inr most ↦ elim (cases_lt r q) [
    | inl less ↦ (let l = mul-le-mul_right {m = r + 1} {n = q} n (omega arith) in let e : (r + 1) * n ≡ r * n + n = omega arith in absurd (omega arith))
    | inr least ↦ (let e : q ≡ r = omega arith in let f : q * n ≡ r * n = ap (λ k. k * n) e in omega arith)
  ]
]

around-same : (i j n : ℕ) (a : ℤ) → i < n → j < n → int_rem_euclid (pos i +ℤ a) (pos n) ≡ int_rem_euclid (pos j +ℤ a) (pos n) → i ≡ j
around-same i j n a below under e =
    let s = shift a n (omega arith) in
    let one = int_rem_euclid_is (pos i +ℤ a) (pos n) n s.times (i + s.shifted) (omega arith) refl (add i s.times s.shifted s.is) in
    let other = int_rem_euclid_is (pos j +ℤ a) (pos n) n s.times (j + s.shifted) (omega arith) refl (add j s.times s.shifted s.is) in
    let f : pos ((i + s.shifted) % n) ≡ pos ((j + s.shifted) % n) = sym one ∙ e ∙ other in
    let same : (i + s.shifted) % n ≡ (j + s.shifted) % n = cc in
    rest-same i j s.shifted ((i + s.shifted) / n) ((j + s.shifted) / n) n ((i + s.shifted) % n) (div-add-mod' (i + s.shifted) n) (ap (λ k. (j + s.shifted) / n * n + k) same ∙ div-add-mod' (j + s.shifted) n) below under
  where
    add : (i times shifted : ℕ) → a +ℤ pos (times * n) ≡ pos shifted → (pos i +ℤ a) +ℤ pos (times * n) ≡ pos (i + shifted)
    add i times shifted is = sum i (times * n) shifted is
      where
        sum : (i k shifted : ℕ) → a +ℤ pos k ≡ pos shifted → (pos i +ℤ a) +ℤ pos k ≡ pos (i + shifted)
        sum i k shifted is = omega (arith, ints)

module _ (members : List (List ℕ)) (ordered : IsOrdered members) (single : (member : List ℕ) → has members member ≡ true → length member ≡ 1) where
  -- from two places a lag of one amount reaches two labels
  moved-same : (op : LagOp) (a : ℤ) (i j h : ℕ) → i < length members → j < length members → moved members op a (pos i) ≡ Some h → moved members op a (pos j) ≡ Some h → i ≡ j
  moved-same Lead a i j h below under one other =
      plus-same i j a (same-place members ordered single (pos i +ℤ a) (pos j +ℤ a) h one other)
  moved-same Lag a i j h below under one other =
      plus-same i j (neg_ℤ a) (same-place members ordered single (pos i +ℤ neg_ℤ a) (pos j +ℤ neg_ℤ a) h one other)
  moved-same CircularLead a i j h below under one other =
      around-same i j (length members) a below under (same-place members ordered single (int_rem_euclid (pos i +ℤ a) (pos (length members))) (int_rem_euclid (pos j +ℤ a) (pos (length members))) h one other)
  moved-same CircularLag a i j h below under one other =
      around-same i j (length members) (neg_ℤ a) below under (same-place members ordered single (int_rem_euclid (pos i +ℤ neg_ℤ a) (pos (length members))) (int_rem_euclid (pos j +ℤ neg_ℤ a) (pos (length members))) h one other)

-- From which label, at which place, a lag reaches another.
record Reaches (state : State) (binding : Pairs) (set : ℕ) (op : LagOp) (x : Extended) (h : ℕ) : Type 0 where
  places : ℤ
  amount : whole_number x ≡ Some places
  label : ℕ
  occurs : label_of binding set ≡ Some label
  place : ℕ
  at : place_of_tuple (members_of state set) (label ∷ []) ≡ Some place
  reaches : moved (members_of state set) op places (pos place) ≡ Some h

ok-some : (x : Option ℕ) (h : ℕ) → ◌≡◌ {A = Answer (Option ℕ)} (Ok x) (Ok (Some h)) → x ≡ Some h
ok-some x h e = cc

reaches-from : (state : State) (binding : Pairs) (set : ℕ) (op : LagOp) (at : Place) (x : Extended) (h : ℕ) → reached_label state binding set op at x ≡ Ok (Some h) → Reaches state binding set op x h
reaches-from state binding set op at x h e = by (whole_number x) refl e
  where
    third : (places : ℤ) → whole_number x ≡ Some places → (label : ℕ) → label_of binding set ≡ Some label → (o : Option ℕ) → place_of_tuple (members_of state set) (label ∷ []) ≡ o → option_and_then (λ place. moved (members_of state set) op places (pos place)) o ≡ Some h → Reaches state binding set op x h
    third places amount label occurs None none e = absurd cc
    third places amount label occurs (Some place) found e = record {
      places = places;
      amount = amount;
      label = label;
      occurs = occurs;
      place = place;
      at = found;
      reaches = e;
    }

    second : (places : ℤ) → whole_number x ≡ Some places → (o : Option ℕ) → label_of binding set ≡ o → option_and_then (λ label. lagged_label (members_of state set) op places label) o ≡ Some h → Reaches state binding set op x h
    second places amount None none e = absurd cc
    second places amount (Some label) occurs e = third places amount label occurs (place_of_tuple (members_of state set) (label ∷ [])) refl e

    by : (o : Option ℤ) → whole_number x ≡ o → (ok_or o (faulted LagNotWhole at binding x nothing) and_then λ places. Ok (option_and_then (λ label. lagged_label (members_of state set) op places label) (label_of binding set))) ≡ Ok (Some h) → Reaches state binding set op x h
    by None none e = absurd cc
    by (Some places) amount e =
        second places amount (label_of binding set) refl (ok-some (option_and_then (λ label. lagged_label (members_of state set) op places label) (label_of binding set)) h e)

-- two labels from which a lag of one amount reaches the same are the same
reaches-same : (state : State) (one other : Pairs) (set : ℕ) (op : LagOp) (x y : Extended) (h : ℕ) → IsSimple state set → x ≡ y → Reaches state one set op x h → Reaches state other set op y h → label_of one set ≡ label_of other set
reaches-same state one other set op x y h simple same a b =
    let members = members_of state set in
    let amounts : Some a.places ≡ Some b.places = sym a.amount ∙ ap whole_number same ∙ b.amount in
    let places : a.places ≡ b.places = cc in
    let at : a.place ≡ b.place = moved-same members simple.0 simple.1 op b.places a.place b.place h (place-below members (a.label ∷ []) a.place a.at) (place-below members (b.label ∷ []) b.place b.at) (sym (ap (λ z. moved members op z (pos a.place)) places) ∙ a.reaches) b.reaches in
    let tuples : a.label ∷ [] ≡ b.label ∷ [] = sym (place-member members (a.label ∷ []) a.place a.at) ∙ ap (λ n. get_or members n []) at ∙ place-member members (b.label ∷ []) b.place b.at in
    let labels : a.label ≡ b.label = cc in
    a.occurs ∙ ap Some labels ∙ sym b.occurs

-- ---- answers

-- The answer before a step that ended with a value.
record Before {A B : Type 0} (a : Answer A) (next : A → Answer B) (y : B) : Type 0 where
  found : A
  is : a ≡ Ok found
  goes : next found ≡ Ok y

before : {A B : Type 0} (a : Answer A) (next : A → Answer B) (y : B) → (a and_then next) ≡ Ok y → Before a next y
before (Ok x) next y e = record { found = x; is = refl; goes = e }
before (Err fault) next y e = absurd cc

module _ {F : Type 0} (v : F → Number) (limit : ℕ) (state : State) (one other : Pairs) where
  fixed-value : (amount : tree.Tree F) → is_constant_lag amount ≡ true → value v limit state one amount ≡ value v limit state other amount
  fixed-value (tree.number n) e = refl
  fixed-value (tree.reference at name suffix.None tree.no_index) e = refl
  fixed-value amount e = absurd cc

  -- where indices have the same labels under two bindings, their sets stand for the same
  labels-same : (indices : tree.Indices F) (t : List ℕ) → AreLeft state indices → labels v limit state one indices ≡ map there t → labels v limit state other indices ≡ map there t → (set : ℕ) → list_any (λ m. m == set) (sets_among indices) ≡ true → label_of one set ≡ label_of other set
  labels-same tree.no_index t left e f set among = absurd cc
  labels-same (tree.label n rest) [] left e f set among = absurd cc
  labels-same (tree.label n rest) (l ∷ t) left e f set among =
      let a : labels v limit state one rest ≡ map there t = cc in
      let b : labels v limit state other rest ≡ map there t = cc in
      labels-same rest t left a b set among
  labels-same (tree.set s rest) [] left e f set among = absurd cc
  labels-same (tree.set s rest) (l ∷ t) left e f set among =
      let a : labels v limit state one rest ≡ map there t = cc in
      let b : labels v limit state other rest ≡ map there t = cc in
      let c : label_of one s ≡ Some l = cc in
      let d : label_of other s ≡ Some l = cc in
      by (c ∙ sym d) (labels-same rest t left.1 a b set) (s == set) refl among
    where
      by : label_of one s ≡ label_of other s → (list_any (λ m. m == set) (sets_among rest) ≡ true → label_of one set ≡ label_of other set) → (b : Bool) → (s == set) ≡ b → (b || list_any (λ m. m == set) (sets_among rest)) ≡ true → label_of one set ≡ label_of other set
      by here later true same among = subst (λ n. label_of one n ≡ label_of other n) (eqb-true s set same) here
      by here later false apart among = later among
  labels-same (tree.lagged s op at amount rest) [] left e f set among = absurd cc
  labels-same (tree.lagged s op at amount rest) (l ∷ t) left e f set among =
      let a : labels v limit state one rest ≡ map there t = cc in
      let b : labels v limit state other rest ≡ map there t = cc in
      let c : (value v limit state one amount and_then λ x. reached_label state one s op at x) ≡ Ok (Some l) = cc in
      let d : (value v limit state other amount and_then λ x. reached_label state other s op at x) ≡ Ok (Some l) = cc in
      let x = before (value v limit state one amount) (λ x. reached_label state one s op at x) (Some l) c in
      let y = before (value v limit state other amount) (λ x. reached_label state other s op at x) (Some l) d in
      let same : x.found ≡ y.found = only_value x.found y.found (sym x.is ∙ fixed-value amount left.1.0 ∙ y.is) in
      by (reaches-same state one other s op x.found y.found l left.0 same (reaches-from state one s op at x.found l x.goes) (reaches-from state other s op at y.found l y.goes)) (labels-same rest t left.1.1 a b set) (s == set) refl among
    where
      by : label_of one s ≡ label_of other s → (list_any (λ m. m == set) (sets_among rest) ≡ true → label_of one set ≡ label_of other set) → (b : Bool) → (s == set) ≡ b → (b || list_any (λ m. m == set) (sets_among rest)) ≡ true → label_of one set ≡ label_of other set
      by here later true same among = subst (λ n. label_of one n ≡ label_of other n) (eqb-true s set same) here
      by here later false apart among = later among

-- ---- distinct sets

-- distinct sets
abbrev AreApart : List ℕ → Type 0
AreApart [] = Unit {0}
AreApart (n ∷ ns) = (list_any (λ m. m == n) ns ≡ false) × AreApart ns

kept-among : (p : ℕ → Bool) (ns : List ℕ) (r : ℕ) → list_any (λ m. m == r) (filter p ns) ≡ true → (list_any (λ m. m == r) ns ≡ true) × (p r ≡ true)
kept-among p [] r e = absurd cc
kept-among p (n ∷ ns) r e = by (p n) refl (n == r) refl (kept-among p ns r) e
  where
    by : (kept : Bool) → p n ≡ kept → (same : Bool) → (n == r) ≡ same → (list_any (λ m. m == r) (filter p ns) ≡ true → (list_any (λ m. m == r) ns ≡ true) × (p r ≡ true)) → list_any (λ m. m == r) (cond kept (n ∷ filter p ns) (filter p ns)) ≡ true → ((same || list_any (λ m. m == r) ns) ≡ true) × (p r ≡ true)
    by true kept true same rest e = (refl, ap p (sym (eqb-true n r same)) ∙ kept)
    by true kept false apart rest e = rest (sym (ap (λ b. b || list_any (λ m. m == r) (filter p ns)) apart) ∙ e)
    by false left true same rest e = (refl, (rest e).1)
    by false left false apart rest e = rest e

kept-none : (p : ℕ → Bool) (ns : List ℕ) (r : ℕ) → list_any (λ m. m == r) ns ≡ false → list_any (λ m. m == r) (filter p ns) ≡ false
kept-none p ns r none = by (list_any (λ m. m == r) (filter p ns)) refl
  where
    by : (b : Bool) → list_any (λ m. m == r) (filter p ns) ≡ b → b ≡ false
    by true there = sym (kept-among p ns r there).0 ∙ none
    by false e = refl

kept-apart : (p : ℕ → Bool) (ns : List ℕ) → AreApart ns → AreApart (filter p ns)
kept-apart p [] apart = tt
kept-apart p (n ∷ ns) apart = by (p n) (kept-apart p ns apart.1)
  where
    by : (b : Bool) → AreApart (filter p ns) → AreApart (cond b (n ∷ filter p ns) (filter p ns))
    by true rest = (kept-none p ns n apart.0, rest)
    by false rest = rest

once-apart : (ns : List ℕ) → AreApart (distinct_numbers ns)
once-apart [] = tt
once-apart (n ∷ ns) = (by (list_any (λ m. m == n) (filter (λ m. not (m == n)) (distinct_numbers ns))) refl, kept-apart (λ m. not (m == n)) (distinct_numbers ns) (once-apart ns))
  where
    by : (b : Bool) → list_any (λ m. m == n) (filter (λ m. not (m == n)) (distinct_numbers ns)) ≡ b → b ≡ false
    by true there =
        let f : not true ≡ true = sym (ap not (eq-eqb n n refl)) ∙ (kept-among (λ m. not (m == n)) (distinct_numbers ns) n there).1 in
        sym f
    by false e = refl

once-among : (ns : List ℕ) (r : ℕ) → list_any (λ m. m == r) (distinct_numbers ns) ≡ true → list_any (λ m. m == r) ns ≡ true
once-among [] r e = e
once-among (n ∷ ns) r e = by (n == r) (once-among ns r) e
  where
    by : (b : Bool) → (list_any (λ m. m == r) (distinct_numbers ns) ≡ true → list_any (λ m. m == r) ns ≡ true) → (b || list_any (λ m. m == r) (filter (λ m. not (m == n)) (distinct_numbers ns))) ≡ true → (b || list_any (λ m. m == r) ns) ≡ true
    by true rest e = refl
    by false rest e = rest (kept-among (λ m. not (m == n)) (distinct_numbers ns) r e).0

-- elements whose labels are the same at each set are the same
element-same : (sets one other : List ℕ) → length one ≡ length sets → length other ≡ length sets → AreApart sets → ((set : ℕ) → list_any (λ m. m == set) sets ≡ true → label_of (paired sets one) set ≡ label_of (paired sets other) set) → one ≡ other
element-same [] [] [] long same apart alike = refl
element-same [] [] (y ∷ other) long same apart alike = absurd (omega arith)
element-same [] (x ∷ one) other long same apart alike = absurd (omega arith)
element-same (s ∷ sets) [] other long same apart alike = absurd (omega arith)
element-same (s ∷ sets) (x ∷ one) [] long same apart alike = absurd (omega arith)
element-same (s ∷ sets) (x ∷ one) (y ∷ other) long same apart alike =
    let itself : (s == s) ≡ true = eq-eqb s s refl in
    let first : Some x ≡ Some y = sym (ap (λ b. if b then Some x else label_of (paired sets one) s) itself) ∙ alike s (ap (λ b. b || list_any (λ m. m == s) sets) itself) ∙ ap (λ b. if b then Some y else label_of (paired sets other) s) itself in
    let labels : x ≡ y = cc in
    ap (λ z. z ∷ one) labels ∙ ap (λ rest. y ∷ rest) (element-same sets one other (omega arith) (omega arith) apart.1 later)
  where
    later : (set : ℕ) → list_any (λ m. m == set) sets ≡ true → label_of (paired sets one) set ≡ label_of (paired sets other) set
    later set among = by (s == set) refl (alike set (by-either (s == set)))
      where
        by-either : (b : Bool) → (b || list_any (λ m. m == set) sets) ≡ true
        by-either true = refl
        by-either false = among

        by : (b : Bool) → (s == set) ≡ b → (if b then Some x else label_of (paired sets one) set) ≡ (if b then Some y else label_of (paired sets other) set) → label_of (paired sets one) set ≡ label_of (paired sets other) set
        by false other_set e = e
        by true here e =
            absurd (let f : true ≡ false = sym among ∙ ap (λ n. list_any (λ m. m == n) sets) (sym (eqb-true s set here)) ∙ apart.0 in cc)

-- ---- the elements of a domain

abbrev OccurOnce : List (List ℕ) → Type 0
OccurOnce [] = Unit {0}
OccurOnce (t ∷ ts) = (has ts t ≡ false) × OccurOnce ts

ordered-once : (ts : List (List ℕ)) → IsOrdered ts → OccurOnce ts
ordered-once [] ordered = tt
ordered-once (t ∷ ts) ordered = (not-following t ts ordered, ordered-once ts (rest-ordered t ts ordered))

-- Some of these tuples, without repetition.
record AreSome (all es : List (List ℕ)) : Type 0 where
  once : OccurOnce es
  among : (e : List ℕ) → has es e ≡ true → has all e ≡ true

some-where : (test : List ℕ → Answer Bool) (all es : List (List ℕ)) → those_where test all ≡ Ok es → OccurOnce all → AreSome all es
some-where test [] es e once =
    subst (AreSome []) (only_value [] es e) (record { once = tt; among = λ e there. there })
some-where test (x ∷ all) es e once =
    let a = before (test x) (λ holds. those_where test all and_then λ others. Ok (if holds then x ∷ others else others)) es e in
    let b = before (those_where test all) (λ others. Ok (if a.found then x ∷ others else others)) es a.goes in
    let rest = some-where test all b.found b.is once.1 in
    subst (AreSome (x ∷ all)) (only_value (if a.found then x ∷ b.found else b.found) es b.goes) (by b.found rest a.found)
  where
    or-true : (b : Bool) → (b || true) ≡ true
    or-true true = refl
    or-true false = refl

    none : (others : List (List ℕ)) → AreSome all others → (b : Bool) → has others x ≡ b → b ≡ false
    none others rest true there = sym (rest.among x there) ∙ once.0
    none others rest false there = refl

    by : (others : List (List ℕ)) → AreSome all others → (holds : Bool) → AreSome (x ∷ all) (if holds then x ∷ others else others)
    by others rest true = record { once = (none others rest (has others x) refl, rest.once); among = λ e there. either e (same_tuple x e) there }
      where
        either : (e : List ℕ) (b : Bool) → (b || has others e) ≡ true → (b || has all e) ≡ true
        either e true there = refl
        either e false there = rest.among e there
    by others rest false = record { once = rest.once; among = λ e there. ap (λ b. same_tuple x e || b) (rest.among e there) ∙ or-true (same_tuple x e) }

module _ {F : Type 0} (v : F → Number) (limit : ℕ) (state : State) (binding : Pairs) (at : Place) where
  sized-all : (all es : List (List ℕ)) → sized at binding all ≡ Ok es → all ≡ es
  sized-all all es e = by (nat_lt 16777216 (length all)) e
    where
      by : (b : Bool) → (if b then Err (too_large at binding (length all)) else Ok all) ≡ Ok es → all ≡ es
      by true e = absurd cc
      by false e = only_value all es e

  domain-some : (sets : List ℕ) (condition : Option (tree.Tree F)) (es : List (List ℕ)) → OccurOnce (elements state sets) → domain v limit state binding at (control_over sets condition) ≡ Ok es → AreSome (elements state sets) es
  domain-some sets None es once e =
      subst (AreSome (elements state sets)) (sized-all (elements state sets) es e) (record { once = once; among = λ e there. there })
  domain-some sets (Some condition) es once e =
      let a = before (sized at binding (elements state sets)) (λ all. those_where (λ element. when_so (value v limit state (controlled binding sets element) condition)) all) es e in
      some-where (λ element. when_so (value v limit state (controlled binding sets element) condition)) (elements state sets) es (ap (those_where (λ element. when_so (value v limit state (controlled binding sets element) condition))) (sized-all (elements state sets) a.found a.is) ∙ a.goes) once

-- ---- elements with what they are given

module _ {F : Type 0} (v : F → Number) (limit : ℕ) (state : State) (answer : List ℕ → Answer (Option (List ℕ × Given))) where
  -- the pair is the answer at one of these elements
  abbrev IsOf : List (List ℕ) → List ℕ × Given → Type 0
  IsOf es a = (e : List ℕ) × (has es e ≡ true) × (answer e ≡ Ok (Some a))

  weaker : (x : List ℕ) (es : List (List ℕ)) (all : AllGiven) → AllByRecursion (IsOf es) all → AllByRecursion (IsOf (x ∷ es)) all
  weaker x es [] each = tt
  weaker x es (a ∷ all) each =
      ((each.0.0, ap (λ b. same_tuple x each.0.0 || b) each.0.1 ∙ or-true (same_tuple x each.0.0), each.0.2), weaker x es all each.1)
    where
      or-true : (b : Bool) → (b || true) ≡ true
      or-true true = refl
      or-true false = refl

  module _ (injective : (d e : List ℕ) (a b : List ℕ × Given) → answer d ≡ Ok (Some a) → answer e ≡ Ok (Some b) → a.0 ≡ b.0 → d ≡ e) where
    others-apart : (x : List ℕ) (a : List ℕ × Given) (es : List (List ℕ)) (all : AllGiven) → answer x ≡ Ok (Some a) → has es x ≡ false → AllByRecursion (IsOf es) all → AllByRecursion (λ (b : List ℕ × Given). same_tuple a.0 b.0 ≡ false) all
    others-apart x a es [] is none each = tt
    others-apart x a es (b ∷ all) is none each = (by (same_tuple a.0 b.0) refl, others-apart x a es all is none each.1)
      where
        by : (c : Bool) → same_tuple a.0 b.0 ≡ c → c ≡ false
        by true same =
            let e : x ≡ each.0.0 = injective x each.0.0 a b is each.0.2 ((same_tuple-Decides a.0 b.0).0 same) in
            sym each.0.1 ∙ ap (has es) (sym e) ∙ none
        by false apart = refl

    each-once : (es : List (List ℕ)) (ys : List (Option (List ℕ × Given))) → OccurOnce es → in_order (map answer es) ≡ Ok ys → AllByRecursion (IsOf es) (given_elements v limit state ys) × IsOnce (given_elements v limit state ys)
    unfolding IsDistinct
    each-once [] ys once e =
        subst (λ ys. AllByRecursion (IsOf []) (given_elements v limit state ys) × IsOnce (given_elements v limit state ys)) (only_value [] ys e) (tt, tt)
    each-once (x ∷ es) ys once e =
        let a = before (answer x) (λ y. in_order (map answer es) and_then λ zs. Ok (y ∷ zs)) ys e in
        let b = before (in_order (map answer es)) (λ zs. Ok (a.found ∷ zs)) ys a.goes in
        let rest = each-once es b.found once.1 b.is in
        subst (λ ys. AllByRecursion (IsOf (x ∷ es)) (given_elements v limit state ys) × IsOnce (given_elements v limit state ys)) (only_value (a.found ∷ b.found) ys b.goes) (by a.found a.is b.found rest.0 rest.1)
      where
        by : (o : Option (List ℕ × Given)) → answer x ≡ Ok o → (zs : List (Option (List ℕ × Given))) → AllByRecursion (IsOf es) (given_elements v limit state zs) → IsOnce (given_elements v limit state zs) → AllByRecursion (IsOf (x ∷ es)) (given_elements v limit state (o ∷ zs)) × IsOnce (given_elements v limit state (o ∷ zs))
        by None is zs each others = (weaker x es (given_elements v limit state zs) each, others)
        by (Some a) is zs each others =
            (((x, ap (λ b. b || has es x) (same_tuple_refl x), is), weaker x es (given_elements v limit state zs) each), (others-apart x a es (given_elements v limit state zs) is once.0 each, others))

-- ---- an assignment

module _ {F : Type 0} (v : F → Number) (limit : ℕ) (state : State) (binding : Pairs) (target : Target F) (right_at : Place) (right : tree.Tree F) where
  -- what an element is given where it has a tuple
  abbrev where_tuple : Pairs → Option (List ℕ) → Answer (Option (List ℕ × Given))
  where_tuple b None = Ok None
  where_tuple b (Some t) = given_under v limit state target right_at right b and_then λ given. Ok (Some (t, given))

  -- the tuple of an element that is given something
  given-tuple : (b : Pairs) (a : List ℕ × Given) → element_under v limit state target right_at right b ≡ Ok (Some a) → (in_order (labels v limit state b target.indices) and_then λ those. Ok (tuple_of those)) ≡ Ok (Some a.0)
  given-tuple b a e =
      let found = before (in_order (labels v limit state b target.indices)) (λ those. where_tuple b (tuple_of those)) (Some a) e in
      ap (λ (answer : Answer (List (Option ℕ))). answer and_then λ those. Ok (tuple_of those)) found.is ∙ ap Ok (by (tuple_of found.found) found.goes)
    where
      by : (o : Option (List ℕ)) → where_tuple b o ≡ Ok (Some a) → o ≡ Some a.0
      by None e = absurd cc
      by (Some t) e =
          let found = before (given_under v limit state target right_at right b) (λ given. Ok (Some (t, given))) (Some a) e in
          let same : Some (t, found.found) ≡ Some a = only_value (Some (t, found.found)) (Some a) found.goes in
          ap (option_map (λ (p : List ℕ × Given). p.0)) same

  module _ (left : AreLeft state target.indices) where
    abbrev sets : List ℕ
    sets = newly_controlled binding target.indices

    sets-simple : (indices : tree.Indices F) → AreLeft state indices → (set : ℕ) → list_any (λ m. m == set) (sets_among indices) ≡ true → IsSimple state set
    sets-simple tree.no_index left set among = absurd cc
    sets-simple (tree.label n rest) left set among = sets-simple rest left set among
    sets-simple (tree.set s rest) left set among = by (s == set) refl (sets-simple rest left.1 set) among
      where
        by : (b : Bool) → (s == set) ≡ b → (list_any (λ m. m == set) (sets_among rest) ≡ true → IsSimple state set) → (b || list_any (λ m. m == set) (sets_among rest)) ≡ true → IsSimple state set
        by true same later among = subst (IsSimple state) (eqb-true s set same) left.0
        by false apart later among = later among
    sets-simple (tree.lagged s op at amount rest) left set among = by (s == set) refl (sets-simple rest left.1.1 set) among
      where
        by : (b : Bool) → (s == set) ≡ b → (list_any (λ m. m == set) (sets_among rest) ≡ true → IsSimple state set) → (b || list_any (λ m. m == set) (sets_among rest)) ≡ true → IsSimple state set
        by true same later among = subst (IsSimple state) (eqb-true s set same) left.0
        by false apart later among = later among

    all-simple : (ns : List ℕ) → ((set : ℕ) → list_any (λ m. m == set) ns ≡ true → IsSimple state set) → AllByRecursion (IsSimple state) ns
    all-simple [] each = tt
    all-simple (n ∷ ns) each =
        (each n (ap (λ b. b || list_any (λ m. m == n) ns) (eq-eqb n n refl)), all-simple ns (λ set among. each set (ap (λ b. (n == set) || b) among ∙ or-true (n == set))))
      where
        or-true : (b : Bool) → (b || true) ≡ true
        or-true true = refl
        or-true false = refl

    -- a set that is newly controlled is one of the left side, and stands for nothing before
    newly : (set : ℕ) → list_any (λ m. m == set) sets ≡ true → (list_any (λ m. m == set) (sets_among target.indices) ≡ true) × (label_of binding set ≡ None)
    newly set among =
        let kept = kept-among (λ set. is_none (label_of binding set)) (distinct_numbers (sets_among target.indices)) set among in
        (once-among (sets_among target.indices) set kept.0, by (label_of binding set) kept.1)
      where
        by : (o : Option ℕ) → is_none o ≡ true → o ≡ None
        by None e = refl
        by (Some n) e = absurd cc

    sets-apart : AreApart sets
    sets-apart = kept-apart (λ set. is_none (label_of binding set)) (distinct_numbers (sets_among target.indices)) (once-apart (sets_among target.indices))

    injective : (d e : List ℕ) (a b : List ℕ × Given) → length d ≡ length sets → length e ≡ length sets → element_under v limit state target right_at right (controlled binding sets d) ≡ Ok (Some a) → element_under v limit state target right_at right (controlled binding sets e) ≡ Ok (Some b) → a.0 ≡ b.0 → d ≡ e
    injective d e a b long same one other tuples =
        let first = tuple-labels (labels v limit state (controlled binding sets d) target.indices) a.0 (given-tuple (controlled binding sets d) a one) in
        let second = tuple-labels (labels v limit state (controlled binding sets e) target.indices) b.0 (given-tuple (controlled binding sets e) b other) in
        element-same sets d e long same sets-apart (λ set among.
        let new = newly set among in
        sym (label-inside binding (paired sets d) set new.1)
        ∙ labels-same v limit state (controlled binding sets d) (controlled binding sets e) target.indices b.0 left (first ∙ ap (map there) tuples) second set new.0
        ∙ label-inside binding (paired sets e) set new.1)

    -- an element of another length is given nothing here
    abbrev of_element : List ℕ → Answer (Option (List ℕ × Given))
    of_element e =
        if length e == length sets then element_under v limit state target right_at right (controlled binding sets e) else Ok None

    of-injective : (d e : List ℕ) (a b : List ℕ × Given) → of_element d ≡ Ok (Some a) → of_element e ≡ Ok (Some b) → a.0 ≡ b.0 → d ≡ e
    of-injective d e a b one other tuples = by (length d == length sets) (length e == length sets) refl refl one other
      where
        by : (p q : Bool) → (length d == length sets) ≡ p → (length e == length sets) ≡ q → (if p then element_under v limit state target right_at right (controlled binding sets d) else Ok None) ≡ Ok (Some a) → (if q then element_under v limit state target right_at right (controlled binding sets e) else Ok None) ≡ Ok (Some b) → d ≡ e
        by true true long same one other = injective d e a b (eqb-true (length d) (length sets) long) (eqb-true (length e) (length sets) same) one other tuples
        by true false long same one other = absurd cc
        by false q long same one other = absurd cc

    all-long : (es : List (List ℕ)) → ((e : List ℕ) → has es e ≡ true → length e ≡ length sets) → map (λ element. element_under v limit state target right_at right (controlled binding sets element)) es ≡ map of_element es
    all-long [] long = refl
    all-long (e ∷ es) long =
        ap (λ answer. answer ∷ map (λ element. element_under v limit state target right_at right (controlled binding sets element)) es) (sym (ap (λ b. if b then element_under v limit state target right_at right (controlled binding sets e) else Ok None) (eq-eqb (length e) (length sets) (long e (ap (λ b. b || has es e) (same_tuple_refl e))))))
        ∙ ap (λ answers. of_element e ∷ answers) (all-long es (λ other there. long other (ap (λ b. same_tuple e other || b) there ∙ or-true (same_tuple e other))))
      where
        or-true : (b : Bool) → (b || true) ≡ true
        or-true true = refl
        or-true false = refl

    pub given-once : (at : Place) (condition : Option (tree.Tree F)) (given : AllGiven) → given_by v limit state at binding target condition right_at right ≡ Ok given → IsOnce given
    given-once at condition given e =
        let a = before (domain v limit state binding at (control_over sets condition)) (λ elements. in_order (map (λ element. element_under v limit state target right_at right (controlled binding sets element)) elements) and_then λ given. Ok (given_elements v limit state given)) given e in
        let b = before (in_order (map (λ element. element_under v limit state target right_at right (controlled binding sets element)) a.found)) (λ given. Ok (given_elements v limit state given)) given a.goes in
        let simple = All-from_recursion (IsSimple state) sets (all-simple sets (λ set among. sets-simple target.indices left set (newly set among).0)) in
        let some = domain-some v limit state binding at sets condition a.found (ordered-once (elements state sets) (elements-ordered state sets simple)) a.is in
        let long : in_order (map of_element a.found) ≡ Ok b.found = sym (ap in_order (all-long a.found (λ x there. element-length state sets x (some.among x there)))) ∙ b.is in
        subst IsOnce (only_value (given_elements v limit state b.found) given b.goes) (each-once v limit state of_element of-injective a.found b.found some.once long).1
