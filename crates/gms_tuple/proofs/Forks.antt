-- Lists around a tuple: what is at each place, what is inserted or removed, and how many tuples
-- pass a test that an ordered list fails from some tuple on.
use Rattle.std.proofs.Common.{◌≡◌, ℕ, ◌+◌, ◌-◌, ◌<◌, ◌≤◌, Bool, true, false, ◌||◌, List, [], ◌∷◌, ◌++◌, filter, length, get_or, suc, zero, refl, sym, ap, subst, ◌∙◌, cond, arith, insert, remove, Some, slice_get}
use Rattle.std.specs.declared.cmp.Ordering.{Ordering}
use Rattle.std.specs.declared.cmp.Ordering.TheVariants.{Less, Equal, Greater}
use Rattle.std.specs.Ordering.{is_lt}
use Rattle.std.specs.List.{All, count_by, position_or_len}
use Rattle.std.proofs.lemmas.List.{length-append, append-nil}
use Rattle.std.proofs.lemmas.List.Edits.{insert-append_left, insert-append_right, remove-append_left, remove-append_right}
use Rattle.std.proofs.lemmas.List.Elements.{All-nil, All-cons, All-head, All-tail, All-weaker, filter-append, filter_agree}
use Rattle.std.proofs.lemmas.List.Sums.{length-filter}
use Rattle.std.proofs.lemmas.Option.{slice_get_within, get_or_from_slice_get, slice_get-get_or}
use Rattle.std.proofs.lemmas.Bool.{both_ways, false_from_ne_true, lt-ltb}
use Rattle.gms_tuple.specs.TupleOrder.{tuple_cmp, is_before, same_tuple, begins_with, IsOrdered}
use Rattle.gms_tuple.specs.TupleSet.{has, place_of_tuple, count_before, count_with, is_within}
use Rattle.gms_tuple.proofs.Ordered.{same_tuple-Decides, same_tuple-Less, same_tuple-Greater, tuple_cmp-Equal, first-before, rest-ordered, ordered-cons, ordered-nil, filter_all, filter_none}
use Rattle.gms_tuple.proofs.Members.{not-after}
use Rattle.gms_tuple.proofs.Spans.{begins-not-before, begins-between, before-closed}

-- ---- places

module _ {X : Type 0} (l : List X) (x : X) (r : List X) where
  -- a list around one of its elements has as many as the parts
  pub length-fork : length (l ++ x ∷ r) ≡ length l + 1 + length r
  length-fork = length-append l (x ∷ r) ∙ omega arith

module _ {X : Type 0} (l m r : List X) where
  -- the number of the tuples of a fork is that of its sides and its own
  pub length-block : length (l ++ (m ++ r)) ≡ length l + (length m + length r)
  length-block = length-append l (m ++ r) ∙ ap (λ n. length l + n) (length-append m r)

  pub insert-left : (n : ℕ) (t : X) → n ≤ length l → insert (l ++ (m ++ r)) n t ≡ insert l n t ++ (m ++ r)
  insert-left n t le = insert-append_left l (m ++ r) n t le

  pub insert-own : (n : ℕ) (t : X) → length l ≤ n → n ≤ length l + length m → insert (l ++ (m ++ r)) n t ≡ l ++ (insert m (n - length l) t ++ r)
  insert-own n t le within = insert-append_right l (m ++ r) (length l) n t refl le ∙ ap (λ xs. l ++ xs) (insert-append_left m r (n - length l) t (omega (arith, le, within)))

  pub insert-right : (n : ℕ) (t : X) → length l + length m ≤ n → insert (l ++ (m ++ r)) n t ≡ l ++ (m ++ insert r (n - (length l + length m)) t)
  insert-right n t le =
      insert-append_right l (m ++ r) (length l) n t refl (omega (arith, le))
      ∙ ap (λ xs. l ++ xs) (insert-append_right m r (length m) (n - length l) t refl (omega (arith, le)) ∙ ap (λ k. m ++ insert r k t) (let e : n - length l - length m ≡ n - (length l + length m) = omega arith in e))

  pub remove-left : (n : ℕ) → n < length l → remove (l ++ (m ++ r)) n ≡ remove l n ++ (m ++ r)
  remove-left n lt = remove-append_left l (m ++ r) n lt

  pub remove-own : (n : ℕ) → length l ≤ n → n < length l + length m → remove (l ++ (m ++ r)) n ≡ l ++ (remove m (n - length l) ++ r)
  remove-own n le within = remove-append_right l (m ++ r) (length l) n refl le ∙ ap (λ xs. l ++ xs) (remove-append_left m r (n - length l) (omega (arith, le, within)))

  pub remove-right : (n : ℕ) → length l + length m ≤ n → remove (l ++ (m ++ r)) n ≡ l ++ (m ++ remove r (n - (length l + length m)))
  remove-right n le =
      remove-append_right l (m ++ r) (length l) n refl (omega (arith, le))
      ∙ ap (λ xs. l ++ xs) (remove-append_right m r (length m) (n - length l) refl (omega (arith, le)) ∙ ap (λ k. m ++ remove r k) (let e : n - length l - length m ≡ n - (length l + length m) = omega arith in e))

-- one of fewer tuples has fewer than the same bound
pub length-removed : {X : Type 0} (xs : List X) (n : ℕ) → n < length xs → suc (length (remove xs n)) ≡ length xs
length-removed (x ∷ xs) zero lt = refl
length-removed (x ∷ xs) (suc n) lt = ap suc (length-removed xs n (omega (arith, lt)))
length-removed [] n lt = absurd (omega (arith, lt))

-- ---- order

-- what holds of all holds of the one between
all-own : (P : List ℕ → Type 0) (l : List (List ℕ)) (x : List ℕ) (r : List (List ℕ)) → All P (l ++ x ∷ r) → P x
all-own P [] x r all = All-head P x r all
all-own P (y ∷ l) x r all = all-own P l x r (All-tail P y (l ++ x ∷ r) all)

all-left : (P : List ℕ → Type 0) (l m : List (List ℕ)) → All P (l ++ m) → All P l
all-left P [] m all = All-nil P
all-left P (y ∷ l) m all = All-cons P y l (All-head P y (l ++ m) all) (all-left P l m (All-tail P y (l ++ m) all))

-- the sides of an ordered fork are in order; its tuple comes after those on the left and before
-- those on the right
pub ordered-left : (l m : List (List ℕ)) → IsOrdered (l ++ m) → IsOrdered l
ordered-left [] m ordered = ordered-nil
ordered-left (y ∷ l) m ordered =
    ordered-cons y l (all-left (λ z. tuple_cmp y z ≡ Less) l m (first-before y (l ++ m) ordered)) (ordered-left l m (rest-ordered y (l ++ m) ordered))

pub ordered-right : (l : List (List ℕ)) (x : List ℕ) (r : List (List ℕ)) → IsOrdered (l ++ x ∷ r) → IsOrdered r
ordered-right [] x r ordered = rest-ordered x r ordered
ordered-right (y ∷ l) x r ordered = ordered-right l x r (rest-ordered y (l ++ x ∷ r) ordered)

left-before : (l : List (List ℕ)) (x : List ℕ) (r : List (List ℕ)) → IsOrdered (l ++ x ∷ r) → All (λ y. tuple_cmp y x ≡ Less) l
left-before [] x r ordered = All-nil (λ y. tuple_cmp y x ≡ Less)
left-before (y ∷ l) x r ordered =
    All-cons (λ y. tuple_cmp y x ≡ Less) y l (all-own (λ z. tuple_cmp y z ≡ Less) l x r (first-before y (l ++ x ∷ r) ordered)) (left-before l x r (rest-ordered y (l ++ x ∷ r) ordered))

right-after : (l : List (List ℕ)) (x : List ℕ) (r : List (List ℕ)) → IsOrdered (l ++ x ∷ r) → All (λ z. tuple_cmp x z ≡ Less) r
right-after [] x r ordered = first-before x r ordered
right-after (y ∷ l) x r ordered = right-after l x r (rest-ordered y (l ++ x ∷ r) ordered)

pub own-ordered : (l m : List (List ℕ)) → IsOrdered (l ++ m) → IsOrdered m
own-ordered [] m ordered = ordered
own-ordered (y ∷ l) m ordered = own-ordered l m (rest-ordered y (l ++ m) ordered)

-- ---- counts

-- a test that passes each tuple that comes before one which it passes
abbrev pub IsClosed : (List ℕ → Bool) → Type 0
IsClosed p = (x y : List ℕ) → tuple_cmp x y ≡ Less → p y ≡ true → p x ≡ true

module _ (p : List ℕ → Bool) (closed : IsClosed p) (l : List (List ℕ)) (x : List ℕ) (r : List (List ℕ)) (ordered : IsOrdered (l ++ x ∷ r)) where
  -- where the tuple of a fork passes, so do all on its left
  pub count-passes : p x ≡ true → count_by p (l ++ x ∷ r) ≡ length l + 1 + count_by p r
  count-passes passes =
      let left : filter p l ≡ l = filter_all p l (All-weaker (λ y. tuple_cmp y x ≡ Less) (λ y. p y ≡ true) (λ y less. closed y x less passes) l (left-before l x r ordered)) in
      let whole : filter p (l ++ x ∷ r) ≡ l ++ x ∷ filter p r = filter-append p l (x ∷ r) ∙ rw (left, passes) refl in
      sym (length-filter p (l ++ x ∷ r)) ∙ ap length whole ∙ length-fork l x (filter p r) ∙ ap (λ n. length l + 1 + n) (length-filter p r)

  -- where it fails, so do all on its right
  pub count-fails : p x ≡ false → count_by p (l ++ x ∷ r) ≡ count_by p l
  count-fails fails =
      let right : filter p r ≡ [] = filter_none p r (All-weaker (λ z. tuple_cmp x z ≡ Less) (λ z. p z ≡ false) (λ z less. false_from_ne_true (p z) (λ passes. both_ways (p x) fails (closed x z less passes))) r (right-after l x r ordered)) in
      let whole : filter p (l ++ x ∷ r) ≡ filter p l = filter-append p l (x ∷ r) ∙ rw (fails, right) (append-nil (filter p l)) in
      sym (length-filter p (l ++ x ∷ r)) ∙ ap length whole ∙ length-filter p l

module _ (p : List ℕ → Bool) (closed : IsClosed p) where
  -- the tuples that pass are those of two parts that pass
  pub count-parts : (l m : List (List ℕ)) → count_by p (l ++ m) ≡ count_by p l + count_by p m
  count-parts l m =
      sym (length-filter p (l ++ m)) ∙ ap length (filter-append p l m) ∙ length-append (filter p l) (filter p m) ∙ ap (λ n. n + length (filter p m)) (length-filter p l) ∙ ap (λ n. count_by p l + n) (length-filter p m)

  -- where one of the second part passes, so do all of the first
  pub count-some : (l m : List (List ℕ)) → IsOrdered (l ++ m) → 0 < count_by p m → count_by p (l ++ m) ≡ length l + count_by p m
  count-some l [] ordered some = absurd (omega (arith, some))
  count-some l (x ∷ m) ordered some = by (p x) refl
    where
      second : (l : List (List ℕ)) → IsOrdered (l ++ x ∷ m) → IsOrdered (x ∷ m)
      second [] ordered = ordered
      second (y ∷ l) ordered = second l (rest-ordered y (l ++ x ∷ m) ordered)

      by : (b : Bool) → p x ≡ b → count_by p (l ++ x ∷ m) ≡ length l + count_by p (x ∷ m)
      by true passes =
          let whole = count-passes p closed l x m ordered passes in
          let own = count-passes p closed [] x m (second l ordered) passes in
          omega (arith, whole, own)
      by false fails =
          let none : count_by p (x ∷ m) ≡ 0 = count-fails p closed [] x m (second l ordered) fails in
          absurd (omega (arith, none, some))

-- how many pass in a fork, by its first own tuple
module _ (p : List ℕ → Bool) (closed : IsClosed p) (l m r : List (List ℕ)) (ordered : IsOrdered (l ++ (m ++ r))) (some : 0 < length m) where
  pub first-fails : p (get_or m 0 []) ≡ false → count_by p (l ++ (m ++ r)) ≡ count_by p l
  first-fails fails = by m ordered some fails
    where
      by : (m : List (List ℕ)) → IsOrdered (l ++ (m ++ r)) → 0 < length m → p (get_or m 0 []) ≡ false → count_by p (l ++ (m ++ r)) ≡ count_by p l
      by [] ordered some fails = absurd (omega (arith, some))
      by (x ∷ m) ordered some fails = count-fails p closed l x (m ++ r) ordered fails

  first-passes : p (get_or m 0 []) ≡ true → count_by p (l ++ (m ++ r)) ≡ length l + count_by p (m ++ r)
  first-passes passes = by m ordered some passes
    where
      by : (m : List (List ℕ)) → IsOrdered (l ++ (m ++ r)) → 0 < length m → p (get_or m 0 []) ≡ true → count_by p (l ++ (m ++ r)) ≡ length l + count_by p (m ++ r)
      by [] ordered some passes = absurd (omega (arith, some))
      by (x ∷ m) ordered some passes =
          let whole = count-passes p closed l x (m ++ r) ordered passes in
          let own = count-passes p closed [] x (m ++ r) (own-ordered l (x ∷ m ++ r) ordered) passes in
          omega (arith, whole, own)

  pub past-some : p (get_or m 0 []) ≡ true → 0 < count_by p r → count_by p (l ++ (m ++ r)) ≡ length l + length m + count_by p r
  past-some passes after = let whole = first-passes passes in let own = count-some p closed m r (own-ordered l (m ++ r) ordered) after in omega (arith, whole, own)

  pub past-none : p (get_or m 0 []) ≡ true → count_by p r ≡ 0 → count_by p (l ++ (m ++ r)) ≡ length l + count_by p m
  past-none passes after = let whole = first-passes passes in let own = count-parts p closed m r in omega (arith, whole, own, after)

-- coming before a prefix, or before the end of those that begin with it, is such a test
pub is_within-closed : (through : Bool) (prefix : List ℕ) → IsClosed (is_within through prefix)
is_within-closed false prefix x y less within = by (is_before y prefix) refl within
  where
    by : (b : Bool) → is_before y prefix ≡ b → (b || false) ≡ true → (is_before x prefix || false) ≡ true
    by true before _ = rw (before-closed prefix x y less before) refl
    by false _ none = absurd cc
is_within-closed true prefix x y less within = by (is_before y prefix) refl within
  where
    or-begins : (b : Bool) → is_before x prefix ≡ b → begins_with y prefix ≡ true → (b || begins_with x prefix) ≡ true
    or-begins true _ begins = refl
    or-begins false after begins = begins-between prefix x y after less begins

    by : (b : Bool) → is_before y prefix ≡ b → (b || begins_with y prefix) ≡ true → (is_before x prefix || begins_with x prefix) ≡ true
    by true before _ = rw (before-closed prefix x y less before) refl
    by false _ begins = or-begins (is_before x prefix) refl begins

-- two tests that agree count the same
count-agree : (p q : List ℕ → Bool) → ((x : List ℕ) → p x ≡ q x) → (xs : List (List ℕ)) → count_by p xs ≡ count_by q xs
count-agree p q agree xs = sym (length-filter p xs) ∙ ap length (filter_agree p q agree xs) ∙ length-filter q xs

pub count-within : (xs : List (List ℕ)) (prefix : List ℕ) → count_by (is_within false prefix) xs ≡ count_before xs prefix
count-within xs prefix = count-agree (is_within false prefix) (λ member. is_before member prefix) (λ x. by (is_before x prefix)) xs
  where
    by : (b : Bool) → (b || false) ≡ b
    by true = refl
    by false = refl

length-through : (xs : List (List ℕ)) (prefix : List ℕ) → length (filter (is_within true prefix) xs) ≡ length (filter (λ member. is_before member prefix) xs) + length (filter (λ member. begins_with member prefix) xs)
length-through [] prefix = refl
length-through (x ∷ xs) prefix = by (filter (is_within true prefix) xs) (filter (λ member. is_before member prefix) xs) (filter (λ member. begins_with member prefix) xs) (length-through xs prefix) (is_before x prefix) refl (begins_with x prefix) refl
  where
    by : (A B C : List (List ℕ)) → length A ≡ length B + length C → (b : Bool) → is_before x prefix ≡ b → (c : Bool) → begins_with x prefix ≡ c → length (cond (b || c) (x ∷ A) A) ≡ length (cond b (x ∷ B) B) + length (cond c (x ∷ C) C)
    by A B C rest true before true begins = absurd (both_ways (is_before x prefix) (begins-not-before prefix x begins) before)
    by A B C rest true before false begins = omega arith
    by A B C rest false before true begins = omega arith
    by A B C rest false before false begins = rest

pub count-through : (xs : List (List ℕ)) (prefix : List ℕ) → count_by (is_within true prefix) xs ≡ count_before xs prefix + count_with xs prefix
count-through xs prefix =
    omega (arith, length-through xs prefix, length-filter (is_within true prefix) xs, length-filter (λ member. is_before member prefix) xs, length-filter (λ member. begins_with member prefix) xs)

-- ---- the place of a tuple

-- if the first tuple of an ordered list does not come before another, no tuple of the list does
none-before : (x : List ℕ) (xs : List (List ℕ)) (t : List ℕ) → IsOrdered (x ∷ xs) → is_before x t ≡ false → count_before (x ∷ xs) t ≡ 0
none-before x xs t ordered not-before = count-fails (λ member. is_before member t) (λ x y less before. before-closed t x y less before) [] x xs ordered not-before

one-before : (x : List ℕ) (xs : List (List ℕ)) (t : List ℕ) → IsOrdered (x ∷ xs) → is_before x t ≡ true → count_before (x ∷ xs) t ≡ suc (count_before xs t)
one-before x xs t ordered before =
    let e = count-passes (λ member. is_before member t) (λ x y less before. before-closed t x y less before) [] x xs ordered before in omega arith

-- if the first tuple that does not come before another equals it, that is its place
first-same : (xs : List (List ℕ)) (t : List ℕ) → IsOrdered xs → count_before xs t < length xs → same_tuple (get_or xs (count_before xs t) []) t ≡ true → position_or_len (λ member. same_tuple member t) xs ≡ count_before xs t
first-same [] t ordered within same = absurd (omega arith)
first-same (x ∷ xs) t ordered within same = by (first-same xs t (rest-ordered x xs ordered)) (tuple_cmp x t) refl
  where
    by : (count_before xs t < length xs → same_tuple (get_or xs (count_before xs t) []) t ≡ true → position_or_len (λ member. same_tuple member t) xs ≡ count_before xs t) → (o : Ordering) → tuple_cmp x t ≡ o → position_or_len (λ member. same_tuple member t) (x ∷ xs) ≡ count_before (x ∷ xs) t
    by rest Less e =
        let n = one-before x xs t ordered (ap is_lt e) in
        let later = rest (omega arith) (rw n at same) in rw (same_tuple-Less x t e, n) (omega arith)
    by rest Equal e =
        let n = none-before x xs t ordered (ap is_lt e) in
        let own : same_tuple x t ≡ true = (same_tuple-Decides x t).1 (tuple_cmp-Equal x t e) in
        rw (own, n) refl
    by rest Greater e =
        let n = none-before x xs t ordered (ap is_lt e) in
        absurd (both_ways (same_tuple x t) (same_tuple-Greater x t e) (rw n at same))

pub place_of-counted : (xs : List (List ℕ)) (t : List ℕ) → IsOrdered xs → count_before xs t < length xs → same_tuple (get_or xs (count_before xs t) []) t ≡ true → place_of_tuple xs t ≡ Some (count_before xs t)
place_of-counted xs t ordered within same =
    let e = first-same xs t ordered within same in
    rw (e, lt-ltb (count_before xs t) (length xs) within) refl

-- if at that place another tuple is, or none, the list lacks the tuple
pub has-not : (xs : List (List ℕ)) (t : List ℕ) → IsOrdered xs → (count_before xs t < length xs → same_tuple (get_or xs (count_before xs t) []) t ≡ false) → has xs t ≡ false
has-not [] t ordered other = refl
has-not (x ∷ xs) t ordered other = by (has-not xs t (rest-ordered x xs ordered)) (tuple_cmp x t) refl
  where
    by : ((count_before xs t < length xs → same_tuple (get_or xs (count_before xs t) []) t ≡ false) → has xs t ≡ false) → (o : Ordering) → tuple_cmp x t ≡ o → has (x ∷ xs) t ≡ false
    by rest Less e =
        let n = one-before x xs t ordered (ap is_lt e) in
        rw (same_tuple-Less x t e) (rest (λ l. rw n at (other (omega arith))))
    by rest Equal e =
        let n = none-before x xs t ordered (ap is_lt e) in
        let own : same_tuple x t ≡ true = (same_tuple-Decides x t).1 (tuple_cmp-Equal x t e) in
        absurd (both_ways (same_tuple x t) (rw n at (other (omega arith))) own)
    by rest Greater e = rw (same_tuple-Greater x t e) (not-after x xs t (first-before x xs ordered) Greater e refl)

-- the tuple that is found at its place, or is not
pub found-at : (xs : List (List ℕ)) (t member : List ℕ) (n : ℕ) → IsOrdered xs → n ≡ count_by (is_within false t) xs → slice_get xs n ≡ Some member → same_tuple member t ≡ true → place_of_tuple xs t ≡ Some n
found-at xs t member n ordered is at same =
    let e : n ≡ count_before xs t = is ∙ count-within xs t in
    let within : count_before xs t < length xs = subst (λ n. n < length xs) e (slice_get_within xs n member at) in
    let occurs : get_or xs (count_before xs t) [] ≡ member = get_or_from_slice_get xs (count_before xs t) member [] (subst (λ n. slice_get xs n ≡ Some member) e at) in
    place_of-counted xs t ordered within (ap (λ m. same_tuple m t) occurs ∙ same) ∙ ap Some (sym e)

pub absent-at : (xs : List (List ℕ)) (t : List ℕ) (n : ℕ) → IsOrdered xs → n ≡ count_by (is_within false t) xs → (n < length xs → (member : List ℕ) → slice_get xs n ≡ Some member → same_tuple member t ≡ false) → (has xs t ≡ false) × (n ≡ count_before xs t)
absent-at xs t n ordered is other =
    let e : n ≡ count_before xs t = is ∙ count-within xs t in
    let m = count_before xs t in
    (has-not xs t ordered (λ l. other (subst (λ n. n < length xs) (sym e) l) (get_or xs m []) (subst (λ n. slice_get xs n ≡ Some (get_or xs m [])) (sym e) (slice_get-get_or xs m [] l))), e)
