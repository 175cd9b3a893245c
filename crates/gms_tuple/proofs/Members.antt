-- Laws of membership: what has which members, and that an ordered list is known by its members.
use Rattle.std.proofs.Common.{◌≡◌, ℕ, Bool, true, false, not, ◌||◌, ◌&&◌, List, [], ◌∷◌, ◌++◌, filter, fold, length, drop, insert, refl, sym, ap, ◌∙◌, cond, arith, ◌+◌, ◌<◌, ◌≤◌, suc, ltb, remove, Some, None, Result, Ok, Err, IfOk, is_ok, Contains}
use Rattle.std.specs.declared.cmp.Ordering.{Ordering}
use Rattle.std.specs.declared.cmp.Ordering.TheVariants.{Less, Equal, Greater}
use Rattle.std.specs.Ordering.{is_lt}
use Rattle.std.specs.Result.{IfErr}
use Rattle.std.specs.List.{All, position_or_len}
use Rattle.std.proofs.lemmas.List.{take_at, drop_at}
use Rattle.std.proofs.lemmas.List.Sums.{length-filter, fails_before_first}
use Rattle.std.proofs.lemmas.List.Quantifiers.{position-Some}
use Rattle.std.proofs.lemmas.List.Elements.{All-cons, All-head, All-tail, All-weaker, filter_passes, All-nil, All-from_get_or}
use Rattle.std.proofs.lemmas.List.Folds.{list_any-append, list_any_none, list_any_at}
use Rattle.std.proofs.lemmas.Bool.{both_ways, ltb-true, ltb-false, false_from_ne_true, or_parts}
use Rattle.std.proofs.lemmas.Cmp.{nat_list_eq_equiv, tied_itself}
use Rattle.std.proofs.lemmas.List.Kept.{IsStrictlySortedBy-filter}
use Rattle.gms_tuple.specs.TupleOrder.{tuple_cmp, is_before, same_tuple, IsOrdered}
use Rattle.gms_tuple.specs.OrderLaws.{tuple_cmp-total}
use Rattle.gms_tuple.specs.TupleSet.{has, place_of_tuple, inserted, removed, set_difference, intersection, count_before}
use Rattle.gms_tuple.proofs.Ordered.{same_tuple-Decides, same_tuple_refl, same_tuple-Greater, tuple_cmp-Equal, tuple_cmp-flip, first-before, rest-ordered, ordered-join, filter_agree_on, filter_all, cut-by}

-- a list that lacks a tuple has none that is the same
pub all-other : (xs : List (List ℕ)) (t : List ℕ) → has xs t ≡ false → All (λ x. same_tuple x t ≡ false) xs
all-other [] t none = All-nil (λ x. same_tuple x t ≡ false)
all-other (x ∷ xs) t none =
    let parts = or_parts (same_tuple x t) (has xs t) none in
    All-cons (λ x. same_tuple x t ≡ false) x xs parts.0 (all-other xs t parts.1)

-- what is among the others of an ordered list comes after its first
pub after-first : (x : List ℕ) (xs : List (List ℕ)) (t : List ℕ) → All (λ y. tuple_cmp x y ≡ Less) xs → has xs t ≡ true → tuple_cmp x t ≡ Less
after-first x [] t before there = absurd (cc)
after-first x (y ∷ ys) t before there =
    elim (same_tuple y t) as (λ b. same_tuple y t ≡ b → (b || has ys t) ≡ true → tuple_cmp x t ≡ Less) [
      | true ↦ λ same _. rw (sym ((same_tuple-Decides y t).0 same)) (All-head (λ y. tuple_cmp x y ≡ Less) y ys before)
      | false ↦ λ _ later. after-first x ys t (All-tail (λ y. tuple_cmp x y ≡ Less) y ys before) later
    ] refl there

-- a tuple that does not come after another is not in a list that the other may be the first of
pub not-after : (x : List ℕ) (xs : List (List ℕ)) (t : List ℕ) → All (λ y. tuple_cmp x y ≡ Less) xs → (o : Ordering) → tuple_cmp x t ≡ o → is_lt o ≡ false → has xs t ≡ false
not-after x xs t before o e other =
    false_from_ne_true (has xs t) (λ there. both_ways (is_lt o) other (ap is_lt (sym e ∙ after-first x xs t before there)))

-- a filtered list has a tuple where the list has it and it passes
pub has-filter : (p : List ℕ → Bool) (xs : List (List ℕ)) (t : List ℕ) → has (filter p xs) t ≡ (has xs t && p t)
has-filter p [] t = refl
has-filter p (x ∷ xs) t = by (has-filter p xs t) (same_tuple x t) refl (p x) refl
  where
    by : has (filter p xs) t ≡ (has xs t && p t) → (b : Bool) → same_tuple x t ≡ b → (c : Bool) → p x ≡ c → has (cond c (x ∷ filter p xs) (filter p xs)) t ≡ ((b || has xs t) && p t)
    by rest true same true passes =
        let here : p t ≡ true = ap p (sym ((same_tuple-Decides x t).0 same)) ∙ passes in
        rw (same, here) refl
    by rest true same false fails =
        let here : p t ≡ false = ap p (sym ((same_tuple-Decides x t).0 same)) ∙ fails in
        rw (rest, here) (elim (has xs t) as (λ b. (b && false) ≡ false) [ true ↦ refl | false ↦ refl ])
    by rest false other true passes = rw (other, rest) refl
    by rest false other false fails = rest

-- the same of two lists joined by a tuple
pub has-join : (xs : List (List ℕ)) (t : List ℕ) (ys : List (List ℕ)) (other : List ℕ) → has (xs ++ t ∷ ys) other ≡ (has xs other || (same_tuple t other || has ys other))
has-join xs t ys other = list_any-append (λ member. same_tuple member other) xs (t ∷ ys)

-- the members after an insertion: the old ones and the tuple
pub has-inserted : (xs : List (List ℕ)) (t other : List ℕ) → has (inserted xs t) other ≡ (same_tuple t other || has xs other)
has-inserted xs t other = by (has xs t) refl
  where
    old-or-new : (o : Ordering) → tuple_cmp other t ≡ o → (b : Bool) → ((b && is_lt o) || (same_tuple t other || (b && is_before t other))) ≡ (same_tuple t other || b)
    old-or-new Less e b = rw (tuple_cmp-flip other t Less e) (elim b as (λ b. ((b && true) || (same_tuple t other || (b && false))) ≡ (same_tuple t other || b)) [
      | true ↦ elim (same_tuple t other) as (λ s. true ≡ (s || true)) [ true ↦ refl | false ↦ refl ]
      | false ↦ refl
    ])
    old-or-new Equal e b =
        let same : same_tuple t other ≡ true = (same_tuple-Decides t other).1 (sym (tuple_cmp-Equal other t e)) in
        rw same (elim b as (λ b. ((b && false) || (true || (b && is_before t other))) ≡ (true || b)) [ true ↦ refl | false ↦ refl ])
    old-or-new Greater e b = rw (tuple_cmp-flip other t Greater e) (elim b as (λ b. ((b && false) || (same_tuple t other || (b && true))) ≡ (same_tuple t other || b)) [ true ↦ refl | false ↦ refl ])

    by : (b : Bool) → has xs t ≡ b → has (cond b xs (filter (λ member. is_before member t) xs ++ t ∷ filter (λ member. is_before t member) xs)) other ≡ (same_tuple t other || has xs other)
    by true there = elim (same_tuple t other) as (λ s. same_tuple t other ≡ s → has xs other ≡ (s || has xs other)) [
      | true ↦ λ same. ap (has xs) (sym ((same_tuple-Decides t other).0 same)) ∙ there
      | false ↦ λ _. refl
    ] refl
    by false new =
        has-join (filter (λ member. is_before member t) xs) t (filter (λ member. is_before t member) xs) other
        ∙ rw (has-filter (λ member. is_before member t) xs other, has-filter (λ member. is_before t member) xs other) (old-or-new (tuple_cmp other t) refl (has xs other))

-- the members after a removal: the old ones other than the tuple
pub has-removed : (xs : List (List ℕ)) (t other : List ℕ) → has (removed xs t) other ≡ (has xs other && not (same_tuple t other))
has-removed xs t other = has-filter (λ member. not (same_tuple member t)) xs other ∙ ap (λ b. has xs other && not b) (nat_list_eq_equiv.symm other t)

-- what two sets have: the members of the first, by whether the other has them
pub has-difference : (xs ys : List (List ℕ)) (t : List ℕ) → has (set_difference xs ys) t ≡ (has xs t && not (has ys t))
has-difference xs ys t = has-filter (λ member. not (has ys member)) xs t

pub has-intersection : (xs ys : List (List ℕ)) (t : List ℕ) → has (intersection xs ys) t ≡ (has xs t && has ys t)
has-intersection xs ys t = has-filter (λ member. has ys member) xs t

-- the members, with others inserted in sequence
abbrev pub joined : List (List ℕ) → List (List ℕ) → List (List ℕ)
joined members others = fold inserted members others

pub has-joined : (xs ys : List (List ℕ)) (t : List ℕ) → has (joined xs ys) t ≡ (has xs t || has ys t)
has-joined xs [] t = elim (has xs t) as (λ b. b ≡ (b || false)) [ true ↦ refl | false ↦ refl ]
has-joined xs (y ∷ ys) t = has-joined (inserted xs y) ys t ∙ rw (has-inserted xs y t) (by (has xs t) (same_tuple y t) (has ys t))
  where
    by : (a b c : Bool) → ((b || a) || c) ≡ (a || (b || c))
    by true true c = refl
    by true false c = refl
    by false true c = refl
    by false false c = refl

-- ---- order

-- filtering an ordered list gives one in order
pub IsOrdered-filter : (p : List ℕ → Bool) (xs : List (List ℕ)) → IsOrdered xs → IsOrdered (filter p xs)
IsOrdered-filter p xs ordered = IsStrictlySortedBy-filter tuple_cmp p xs ordered

-- if the test says that a tuple comes before another, it does
pub Less-from_before : (a b : List ℕ) → is_before a b ≡ true → tuple_cmp a b ≡ Less
Less-from_before a b before = by (tuple_cmp a b) before
  where
    by : (o : Ordering) → is_lt o ≡ true → o ≡ Less
    by Less _ = refl
    by Equal e = absurd cc
    by Greater e = absurd cc

pub IsOrdered-inserted : (xs : List (List ℕ)) (t : List ℕ) → IsOrdered xs → IsOrdered (inserted xs t)
IsOrdered-inserted xs t ordered = by (has xs t)
  where
    by : (b : Bool) → IsOrdered (cond b xs (filter (λ member. is_before member t) xs ++ t ∷ filter (λ member. is_before t member) xs))
    by true = ordered
    by false =
        ordered-join (filter (λ member. is_before member t) xs) t (filter (λ member. is_before t member) xs) (IsOrdered-filter (λ member. is_before member t) xs ordered)
        (All-weaker (λ x. is_before x t ≡ true) (λ x. tuple_cmp x t ≡ Less) (λ x before. Less-from_before x t before) (filter (λ member. is_before member t) xs) (filter_passes (λ member. is_before member t) xs))
        (IsOrdered-filter (λ member. is_before t member) xs ordered)
        (All-weaker (λ x. is_before t x ≡ true) (λ x. tuple_cmp t x ≡ Less) (λ x before. Less-from_before t x before) (filter (λ member. is_before t member) xs) (filter_passes (λ member. is_before t member) xs))

pub IsOrdered-joined : (xs ys : List (List ℕ)) → IsOrdered xs → IsOrdered (joined xs ys)
IsOrdered-joined xs [] ordered = ordered
IsOrdered-joined xs (y ∷ ys) ordered = IsOrdered-joined (inserted xs y) ys (IsOrdered-inserted xs y ordered)

-- inserting a tuple between the two parts of a list
insert-between : (xs beginning back : List (List ℕ)) (t : List ℕ) (n : ℕ) → xs ≡ beginning ++ back → length beginning ≡ n → insert xs n t ≡ beginning ++ t ∷ back
insert-between xs beginning back t n e at = rw e (ap (λ ys. ys ++ t ∷ drop n (beginning ++ back)) (take_at beginning back n at) ∙ ap (λ ys. beginning ++ t ∷ ys) (drop_at beginning back n at))

-- of two different tuples exactly one comes first
before-either : (x t : List ℕ) → same_tuple x t ≡ false → not (is_before x t) ≡ is_before t x
before-either x t other = by (tuple_cmp x t) refl
  where
    by : (o : Ordering) → tuple_cmp x t ≡ o → not (is_lt o) ≡ is_before t x
    by Less e = rw (tuple_cmp-flip x t Less e) refl
    by Equal e = absurd (both_ways (same_tuple x t) other ((same_tuple-Decides x t).1 (tuple_cmp-Equal x t e)))
    by Greater e = rw (tuple_cmp-flip x t Greater e) refl

-- a new tuple that is inserted after the members before it is at its place in the order
pub insert-counted : (xs : List (List ℕ)) (t : List ℕ) → IsOrdered xs → has xs t ≡ false → insert xs (count_before xs t) t ≡ inserted xs t
insert-counted xs t ordered new =
    let cut = cut-by (λ _. true) (λ member. is_before member t) (λ x y _ less before. ap is_lt (tuple_cmp-total.trans x y t less (Less-from_before y t before))) xs ordered (λ k d l. refl) in
    let after : filter (λ member. not (is_before member t)) xs ≡ filter (λ member. is_before t member) xs = filter_agree_on (λ member. not (is_before member t)) (λ member. is_before t member) xs (All-weaker (λ x. same_tuple x t ≡ false) (λ x. not (is_before x t) ≡ is_before t x) (λ x other. before-either x t other) xs (all-other xs t new)) in
    insert-between xs (filter (λ member. is_before member t) xs) (filter (λ member. not (is_before member t)) xs) t (count_before xs t) cut (length-filter (λ member. is_before member t) xs)
    ∙ rw (after, new) refl

-- ---- extensionality

-- the first of a list is a member
has-first : (x : List ℕ) (xs : List (List ℕ)) → has (x ∷ xs) x ≡ true
has-first x xs = rw (same_tuple_refl x) refl

-- two ordered lists that have the same members begin with the same tuple
same-first : (x : List ℕ) (xs : List (List ℕ)) (y : List ℕ) (ys : List (List ℕ)) → IsOrdered (x ∷ xs) → IsOrdered (y ∷ ys) → ((t : List ℕ) → has (x ∷ xs) t ≡ has (y ∷ ys) t) → x ≡ y
same-first x xs y ys ordered others same = by (tuple_cmp x y) refl
  where
    by : (o : Ordering) → tuple_cmp x y ≡ o → x ≡ y
    by Less e =
        let back = tuple_cmp-flip x y Less e in
        let gone : has (y ∷ ys) x ≡ false = rw (same_tuple-Greater y x back) (not-after y ys x (first-before y ys others) Greater back refl) in
        absurd (both_ways (has (y ∷ ys) x) gone (sym (same x) ∙ has-first x xs))
    by Equal e = tuple_cmp-Equal x y e
    by Greater e =
        let gone : has (x ∷ xs) y ≡ false = rw (same_tuple-Greater x y e) (not-after x xs y (first-before x xs ordered) Greater e refl) in
        absurd (both_ways (has (x ∷ xs) y) gone (same y ∙ has-first y ys))

-- lists that have the same members and begin alike have the same others
same-rest : (x : List ℕ) (xs ys : List (List ℕ)) → IsOrdered (x ∷ xs) → IsOrdered (x ∷ ys) → ((t : List ℕ) → has (x ∷ xs) t ≡ has (x ∷ ys) t) → (t : List ℕ) → has xs t ≡ has ys t
same-rest x xs ys ordered others same t =
    elim (same_tuple x t) as (λ b. same_tuple x t ≡ b → (b || has xs t) ≡ (b || has ys t) → has xs t ≡ has ys t) [
      | true ↦ λ here _.
          let equal : tuple_cmp x t ≡ Equal = rw (← (same_tuple-Decides x t).0 here) (tied_itself tuple_cmp-total x) in
          not-after x xs t (first-before x xs ordered) Equal equal refl ∙ sym (not-after x ys t (first-before x ys others) Equal equal refl)
      | false ↦ λ _ e. e
    ] refl (same t)

-- two ordered lists with the same members are the same list
pub same_from_members : (xs ys : List (List ℕ)) → IsOrdered xs → IsOrdered ys → ((t : List ℕ) → has xs t ≡ has ys t) → xs ≡ ys
same_from_members [] [] ordered others same = refl
same_from_members [] (y ∷ ys) ordered others same = absurd (both_ways (has (y ∷ ys) y) (sym (same y)) (has-first y ys))
same_from_members (x ∷ xs) [] ordered others same = absurd (both_ways (has (x ∷ xs) x) (same x) (has-first x xs))
same_from_members (x ∷ xs) (y ∷ ys) ordered others same =
    let first : x ≡ y = same-first x xs y ys ordered others same in
    let others' : IsOrdered (x ∷ ys) = rw first others in
    let same' : (t : List ℕ) → has (x ∷ xs) t ≡ has (x ∷ ys) t = λ t. same t ∙ sym (ap (λ z. has (z ∷ ys) t) first) in
    λ i. first i ∷ same_from_members xs ys (rest-ordered x xs ordered) (rest-ordered y ys others) (same-rest x xs ys ordered others' same') i

-- the members of an ordered set that another has, or lacks, are in order
pub IsOrdered-chosen : (there : Bool) (xs ys made : List (List ℕ)) → IsOrdered xs → made ≡ cond there (intersection xs ys) (set_difference xs ys) → IsOrdered made
IsOrdered-chosen true xs ys made ordered e = rw e (IsOrdered-filter (λ member. has ys member) xs ordered)
IsOrdered-chosen false xs ys made ordered e = rw e (IsOrdered-filter (λ member. not (has ys member)) xs ordered)

-- ---- removal

-- removing the first tuple that is found leaves the other members
removed-first : (xs : List (List ℕ)) (t : List ℕ) (n : ℕ) → IsOrdered xs → position_or_len (λ member. same_tuple member t) xs ≡ n → n < length xs → remove xs n ≡ removed xs t
removed-first [] t n ordered at l = absurd (omega arith)
removed-first (x ∷ xs) t n ordered at l =
    elim (same_tuple x t) as (λ b. same_tuple x t ≡ b → cond (not b) (1 + position_or_len (λ member. same_tuple member t) xs) 0 ≡ n → remove (x ∷ xs) n ≡ cond (not b) (x ∷ removed xs t) (removed xs t)) [
      | true ↦ λ same zero.
          let equal : x ≡ t = (same_tuple-Decides x t).0 same in
          let others : All (λ y. not (same_tuple y t) ≡ true) xs = All-weaker (λ y. tuple_cmp x y ≡ Less) (λ y. not (same_tuple y t) ≡ true) (λ y less. rw (← equal) (ap not (same_tuple-Greater y x (tuple_cmp-flip x y Less less)))) xs (first-before x xs ordered) in
          rw (← zero) (sym (filter_all (λ member. not (same_tuple member t)) xs others))
      | false ↦ λ _ next.
          let m = position_or_len (λ member. same_tuple member t) xs in
          let e : n ≡ suc m = omega arith in
          rw e (ap (λ ys. x ∷ ys) (removed-first xs t m (rest-ordered x xs ordered) refl (omega arith)))
    ] refl at

-- the place that is answered is the first at which the tuple is
place_of-Some : (xs : List (List ℕ)) (t : List ℕ) (n : ℕ) → place_of_tuple xs t ≡ Some n → (n < length xs) × (position_or_len (λ member. same_tuple member t) xs ≡ n)
place_of-Some xs t n found =
    let m = position_or_len (λ member. same_tuple member t) xs in
    elim (ltb m (length xs)) as (λ b. ltb m (length xs) ≡ b → cond b (Some m) None ≡ Some n → (n < length xs) × (m ≡ n)) [
      | true ↦ λ l e. let at : m ≡ n = cc in let below = ltb-true m (length xs) l in (omega arith, at)
      | false ↦ λ _ e. absurd cc
    ] refl found

-- removing the tuple at its place leaves the other members
pub remove-at : (xs : List (List ℕ)) (t : List ℕ) (n : ℕ) → IsOrdered xs → place_of_tuple xs t ≡ Some n → remove xs n ≡ removed xs t
remove-at xs t n ordered found =
    let at = place_of-Some xs t n found in removed-first xs t n ordered at.1 at.0

-- a tuple that has a place is a member
pub has-place : (xs : List (List ℕ)) (t : List ℕ) (n : ℕ) → place_of_tuple xs t ≡ Some n → has xs t ≡ true
has-place xs t n found =
    let at = position-Some (λ member. same_tuple member t) xs n [] found in
    list_any_at (λ member. same_tuple member t) xs n [] at.0 at.1

-- a tuple that has none is no member
pub has-no_place : (xs : List (List ℕ)) (t : List ℕ) → place_of_tuple xs t ≡ None → has xs t ≡ false
has-no_place xs t none =
    let m = position_or_len (λ member. same_tuple member t) xs in
    let whole : length xs ≤ m = elim (ltb m (length xs)) as (λ b. ltb m (length xs) ≡ b → cond b (Some m) None ≡ None → length xs ≤ m) [
      | true ↦ λ _ e. absurd cc
      | false ↦ λ l _. ltb-false m (length xs) l
    ] refl none in
    list_any_none (λ member. same_tuple member t) xs (All-from_get_or (λ x. same_tuple x t ≡ false) xs [] (λ k l. fails_before_first (λ member. same_tuple member t) xs k [] (omega arith)))

-- a list without the tuple stays
pub removed-absent : (xs : List (List ℕ)) (t : List ℕ) → has xs t ≡ false → removed xs t ≡ xs
removed-absent xs t none = filter_all (λ member. not (same_tuple member t)) xs (All-weaker (λ x. same_tuple x t ≡ false) (λ x. not (same_tuple x t) ≡ true) (λ x other. ap not other) xs (all-other xs t none))

-- putting in a member changes nothing
pub inserted-known : (xs : List (List ℕ)) (t : List ℕ) → has xs t ≡ true → xs ≡ inserted xs t
inserted-known xs t there = rw there refl

-- whether a search has found a place tells whether the tuple is a member
pub has-searched : (xs : List (List ℕ)) (t : List ℕ) (r : Result ℕ ℕ) → IfOk r (λ n. place_of_tuple xs t ≡ Some n) → IfErr r (λ n. (has xs t ≡ false) × (n ≡ count_before xs t)) → is_ok r ≡ has xs t
has-searched xs t (Ok n) found absent = sym (has-place xs t n found)
has-searched xs t (Err n) found absent = sym absent.0

-- a member is in the list
pub Contains-has : (xs : List (List ℕ)) (t : List ℕ) → has xs t ≡ true → Contains xs t
Contains-has [] t there = absurd cc
Contains-has (x ∷ xs) t there =
    elim (same_tuple x t) as (λ b. same_tuple x t ≡ b → (b || has xs t) ≡ true → Contains (x ∷ xs) t) [
      | true ↦ λ same _. (0, omega arith, (same_tuple-Decides x t).0 same)
      | false ↦ λ _ later. let rest = Contains-has xs t later in (suc rest.0, omega (arith, rest.1), rest.2)
    ] refl there

pub has-Contains : (xs : List (List ℕ)) (t : List ℕ) → Contains xs t → has xs t ≡ true
has-Contains xs t at = list_any_at (λ member. same_tuple member t) xs at.0 t at.1 ((same_tuple-Decides _ t).1 at.2)
