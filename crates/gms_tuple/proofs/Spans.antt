-- The members that begin with a prefix are adjacent in the order.
use Rattle.std.proofs.Common.{◌≡◌, ℕ, ◌+◌, ◌-◌, ◌≤◌, Bool, true, false, not, ◌&&◌, List, [], ◌∷◌, ◌++◌, filter, length, take, drop, refl, sym, ap, ◌∙◌, cond, nat_eq, arith, slice_range}
use Rattle.std.specs.declared.cmp.Ordering.{Ordering}
use Rattle.std.specs.declared.cmp.Ordering.TheVariants.{Less, Equal, Greater}
use Rattle.std.specs.Ordering.{is_lt, ordering_then, nat_cmp}
use Rattle.std.proofs.lemmas.List.{length-append, take_at, drop_at}
use Rattle.std.proofs.lemmas.List.Elements.{filter_passes}
use Rattle.std.proofs.lemmas.List.Sums.{length-filter}
use Rattle.std.proofs.lemmas.Bool.{and_parts, and_from, eqb-true, eq-eqb, both_ways, not-true}
use Rattle.std.proofs.lemmas.Cmp.{ranked, tied_itself, nat_cmp_total}
use Rattle.gms_tuple.specs.TupleOrder.{tuple_cmp, is_before, begins_with, IsOrdered}
use Rattle.gms_tuple.specs.OrderLaws.{tuple_cmp-total}
use Rattle.gms_tuple.specs.TupleSet.{count_before, count_with, those_with}
use Rattle.gms_tuple.proofs.Ordered.{cut-by}
use Rattle.gms_tuple.proofs.Members.{IsOrdered-filter, Less-from_before}

-- if the second of two tests implies the first, filtering by both is filtering by the second
filter-filter : {X : Type 0} (p q : X → Bool) → ((x : X) → q x ≡ true → p x ≡ true) → (xs : List X) → filter q (filter p xs) ≡ filter q xs
filter-filter p q implies [] = refl
filter-filter p q implies (x ∷ xs) = by (filter-filter p q implies xs) (p x) refl (q x) refl
  where
    by : filter q (filter p xs) ≡ filter q xs → (b : Bool) → p x ≡ b → (c : Bool) → q x ≡ c → filter q (cond b (x ∷ filter p xs) (filter p xs)) ≡ cond c (x ∷ filter q xs) (filter q xs)
    by rest true _ true e = rw e (ap (λ ys. x ∷ ys) rest)
    by rest true _ false e = rw e rest
    by rest false e true f = absurd (both_ways (p x) e (implies x f))
    by rest false e false f = rest

-- a tuple that begins with a prefix does not come before it
pub begins-not-before : (prefix x : List ℕ) → begins_with x prefix ≡ true → is_before x prefix ≡ false
begins-not-before [] [] begins = refl
begins-not-before [] (b ∷ x) begins = refl
begins-not-before (a ∷ prefix) [] begins = absurd cc
begins-not-before (a ∷ prefix) (b ∷ x) begins =
    let parts = and_parts (nat_eq a b) (begins_with x prefix) begins in
    let level : nat_cmp b a ≡ Equal = rw (eqb-true a b parts.0) (tied_itself nat_cmp_total b) in
    rw level (begins-not-before prefix x parts.1)

-- a tuple between a prefix and one that begins with it begins with it
pub begins-between : (prefix x y : List ℕ) → is_before x prefix ≡ false → tuple_cmp x y ≡ Less → begins_with y prefix ≡ true → begins_with x prefix ≡ true
begins-between [] x y after before begins = refl
begins-between (a ∷ prefix) [] y after before begins = absurd cc
begins-between (a ∷ prefix) (b ∷ x) [] after before begins = absurd cc
begins-between (a ∷ prefix) (b ∷ x) (c ∷ y) after before begins =
    let parts = and_parts (nat_eq a c) (begins_with y prefix) begins in
    let same : a ≡ c = eqb-true a c parts.0 in
    by (begins-between prefix x y) parts.1 (nat_cmp b a) refl after (rw same before)
  where
    by : (is_before x prefix ≡ false → tuple_cmp x y ≡ Less → begins_with y prefix ≡ true → begins_with x prefix ≡ true) → begins_with y prefix ≡ true → (o : Ordering) → nat_cmp b a ≡ o → is_lt (ordering_then o (tuple_cmp x prefix)) ≡ false → ordering_then o (tuple_cmp x y) ≡ Less → (nat_eq a b && begins_with x prefix) ≡ true
    by rest later Less e after before = absurd cc
    by rest later Equal e after before =
        let at : b ≡ a = ranked b a Equal (sym e) in
        and_from (nat_eq a b) (begins_with x prefix) (eq-eqb a b (sym at)) (rest after before later)
    by rest later Greater e after before = absurd cc

-- what comes after a tuple that is not before a prefix is not before it either, so those before it
-- come first
pub before-closed : (prefix x y : List ℕ) → tuple_cmp x y ≡ Less → is_before y prefix ≡ true → is_before x prefix ≡ true
before-closed prefix x y less before = ap is_lt (tuple_cmp-total.trans x y prefix less (Less-from_before y prefix before))

-- the members after those that begin with a prefix
abbrev pub beyond : List (List ℕ) → List ℕ → List (List ℕ)
beyond xs prefix = filter (λ member. not (begins_with member prefix)) (filter (λ member. not (is_before member prefix)) xs)

-- an ordered list is its members before a prefix, then those that begin with it, then the others
pub span-cut : (xs : List (List ℕ)) (prefix : List ℕ) → IsOrdered xs → xs ≡ filter (λ member. is_before member prefix) xs ++ (those_with xs prefix ++ beyond xs prefix)
span-cut xs prefix ordered =
    let from = filter (λ member. not (is_before member prefix)) xs in
    let first = cut-by (λ _. true) (λ member. is_before member prefix) (λ x y _ less before. before-closed prefix x y less before) xs ordered (λ k d l. refl) in
    let second : from ≡ filter (λ member. begins_with member prefix) from ++ beyond xs prefix = cut-by (λ member. not (is_before member prefix)) (λ member. begins_with member prefix) (λ x y after less begins. begins-between prefix x y (not-true (is_before x prefix) after) less begins) from (IsOrdered-filter (λ member. not (is_before member prefix)) xs ordered) (filter_passes (λ member. not (is_before member prefix)) xs) in
    let those : filter (λ member. begins_with member prefix) from ≡ those_with xs prefix = filter-filter (λ member. not (is_before member prefix)) (λ member. begins_with member prefix) (λ x begins. ap not (begins-not-before prefix x begins)) xs in
    first ∙ ap (λ rest. filter (λ member. is_before member prefix) xs ++ rest) (second ∙ ap (λ ys. ys ++ beyond xs prefix) those)

-- the middle of three parts, by its places
slice-middle : {X : Type 0} (xs beginning middle back : List X) (from : ℕ) → xs ≡ beginning ++ (middle ++ back) → length beginning ≡ from → slice_range xs from (from + length middle) ≡ middle
slice-middle xs beginning middle back from e n =
    let rest : drop from xs ≡ middle ++ back = rw e (drop_at beginning (middle ++ back) from n) in
    ap (take (from + length middle - from)) rest ∙ take_at middle back (from + length middle - from) (omega arith)

-- What the places of the members that begin with a prefix are.
pub record IsSpan (xs : List (List ℕ)) (prefix : List ℕ) (from upto : ℕ) : Type 0 where
  pub within : upto ≤ length xs
  pub range : slice_range xs from upto ≡ those_with xs prefix

pub IsSpan-counted : (xs : List (List ℕ)) (prefix : List ℕ) → IsOrdered xs → IsSpan xs prefix (count_before xs prefix) (count_before xs prefix + count_with xs prefix)
IsSpan-counted xs prefix ordered =
    let cut = span-cut xs prefix ordered in
    let beginning = filter (λ member. is_before member prefix) xs in
    let n : length beginning ≡ count_before xs prefix = length-filter (λ member. is_before member prefix) xs in
    let m : length (those_with xs prefix) ≡ count_with xs prefix = length-filter (λ member. begins_with member prefix) xs in
    rw (← m) (record {
      within = omega (arith, ap length cut, length-append beginning (those_with xs prefix ++ beyond xs prefix), length-append (those_with xs prefix) (beyond xs prefix), n);
      range = slice-middle xs beginning (those_with xs prefix) (beyond xs prefix) (count_before xs prefix) cut n;
    })
