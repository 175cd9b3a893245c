-- What the answers of single functions apply: calls that fail, sizes and places in a tree.
use Rattle.std.proofs.Common.{◌≡◌, ℕ, ◌+◌, ◌-◌, ◌*◌, ◌/◌, min, ◌<◌, ◌≤◌, zero, suc, Bool, true, false, ◌==◌, List, [], ◌∷◌, ◌++◌, length, Result, Ok, Err, IsErr, IfOk, OnOk, OnErr, slice_get, Fits, w64, refl, sym, ap, ◌∙◌, arith}
use Rattle.std.proofs.lemmas.Bool.Decides.{Decides-eqb}

-- an error has no value for which anything is to be shown
pub no_value : {T E : Type 0} (r : Result T E) (P : T → Type 0) → IsErr r → IfOk r P
no_value (Err e) P _ = tt
no_value (Ok x) P is = absurd cc

-- an error shows nothing of a success
pub not_ok : {T E : Type 0} (r : Result T E) (P : Type 0) → IsErr r → OnOk r P
not_ok (Err e) P _ = tt
not_ok (Ok x) P is = absurd cc

-- what holds in any case holds if there is an error
pub if_err : {T E : Type 0} (r : Result T E) (P : Type 0) → P → OnErr r P
if_err (Err e) P p = p
if_err (Ok x) P p = tt

-- ---- places in a list or a tree, as numbers

-- nothing is below the number of no tuples
pub none_below : (n m : ℕ) → n < m → 0 ≡ m → ⊥
none_below n m less none = omega arith

pub below_at_most : (n m : ℕ) → n < m → n ≤ m
below_at_most n m less = omega arith

-- an index after a first list is an index in the second
pub rest_within : (n before m a b : ℕ) → n ≤ a + b → before ≡ a → m ≡ b → n - before ≤ m
rest_within n before m a b within p q = omega arith

-- a part of a tree has a smaller measure
pub fewer-part : (t whole part l m r : ℕ) → 3 * (whole + 1) + 0 ≡ t → whole ≡ l + (m + r) → 0 < m → part ≡ l → 3 * (part + 1) + 0 < t
fewer-part t whole part l m r measure is some part_is = omega arith

pub fewer-part_right : (t whole part l m r : ℕ) → 3 * (whole + 1) + 0 ≡ t → whole ≡ l + (m + r) → 0 < m → part ≡ r → 3 * (part + 1) + 0 < t
fewer-part_right t whole part l m r measure is some part_is = omega arith

-- an index after the left side and the block is an index of the right side
pub rest_right : (n whole l m r before own right : ℕ) → n < whole → whole ≡ l + (m + r) → before ≡ l → own ≡ m → right ≡ r → before ≤ n → own ≤ n - before → n - before - own < right
rest_right n whole l m r before own right within is p q s from upto = omega arith

-- an index after one list is an index of what follows it
pub place_after : (n whole before l m own : ℕ) → n < whole → whole ≡ l + m → before ≡ l → own ≡ m → before ≤ n → n - before < own
place_after n whole before l m own within is p q from = omega arith

-- ---- a tree that is built

-- A block of `most` of the last `size` tuples: half of the others are to the left of it, the rest
-- is to the right of it.
module _ (size most : ℕ) (least : most ≡ min size 64) where
  pub most_within : most ≤ size
  most_within = omega arith

  pub later_within : (n : ℕ) → size ≤ n → size - most - (size - most) / 2 ≤ n
  later_within n within = omega arith

  module _ (t : ℕ) (some : size ≡ 0 → ⊥) (measure : size ≡ t) where
    pub later_fewer : size - most - (size - most) / 2 < t
    later_fewer = omega arith

    pub earlier_fewer : (size - most) / 2 < t
    earlier_fewer = omega arith

  module _ (whole rest right len : ℕ) (within : size ≤ whole) (is : whole ≡ rest + right) (later : right ≡ size - most - (size - most) / 2) (counted : len ≡ rest) where
    pub most_rest : most ≤ len
    most_rest = omega arith

    pub earlier_rest : (first : ℕ) → first ≡ len - most → (size - most) / 2 ≤ first
    earlier_rest first e = omega arith

    pub less_most : len - most ≤ rest
    less_most = omega arith

    pub built : (l m own total : ℕ) → (size ≡ 0 → ⊥) → l ≡ (size - most) / 2 → own + (len - most) ≡ total → total ≡ rest → own ≡ m → (size ≡ l + (m + right)) × (0 < m)
    built l m own total some e p q s = (omega arith, omega arith)

-- half of a number is at most the number
pub half_within : (n : ℕ) → n / 2 ≤ n
half_within n = omega arith

-- ---- sums that fit in 64 bits

-- the parts of a fork: its left side, its block, its right side
module _ (whole l m r : ℕ) (is : whole ≡ l + (m + r)) where
  pub two_fit : (a b : ℕ) → whole < 18446744073709551616 → a ≡ l → b ≡ m → Fits w64 (a + b)
  two_fit a b bound p q = omega arith

  pub three_fit : (a b d : ℕ) → whole < 18446744073709551616 → a ≡ l → b ≡ m → d ≡ r → Fits w64 (a + b + d)
  three_fit a b d bound p q s = omega arith

  -- the first block of the left side is no longer than the whole
  pub first_within : (size len first rest : ℕ) → size ≡ whole → len ≡ first → l ≡ first + rest → len ≤ size
  first_within size len first rest e p q = omega arith

  -- without that block, the number of the tuples is less by its length
  pub first_taken : (size len first rest size' whole' : ℕ) → size ≡ whole → len ≡ first → l ≡ first + rest → size' ≡ size - len → whole' ≡ rest + (m + r) → size' ≡ whole'
  first_taken size len first rest size' whole' e p q s u = omega arith

  pub right_bound : (part more : ℕ) → whole + more < 18446744073709551616 → part ≡ r → part + more < 18446744073709551616
  right_bound part more bound e = omega arith

  pub part_bound : (part : ℕ) → whole < 18446744073709551616 → part ≡ l → part < 18446744073709551616
  part_bound part bound e = omega arith

pub sum_fits : (a b l m : ℕ) → a ≡ l → b ≡ m → l + m < 18446744073709551616 → Fits w64 (a + b)
sum_fits a b l m p q bound = omega arith

pub prefix_fits : (a b l m n whole : ℕ) → a ≡ l → b ≤ n → n ≡ m → whole ≡ l + m → whole < 18446744073709551616 → Fits w64 (a + b)
prefix_fits a b l m n whole p within q is bound = omega arith

pub prefix_bound : (l m whole : ℕ) → whole ≡ l + m → whole + 1 < 18446744073709551616 → l + 1 < 18446744073709551616
prefix_bound l m whole is bound = omega arith

-- an empty block adds nothing
pub outer_sum : (a b d l r : ℕ) → a ≡ l → b ≡ 0 → d ≡ r → a + b + d ≡ l + r
outer_sum a b d l r p q s = omega arith

-- ---- tests for no tuples

pub none_of : (n : ℕ) (r : Bool) → r ≡ (n == 0) → r ≡ true → n ≡ 0
none_of n r is e = (Decides-eqb n 0).0 (sym is ∙ e)

pub some_of : (n : ℕ) (r : Bool) → r ≡ (n == 0) → r ≡ false → 0 < n
some_of zero r is e = absurd cc
some_of (suc n) r is e = omega arith

-- ---- the element at a place

module _ {X : Type 0} where
  pub at-first : (xs ys : List X) (n : ℕ) → n < length xs → slice_get (xs ++ ys) n ≡ slice_get xs n
  at-first (x ∷ xs) ys zero lt = refl
  at-first (x ∷ xs) ys (suc n) lt = at-first xs ys n (omega (arith, lt))
  at-first [] ys n lt = absurd (omega (arith, lt))

  pub at-rest : (xs ys : List X) (n : ℕ) → length xs ≤ n → slice_get (xs ++ ys) n ≡ slice_get ys (n - length xs)
  at-rest [] ys n le = ap (slice_get ys) (let e : n ≡ n - 0 = omega arith in e)
  at-rest (x ∷ xs) ys zero le = absurd (omega (arith, le))
  at-rest (x ∷ xs) ys (suc n) le = at-rest xs ys n (omega (arith, le)) ∙ ap (slice_get ys) (let e : n - length xs ≡ suc n - suc (length xs) = omega arith in e)
