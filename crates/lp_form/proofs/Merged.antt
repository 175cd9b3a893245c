-- The merge of two lists has the sum of their numbers at each key.
use Rattle.std.proofs.Common.{◌≡◌, ◌≢◌, ℕ, suc, ◌≤◌, true, false, pos, cond, List, [], ◌∷◌, length, Ok, Err, refl, sym, ap, ◌∙◌, subst}
use Rattle.std.specs.declared.cmp.Ordering.TheVariants.{Less, Equal}
use Rattle.std.specs.List.{All}
use Rattle.std.proofs.lemmas.List.Elements.{All-cons, All-head, All-tail, All-nil}
use Rattle.std.proofs.lemmas.Bool.{both_ways}
use Rattle.gq_number.specs.Number.{Number, whole, ◌+ℚ◌}
use Rattle.gq_number.proofs.Ring.{zero-+ℚ}
use Rattle.gq_number.proofs.Field.{+ℚ-zero}
use Rattle.gq_field.specs.Fits.{fits, sum_fits}
use Rattle.lp_form.specs.declared.key.Key.{Key}
use Rattle.lp_form.specs.Keys.{key_cmp, same_key, AreOrdered}
use Rattle.lp_form.specs.Forms.{number_at}
use Rattle.lp_form.specs.InnerMerging.{IsBeforeFirst, Side, Outcome, values_first, Merges, done, left, right, both, gone, stopped}
use Rattle.lp_form.proofs.KeyOrder.{key_cmp-Equal, same_key-is, first-before, rest-ordered, ordered-cons, ordered-nil, before-all}
use Rattle.lp_form.proofs.Lookups.{number_at_first, number_at_before}
use Rattle.lp_form.proofs.Zeros.{sum_fits-zero, zero-sum_fits, fits-zero}

-- before all where before the first
pub before-rest : (k : Key) (ls : List Key) → IsBeforeFirst k ls → AreOrdered ls → All (λ l. key_cmp k l ≡ Less) ls
before-rest k [] before ordered = All-nil (λ l. key_cmp k l ≡ Less)
before-rest k (l ∷ ls) before ordered = before-all k l ls before ordered

-- a property of the result of a merge
unfoldable pub IfMade : {F : Type 0} → (Side F → Type 0) → Outcome F → Type 0
IfMade P (Ok made) = P made
IfMade P (Err key) = Unit {0}

unfoldable pub with_prefix : {F : Type 0} → Key → F → Side F → Side F
with_prefix k x made = record { keys = k ∷ made.keys; numbers = x ∷ made.numbers }

-- a property of a result with an entry before it, from one of the result
pub prefix : {F : Type 0} (k : Key) (x : F) (P Q : Side F → Type 0) (r : Outcome F) → ((made : Side F) → P made → Q (with_prefix k x made)) → IfMade P r → IfMade Q (values_first k x r)
unfolding IfMade with_prefix
prefix k x P Q (Ok made) step h = step made h
prefix k x P Q (Err key) step h = tt

-- an entry whose key precedes all, put before an ordered result
pub ordered_prefix : {F : Type 0} (k : Key) (x : F) (r : Outcome F) → IfMade (λ made. All (λ m. key_cmp k m ≡ Less) made.keys) r → IfMade (λ made. AreOrdered made.keys) r → IfMade (λ made. AreOrdered made.keys) (values_first k x r)
unfolding IfMade with_prefix
ordered_prefix k x (Ok made) before h = ordered-cons k made.keys before h
ordered_prefix k x (Err key) before h = tt

module _ {F : Type 0} (value : F → Number) (limit : ℕ) where
  -- the result of a merge comes after whatever comes before both lists
  pub merged-after : (low : Key) {ks : List Key} {xs : List F} {ls : List Key} {ys : List F} {r : Outcome F} → Merges value limit ks xs ls ys r → All (λ k. key_cmp low k ≡ Less) ks → All (λ l. key_cmp low l ≡ Less) ls → IfMade (λ made. All (λ m. key_cmp low m ≡ Less) made.keys) r
  unfolding IfMade with_prefix
  merged-after low done before others = All-nil (λ m. key_cmp low m ≡ Less)
  merged-after low (left {k} {x} {ks} {xs} {ls} {ys} {r} first m) before others =
      prefix k x _ _ r (λ made h. All-cons (λ m. key_cmp low m ≡ Less) k made.keys (All-head (λ k. key_cmp low k ≡ Less) k ks before) h) (merged-after low m (All-tail (λ k. key_cmp low k ≡ Less) k ks before) others)
  merged-after low (right {l} {y} {ks} {xs} {ls} {ys} {r} first m) before others =
      prefix l y _ _ r (λ made h. All-cons (λ m. key_cmp low m ≡ Less) l made.keys (All-head (λ k. key_cmp low k ≡ Less) l ls others) h) (merged-after low m before (All-tail (λ k. key_cmp low k ≡ Less) l ls others))
  merged-after low (both {k} {l} {x} {y} {z} {ks} {xs} {ls} {ys} {r} same fits sum some m) before others =
      prefix k z _ _ r (λ made h. All-cons (λ m. key_cmp low m ≡ Less) k made.keys (All-head (λ k. key_cmp low k ≡ Less) k ks before) h) (merged-after low m (All-tail (λ k. key_cmp low k ≡ Less) k ks before) (All-tail (λ k. key_cmp low k ≡ Less) l ls others))
  merged-after low (gone {k} {l} {x} {y} {ks} {xs} {ls} {ys} {r} same fits sum m) before others =
      merged-after low m (All-tail (λ k. key_cmp low k ≡ Less) k ks before) (All-tail (λ k. key_cmp low k ≡ Less) l ls others)
  merged-after low (stopped same none) before others = tt

  -- the result of a merge is in order
  pub merged-ordered : {ks : List Key} {xs : List F} {ls : List Key} {ys : List F} {r : Outcome F} → Merges value limit ks xs ls ys r → AreOrdered ks → AreOrdered ls → IfMade (λ made. AreOrdered made.keys) r
  unfolding IfMade with_prefix
  merged-ordered done ordered others = ordered-nil
  merged-ordered (left {k} {x} {ks} {xs} {ls} {ys} {r} first m) ordered others =
      ordered_prefix k x r (merged-after k m (first-before k ks ordered) (before-rest k ls first others)) (merged-ordered m (rest-ordered k ks ordered) others)
  merged-ordered (right {l} {y} {ks} {xs} {ls} {ys} {r} first m) ordered others =
      ordered_prefix l y r (merged-after l m (before-rest l ks first ordered) (first-before l ls others)) (merged-ordered m ordered (rest-ordered l ls others))
  merged-ordered (both {k} {l} {x} {y} {z} {ks} {xs} {ls} {ys} {r} same fits sum some m) ordered others =
      ordered_prefix k z r (merged-after k m (first-before k ks ordered) (subst (λ j. All (λ m. key_cmp j m ≡ Less) ls) (sym (key_cmp-Equal k l same)) (first-before l ls others))) (merged-ordered m (rest-ordered k ks ordered) (rest-ordered l ls others))
  merged-ordered (gone {k} {l} {x} {y} {ks} {xs} {ls} {ys} {r} same fits sum m) ordered others = merged-ordered m (rest-ordered k ks ordered) (rest-ordered l ls others)
  merged-ordered (stopped same none) ordered others = tt

  -- each key has its number
  pub merged-paired : {ks : List Key} {xs : List F} {ls : List Key} {ys : List F} {r : Outcome F} → Merges value limit ks xs ls ys r → IfMade (λ made. length made.numbers ≡ length made.keys) r
  unfolding IfMade with_prefix
  merged-paired done = refl
  merged-paired (left {k} {x} {ks} {xs} {ls} {ys} {r} first m) = prefix k x _ _ r (λ made h. ap suc h) (merged-paired m)
  merged-paired (right {l} {y} {ks} {xs} {ls} {ys} {r} first m) = prefix l y _ _ r (λ made h. ap suc h) (merged-paired m)
  merged-paired (both {k} {l} {x} {y} {z} {ks} {xs} {ls} {ys} {r} same fits sum some m) = prefix k z _ _ r (λ made h. ap suc h) (merged-paired m)
  merged-paired (gone same fits sum m) = merged-paired m
  merged-paired (stopped same none) = tt

  -- no number is 0
  pub merged-not_zero : {ks : List Key} {xs : List F} {ls : List Key} {ys : List F} {r : Outcome F} → Merges value limit ks xs ls ys r → All (λ x. value x ≢ whole (pos 0)) xs → All (λ y. value y ≢ whole (pos 0)) ys → IfMade (λ made. All (λ x. value x ≢ whole (pos 0)) made.numbers) r
  unfolding IfMade with_prefix
  merged-not_zero done some others = All-nil (λ x. value x ≢ whole (pos 0))
  merged-not_zero (left {k} {x} {ks} {xs} {ls} {ys} {r} first m) some others =
      prefix k x _ _ r (λ made h. All-cons (λ x. value x ≢ whole (pos 0)) x made.numbers (All-head (λ x. value x ≢ whole (pos 0)) x xs some) h) (merged-not_zero m (All-tail (λ x. value x ≢ whole (pos 0)) x xs some) others)
  merged-not_zero (right {l} {y} {ks} {xs} {ls} {ys} {r} first m) some others =
      prefix l y _ _ r (λ made h. All-cons (λ x. value x ≢ whole (pos 0)) y made.numbers (All-head (λ x. value x ≢ whole (pos 0)) y ys others) h) (merged-not_zero m some (All-tail (λ x. value x ≢ whole (pos 0)) y ys others))
  merged-not_zero (both {k} {l} {x} {y} {z} {ks} {xs} {ls} {ys} {r} same fits sum z_some m) some others =
      prefix k z _ _ r (λ made h. All-cons (λ x. value x ≢ whole (pos 0)) z made.numbers z_some h) (merged-not_zero m (All-tail (λ x. value x ≢ whole (pos 0)) x xs some) (All-tail (λ x. value x ≢ whole (pos 0)) y ys others))
  merged-not_zero (gone {k} {l} {x} {y} {ks} {xs} {ls} {ys} {r} same fits sum m) some others =
      merged-not_zero m (All-tail (λ x. value x ≢ whole (pos 0)) x xs some) (All-tail (λ x. value x ≢ whole (pos 0)) y ys others)
  merged-not_zero (stopped same none) some others = tt

module _ {F : Type 0} (value : F → Number) (limit : ℕ) (within : (x : F) → fits limit (value x) ≡ true) (some : 1 ≤ limit) where
  -- a number at a key fits
  pub number_at-fits : (ks : List Key) (xs : List F) (key : Key) → fits limit (number_at value ks xs key) ≡ true
  number_at-fits [] xs key = fits-zero limit some
  number_at-fits (k ∷ ks) [] key = fits-zero limit some
  number_at-fits (k ∷ ks) (x ∷ xs) key =
      elim (same_key k key) as (λ b. fits limit (cond b (value x) (number_at value ks xs key)) ≡ true) [
        | true ↦ within x
        | false ↦ number_at-fits ks xs key
      ]

  -- the step at a key fits
  FitsAt : List Key → List F → List Key → List F → Key → Type 0
  FitsAt ks xs ls ys key = sum_fits limit (number_at value ks xs key) (number_at value ls ys key) ≡ true

  -- what was made has the sum at a key
  SumAt : List Key → List F → List Key → List F → Side F → Key → Type 0
  SumAt ks xs ls ys made key = number_at value made.keys made.numbers key ≡ number_at value ks xs key +ℚ number_at value ls ys key

  -- where neither list has a key the step fits
  fits_at_none : (ks : List Key) (xs : List F) (ls : List Key) (ys : List F) (key : Key) → number_at value ks xs key ≡ whole (pos 0) → number_at value ls ys key ≡ whole (pos 0) → FitsAt ks xs ls ys key
  unfolding FitsAt
  fits_at_none ks xs ls ys key e f = rw (e, f) (sum_fits-zero limit (whole (pos 0)) (fits-zero limit some))

  -- a step at the first key of the left list, which the right one lacks
  module _ (k : Key) (x : F) (ks : List Key) (xs : List F) (ls : List Key) (ys : List F) (apart : All (λ l. key_cmp k l ≡ Less) ls) where
    right_none : (key : Key) → same_key k key ≡ true → number_at value ls ys key ≡ whole (pos 0)
    right_none key same = number_at_before value ls ys key (subst (λ j. All (λ l. key_cmp j l ≡ Less) ls) (same_key-is k key same) apart)

    left_fits : (key : Key) → FitsAt ks xs ls ys key → FitsAt (k ∷ ks) (x ∷ xs) ls ys key
    unfolding FitsAt
    left_fits key h =
        elim (same_key k key) as (λ b. same_key k key ≡ b → sum_fits limit (cond b (value x) (number_at value ks xs key)) (number_at value ls ys key) ≡ true) [
          | true ↦ λ same. rw (right_none key same) (sum_fits-zero limit (value x) (within x))
          | false ↦ λ _. h
        ] refl

    left_sum : (made : Side F) (key : Key) → SumAt ks xs ls ys made key → SumAt (k ∷ ks) (x ∷ xs) ls ys (with_prefix k x made) key
    unfolding SumAt with_prefix
    left_sum made key h =
        elim (same_key k key) as (λ b. same_key k key ≡ b → cond b (value x) (number_at value made.keys made.numbers key) ≡ cond b (value x) (number_at value ks xs key) +ℚ number_at value ls ys key) [
          | true ↦ λ same. rw (right_none key same) (sym (+ℚ-zero (value x)))
          | false ↦ λ _. h
        ] refl

    left_stop : (key : Key) → AreOrdered (k ∷ ks) → sum_fits limit (number_at value ks xs key) (number_at value ls ys key) ≡ false → sum_fits limit (number_at value (k ∷ ks) (x ∷ xs) key) (number_at value ls ys key) ≡ false
    unfolding FitsAt
    left_stop key ordered h =
        elim (same_key k key) as (λ b. same_key k key ≡ b → sum_fits limit (cond b (value x) (number_at value ks xs key)) (number_at value ls ys key) ≡ false) [
          | true ↦ λ same.
              let none : number_at value ks xs key ≡ whole (pos 0) = number_at_before value ks xs key (subst (λ j. All (λ l. key_cmp j l ≡ Less) ks) (same_key-is k key same) (first-before k ks ordered)) in
              let holds = fits_at_none ks xs ls ys key none (right_none key same) in
              absurd (both_ways (sum_fits limit (number_at value ks xs key) (number_at value ls ys key)) h holds)
          | false ↦ λ _. h
        ] refl

  -- the same of the right list
  module _ (ks : List Key) (xs : List F) (l : Key) (y : F) (ls : List Key) (ys : List F) (apart : All (λ k. key_cmp l k ≡ Less) ks) where
    left_none : (key : Key) → same_key l key ≡ true → number_at value ks xs key ≡ whole (pos 0)
    left_none key same = number_at_before value ks xs key (subst (λ j. All (λ k. key_cmp j k ≡ Less) ks) (same_key-is l key same) apart)

    right_fits : (key : Key) → FitsAt ks xs ls ys key → FitsAt ks xs (l ∷ ls) (y ∷ ys) key
    unfolding FitsAt
    right_fits key h =
        elim (same_key l key) as (λ b. same_key l key ≡ b → sum_fits limit (number_at value ks xs key) (cond b (value y) (number_at value ls ys key)) ≡ true) [
          | true ↦ λ same. rw (left_none key same) (zero-sum_fits limit (value y) (within y))
          | false ↦ λ _. h
        ] refl

    right_sum : (made : Side F) (key : Key) → SumAt ks xs ls ys made key → SumAt ks xs (l ∷ ls) (y ∷ ys) (with_prefix l y made) key
    unfolding SumAt with_prefix
    right_sum made key h =
        elim (same_key l key) as (λ b. same_key l key ≡ b → cond b (value y) (number_at value made.keys made.numbers key) ≡ number_at value ks xs key +ℚ cond b (value y) (number_at value ls ys key)) [
          | true ↦ λ same. rw (left_none key same) (sym (zero-+ℚ (value y)))
          | false ↦ λ _. h
        ] refl

    right_stop : (key : Key) → AreOrdered (l ∷ ls) → sum_fits limit (number_at value ks xs key) (number_at value ls ys key) ≡ false → sum_fits limit (number_at value ks xs key) (number_at value (l ∷ ls) (y ∷ ys) key) ≡ false
    unfolding FitsAt
    right_stop key ordered h =
        elim (same_key l key) as (λ b. same_key l key ≡ b → sum_fits limit (number_at value ks xs key) (cond b (value y) (number_at value ls ys key)) ≡ false) [
          | true ↦ λ same.
              let none : number_at value ls ys key ≡ whole (pos 0) = number_at_before value ls ys key (subst (λ j. All (λ k. key_cmp j k ≡ Less) ls) (same_key-is l key same) (first-before l ls ordered)) in
              let holds = fits_at_none ks xs ls ys key (left_none key same) none in
              absurd (both_ways (sum_fits limit (number_at value ks xs key) (number_at value ls ys key)) h holds)
          | false ↦ λ _. h
        ] refl

  -- the first keys of both lists are one
  module _ (k : Key) (x : F) (ks : List Key) (xs : List F) (y : F) (ls : List Key) (ys : List F) where
    both_fits : (key : Key) → sum_fits limit (value x) (value y) ≡ true → FitsAt ks xs ls ys key → FitsAt (k ∷ ks) (x ∷ xs) (k ∷ ls) (y ∷ ys) key
    unfolding FitsAt
    both_fits key here h =
        elim (same_key k key) as (λ b. sum_fits limit (cond b (value x) (number_at value ks xs key)) (cond b (value y) (number_at value ls ys key)) ≡ true) [
          | true ↦ here
          | false ↦ h
        ]

    both_sum : (z : F) (made : Side F) (key : Key) → value z ≡ value x +ℚ value y → SumAt ks xs ls ys made key → SumAt (k ∷ ks) (x ∷ xs) (k ∷ ls) (y ∷ ys) (with_prefix k z made) key
    unfolding SumAt with_prefix
    both_sum z made key here h =
        elim (same_key k key) as (λ b. cond b (value z) (number_at value made.keys made.numbers key) ≡ cond b (value x) (number_at value ks xs key) +ℚ cond b (value y) (number_at value ls ys key)) [
          | true ↦ here
          | false ↦ h
        ]

    gone_sum : (made : Side F) (key : Key) → All (λ m. key_cmp k m ≡ Less) made.keys → value x +ℚ value y ≡ whole (pos 0) → SumAt ks xs ls ys made key → SumAt (k ∷ ks) (x ∷ xs) (k ∷ ls) (y ∷ ys) made key
    unfolding SumAt
    gone_sum made key apart here h =
        elim (same_key k key) as (λ b. same_key k key ≡ b → number_at value made.keys made.numbers key ≡ cond b (value x) (number_at value ks xs key) +ℚ cond b (value y) (number_at value ls ys key)) [
          | true ↦ λ same. number_at_before value made.keys made.numbers key (subst (λ j. All (λ m. key_cmp j m ≡ Less) made.keys) (same_key-is k key same) apart) ∙ sym here
          | false ↦ λ _. h
        ] refl

    both_stop : (key : Key) → AreOrdered (k ∷ ks) → AreOrdered (k ∷ ls) → sum_fits limit (number_at value ks xs key) (number_at value ls ys key) ≡ false → sum_fits limit (number_at value (k ∷ ks) (x ∷ xs) key) (number_at value (k ∷ ls) (y ∷ ys) key) ≡ false
    unfolding FitsAt
    both_stop key ordered others h =
        elim (same_key k key) as (λ b. same_key k key ≡ b → sum_fits limit (cond b (value x) (number_at value ks xs key)) (cond b (value y) (number_at value ls ys key)) ≡ false) [
          | true ↦ λ same.
              let none = number_at_before value ks xs key (subst (λ j. All (λ l. key_cmp j l ≡ Less) ks) (same_key-is k key same) (first-before k ks ordered)) in
              let none_there = number_at_before value ls ys key (subst (λ j. All (λ l. key_cmp j l ≡ Less) ls) (same_key-is k key same) (first-before k ls others)) in
              let holds = fits_at_none ks xs ls ys key none none_there in
              absurd (both_ways (sum_fits limit (number_at value ks xs key) (number_at value ls ys key)) h holds)
          | false ↦ λ _. h
        ] refl

    -- where the first step does not fit, all before it do
    first_stop : AreOrdered (k ∷ ks) → AreOrdered (k ∷ ls) → sum_fits limit (value x) (value y) ≡ false → ((before : Key) → key_cmp before k ≡ Less → FitsAt (k ∷ ks) (x ∷ xs) (k ∷ ls) (y ∷ ys) before) × (sum_fits limit (number_at value (k ∷ ks) (x ∷ xs) k) (number_at value (k ∷ ls) (y ∷ ys) k) ≡ false)
    first_stop ordered others none = (
      λ before less. fits_at_none (k ∷ ks) (x ∷ xs) (k ∷ ls) (y ∷ ys) before (number_at_before value (k ∷ ks) (x ∷ xs) before (before-all before k ks less ordered)) (number_at_before value (k ∷ ls) (y ∷ ys) before (before-all before k ls less others)),
      rw (number_at_first value k x ks xs, number_at_first value k y ls ys) none,
    )

  -- what a merge computes: the sum at each key, each of which fits; or the first key whose step
  -- does not fit
  unfoldable pub Tells : List Key → List F → List Key → List F → Outcome F → Type 0
  Tells ks xs ls ys (Ok made) =
      (key : Key) → (number_at value made.keys made.numbers key ≡ number_at value ks xs key +ℚ number_at value ls ys key) × (sum_fits limit (number_at value ks xs key) (number_at value ls ys key) ≡ true)
  Tells ks xs ls ys (Err key) =
      ((before : Key) → key_cmp before key ≡ Less → sum_fits limit (number_at value ks xs before) (number_at value ls ys before) ≡ true) × (sum_fits limit (number_at value ks xs key) (number_at value ls ys key) ≡ false)

  told_left : (k : Key) (x : F) (ks : List Key) (xs : List F) (ls : List Key) (ys : List F) (r : Outcome F) → All (λ l. key_cmp k l ≡ Less) ls → AreOrdered (k ∷ ks) → Tells ks xs ls ys r → Tells (k ∷ ks) (x ∷ xs) ls ys (values_first k x r)
  unfolding Tells SumAt FitsAt with_prefix
  told_left k x ks xs ls ys (Ok made) apart ordered h = λ key. (left_sum k x ks xs ls ys apart made key (h key).0, left_fits k x ks xs ls ys apart key (h key).1)
  told_left k x ks xs ls ys (Err key) apart ordered h = (λ before less. left_fits k x ks xs ls ys apart before (h.0 before less), left_stop k x ks xs ls ys apart key ordered h.1)

  told_right : (ks : List Key) (xs : List F) (l : Key) (y : F) (ls : List Key) (ys : List F) (r : Outcome F) → All (λ k. key_cmp l k ≡ Less) ks → AreOrdered (l ∷ ls) → Tells ks xs ls ys r → Tells ks xs (l ∷ ls) (y ∷ ys) (values_first l y r)
  unfolding Tells SumAt FitsAt with_prefix
  told_right ks xs l y ls ys (Ok made) apart ordered h = λ key. (right_sum ks xs l y ls ys apart made key (h key).0, right_fits ks xs l y ls ys apart key (h key).1)
  told_right ks xs l y ls ys (Err key) apart ordered h = (λ before less. right_fits ks xs l y ls ys apart before (h.0 before less), right_stop ks xs l y ls ys apart key ordered h.1)

  told_both : (k : Key) (x y z : F) (ks : List Key) (xs : List F) (ls : List Key) (ys : List F) (r : Outcome F) → sum_fits limit (value x) (value y) ≡ true → value z ≡ value x +ℚ value y → AreOrdered (k ∷ ks) → AreOrdered (k ∷ ls) → Tells ks xs ls ys r → Tells (k ∷ ks) (x ∷ xs) (k ∷ ls) (y ∷ ys) (values_first k z r)
  unfolding Tells SumAt FitsAt with_prefix
  told_both k x y z ks xs ls ys (Ok made) fits sum ordered others h = λ key. (both_sum k x ks xs y ls ys z made key sum (h key).0, both_fits k x ks xs y ls ys key fits (h key).1)
  told_both k x y z ks xs ls ys (Err key) fits sum ordered others h = (λ before less. both_fits k x ks xs y ls ys before fits (h.0 before less), both_stop k x ks xs y ls ys key ordered others h.1)

  told_gone : (k : Key) (x y : F) (ks : List Key) (xs : List F) (ls : List Key) (ys : List F) (r : Outcome F) → IfMade (λ made. All (λ m. key_cmp k m ≡ Less) made.keys) r → sum_fits limit (value x) (value y) ≡ true → value x +ℚ value y ≡ whole (pos 0) → AreOrdered (k ∷ ks) → AreOrdered (k ∷ ls) → Tells ks xs ls ys r → Tells (k ∷ ks) (x ∷ xs) (k ∷ ls) (y ∷ ys) r
  unfolding Tells SumAt FitsAt IfMade
  told_gone k x y ks xs ls ys (Ok made) apart fits sum ordered others h = λ key. (gone_sum k x ks xs y ls ys made key apart sum (h key).0, both_fits k x ks xs y ls ys key fits (h key).1)
  told_gone k x y ks xs ls ys (Err key) apart fits sum ordered others h = (λ before less. both_fits k x ks xs y ls ys before fits (h.0 before less), both_stop k x ks xs y ls ys key ordered others h.1)

  -- keys of one place are one key
  at_one_key : (k l : Key) (x : F) (ks : List Key) (xs : List F) (y : F) (ls : List Key) (ys : List F) (r : Outcome F) → key_cmp k l ≡ Equal → AreOrdered (l ∷ ls) → (AreOrdered (k ∷ ls) → Tells (k ∷ ks) (x ∷ xs) (k ∷ ls) (y ∷ ys) r) → Tells (k ∷ ks) (x ∷ xs) (l ∷ ls) (y ∷ ys) r
  at_one_key k l x ks xs y ls ys r same others h =
      subst (λ j. Tells (k ∷ ks) (x ∷ xs) (j ∷ ls) (y ∷ ys) r) (key_cmp-Equal k l same) (h (subst (λ j. AreOrdered (j ∷ ls)) (sym (key_cmp-Equal k l same)) others))

  pub merged-tells : {ks : List Key} {xs : List F} {ls : List Key} {ys : List F} {r : Outcome F} → Merges value limit ks xs ls ys r → AreOrdered ks → AreOrdered ls → Tells ks xs ls ys r
  unfolding Tells FitsAt
  merged-tells done ordered others = λ key. (sym (+ℚ-zero (whole (pos 0))), fits_at_none [] [] [] [] key refl refl)
  merged-tells (left {k} {x} {ks} {xs} {ls} {ys} {r} first m) ordered others =
      told_left k x ks xs ls ys r (before-rest k ls first others) ordered (merged-tells m (rest-ordered k ks ordered) others)
  merged-tells (right {l} {y} {ks} {xs} {ls} {ys} {r} first m) ordered others =
      told_right ks xs l y ls ys r (before-rest l ks first ordered) others (merged-tells m ordered (rest-ordered l ls others))
  merged-tells (both {k} {l} {x} {y} {z} {ks} {xs} {ls} {ys} {r} same fits sum z_some m) ordered others =
      at_one_key k l x ks xs y ls ys (values_first k z r) same others (λ others'. told_both k x y z ks xs ls ys r fits sum ordered others' (merged-tells m (rest-ordered k ks ordered) (rest-ordered l ls others)))
  merged-tells (gone {k} {l} {x} {y} {ks} {xs} {ls} {ys} {r} same fits sum m) ordered others =
      at_one_key k l x ks xs y ls ys r same others (λ others'. told_gone k x y ks xs ls ys r (merged-after value limit k m (first-before k ks ordered) (first-before k ls others')) fits sum ordered others' (merged-tells m (rest-ordered k ks ordered) (rest-ordered l ls others)))
  merged-tells (stopped {k} {l} {x} {y} {ks} {xs} {ls} {ys} same none) ordered others =
      at_one_key k l x ks xs y ls ys (Err k) same others (λ others'. first_stop k x ks xs y ls ys ordered others' none)
