-- The elements that a traversal visits, gathered in sequence.
use Rattle.std.proofs.Common.{◌≡◌, ℕ, ◌+◌, ◌-◌, ◌<◌, ◌≤◌, Bool, true, false, ◌&&◌, ◌||◌, List, [], ◌∷◌, ◌++◌, take, drop, get_or, length, slice_range, slice_get, Some, refl, sym, ap, ◌∙◌, arith, length-drop}
use Rattle.std.specs.List.{flat_map}
use Rattle.std.proofs.lemmas.Bool.{both_ways}
use Rattle.std.proofs.lemmas.List.{take_more, get_or-drop}
use Rattle.std.proofs.lemmas.List.Folds.{list_any-append}
use Rattle.std.proofs.lemmas.Option.{get_or_from_slice_get}
use Rattle.gms_tuple.specs.TupleOrder.{same_tuple}
use Rattle.gms_tuple.specs.TupleSet.{has}
use Rattle.gms_tuple.proofs.Ordered.{same_tuple-Decides}
use Rattle.gms_eval.proofs.Ascents.{either-and}

-- ---- ranges

pub range-none : {X : Type 0} (xs : List X) (from : ℕ) → slice_range xs from from ≡ []
range-none xs from = ap (λ n. take n (drop from xs)) (let e : from - from ≡ 0 = omega arith in e)

pub range-more : {X : Type 0} (xs : List X) (from place : ℕ) (x : X) → from ≤ place → place < length xs → slice_get xs place ≡ Some x → slice_range xs from (place + 1) ≡ slice_range xs from place ++ x ∷ []
range-more xs from place x first below at =
    let long = length-drop from xs in
    ap (λ n. take n (drop from xs)) (let e : place + 1 - from ≡ place - from + 1 = omega arith in e)
    ∙ take_more (drop from xs) (place - from) x (omega arith)
    ∙ ap (λ y. slice_range xs from place ++ y ∷ []) (get_or-drop from xs (place - from) x ∙ ap (λ n. get_or xs n x) (let e : from + (place - from) ≡ place = omega arith in e) ∙ get_or_from_slice_get xs place x x at)

pub range-end : {X : Type 0} (xs : List X) (from upto place : ℕ) → from ≤ upto → upto ≤ place → (from ≤ upto → place ≤ upto) → slice_range xs from place ≡ slice_range xs from upto
range-end xs from upto place in_order past within =
    ap (slice_range xs from) (let below = within in_order in let e : place ≡ upto = omega arith in e)

-- ---- members

module _ (old : List (List ℕ)) (x : List ℕ) (those start : List (List ℕ)) where
  or-true : (b : Bool) → true ≡ (b || true)
  or-true true = refl
  or-true false = refl

  has-last : (t : List ℕ) → has (old ++ x ∷ []) t ≡ (has old t || (same_tuple x t || false))
  has-last t = list_any-append (λ m. same_tuple m t) old (x ∷ [])

  -- an element that a condition holds for is inserted
  pub gathered-in : (found next : List (List ℕ)) → true ≡ has those x → ((t : List ℕ) → has found t ≡ (has start t || (has old t && has those t))) → ((t : List ℕ) → has next t ≡ (same_tuple x t || has found t)) → (t : List ℕ) → has next t ≡ (has start t || (has (old ++ x ∷ []) t && has those t))
  gathered-in found next one so_far put t =
      put t
      ∙ ap (λ b. same_tuple x t || b) (so_far t)
      ∙ by (same_tuple x t) refl (has start t) (has old t) (has those t) refl
      ∙ sym (ap (λ b. has start t || (b && has those t)) (has-last t))
    where
      by : (same : Bool) → same_tuple x t ≡ same → (s b c : Bool) → has those t ≡ c → (same || (s || (b && c))) ≡ (s || ((b || (same || false)) && c))
      by true e s true true there = or-true s
      by true e s false true there = or-true s
      by true e s b false there =
          absurd (both_ways (has those t) there (ap (has those) (sym ((same_tuple-Decides x t).0 e)) ∙ sym one))
      by false e s true c there = refl
      by false e s false c there = refl

  -- another is not
  pub gathered-out : (found : List (List ℕ)) → false ≡ has those x → ((t : List ℕ) → has found t ≡ (has start t || (has old t && has those t))) → (t : List ℕ) → has found t ≡ (has start t || (has (old ++ x ∷ []) t && has those t))
  gathered-out found none so_far t =
      so_far t
      ∙ by (same_tuple x t) refl (has start t) (has old t) (has those t) refl
      ∙ sym (ap (λ b. has start t || (b && has those t)) (has-last t))
    where
      by : (same : Bool) → same_tuple x t ≡ same → (s b c : Bool) → has those t ≡ c → (s || (b && c)) ≡ (s || ((b || (same || false)) && c))
      by true e s b true there =
          absurd (both_ways (has those t) (ap (has those) (sym ((same_tuple-Decides x t).0 e)) ∙ sym none) there)
      by true e s true false there = refl
      by true e s false false there = refl
      by false e s true c there = refl
      by false e s false c there = refl

-- nothing is gathered yet
pub gathered-none : (start : List (List ℕ)) (those : List (List ℕ)) (t : List ℕ) → has start t ≡ (has start t || (has [] t && has those t))
gathered-none start those t = by (has start t)
  where
    by : (b : Bool) → b ≡ (b || false)
    by true = refl
    by false = refl

flat_map-push : (f : List ℕ → List (List ℕ)) (xs : List (List ℕ)) (x t : List ℕ) → has (flat_map f (xs ++ x ∷ [])) t ≡ (has (flat_map f xs) t || has (f x) t)
flat_map-push f [] x t =
    list_any-append (λ m. same_tuple m t) (f x) [] ∙ elim (has (f x) t) as (λ b. (b || false) ≡ b) [ true ↦ refl | false ↦ refl ]
flat_map-push f (y ∷ xs) x t =
    list_any-append (λ m. same_tuple m t) (f y) (flat_map f (xs ++ x ∷ []))
    ∙ ap (λ b. has (f y) t || b) (flat_map-push f xs x t)
    ∙ or-assoc (has (f y) t) (has (flat_map f xs) t) (has (f x) t)
    ∙ sym (ap (λ b. b || has (f x) t) (list_any-append (λ m. same_tuple m t) (f y) (flat_map f xs)))
  where
    or-assoc : (a b c : Bool) → (a || (b || c)) ≡ ((a || b) || c)
    or-assoc true b c = refl
    or-assoc false b c = refl

-- the elements of one more tuple are gathered
pub gathered-more : (f : List ℕ → List (List ℕ)) (given : List (List ℕ)) (from place : ℕ) (member : List ℕ) (those found next : List (List ℕ)) → from ≤ place → place < length given → slice_get given place ≡ Some member → ((t : List ℕ) → has found t ≡ (has (flat_map f (slice_range given from place)) t && has those t)) → ((t : List ℕ) → has next t ≡ (has found t || (has (f member) t && has those t))) → (t : List ℕ) → has next t ≡ (has (flat_map f (slice_range given from (place + 1))) t && has those t)
gathered-more f given from place member those found next first below at so_far put t =
    put t
    ∙ ap (λ b. b || (has (f member) t && has those t)) (so_far t)
    ∙ either-and (has (flat_map f (slice_range given from place)) t) (has (f member) t) (has those t)
    ∙ sym (ap (λ b. b && has those t) (ap (λ ms. has (flat_map f ms) t) (range-more given from place member first below at) ∙ flat_map-push f (slice_range given from place) member t))
