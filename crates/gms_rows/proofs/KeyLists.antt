-- Keys in order, and which keys are among others.
use Rattle.std.proofs.Common.{◌≡◌, Bool, true, false, not, ◌&&◌, ◌||◌, T, cond, List, [], ◌∷◌, map, Some, None, refl, sym, ap, ◌∙◌}
use Rattle.std.specs.List.{All, find}
use Rattle.std.specs.Ordering.{eq_by_cmp, is_lt, is_eq}
use Rattle.std.specs.Cmp.{eq_by_cmp_equiv}
use Rattle.std.specs.declared.cmp.Ordering.{Ordering}
use Rattle.std.specs.declared.cmp.Ordering.TheVariants.{Less, Equal, Greater}
use Rattle.std.specs.FinMap as finite
use Rattle.std.specs.FinMap.Entries.{is_sorted, below_all}
use Rattle.std.proofs.lemmas.Bool.{both_ways}
use Rattle.std.proofs.lemmas.List.Elements.{All-nil, All-cons, All-head, All-tail}
use Rattle.lp_form.specs.declared.key.Key.{Key}
use Rattle.lp_form.specs.Keys.{key_cmp, same_key, AreOrdered}
use Rattle.lp_form.proofs.KeyOrder.{key_cmp-total, key_cmp-Equal, key_cmp-flip, same_key-Less, rest-ordered, ordered-cons, ordered-nil, before-all}
use Rattle.gms_rows.specs.InnerContracts.{is_among}

-- two keys are the same in either order
pub tied-turned : (k q : Key) → eq_by_cmp key_cmp q k ≡ same_key k q
tied-turned k q = (eq_by_cmp_equiv key_cmp-total).symm q k

-- a key before all of some keys is not among them
pub among-before : (key : Key) (keys : List Key) → All (λ k. key_cmp key k ≡ Less) keys → is_among keys key ≡ false
among-before key [] before = refl
among-before key (k ∷ keys) before =
    ap (λ b. b || is_among keys key) (same_key-Less key k (All-head (λ k. key_cmp key k ≡ Less) k keys before))
    ∙ among-before key keys (All-tail (λ k. key_cmp key k ≡ Less) k keys before)

-- ---- the keys of a finite map

T-first : (a b : Bool) → T (a && b) → T a
T-first true b h = tt
T-first false b h = h

T-second : (a b : Bool) → T (a && b) → T b
T-second true b h = h
T-second false b h = absurd h

T-less : (o : Ordering) → T (is_lt o) → o ≡ Less
T-less Less h = refl
T-less Equal h = absurd h
T-less Greater h = absurd h

module _ {X : Type 0} where
  below-all : (key : Key) (es : List (Key × X)) → T (below_all key_cmp key es) → All (λ k. key_cmp key k ≡ Less) (map (λ e. e.0) es)
  below-all key [] h = All-nil (λ k. key_cmp key k ≡ Less)
  below-all key (e ∷ es) h =
      All-cons (λ k. key_cmp key k ≡ Less) e.0 (map (λ e. e.0) es) (T-less (key_cmp key e.0) (T-first (is_lt (key_cmp key e.0)) (below_all key_cmp key es) h)) (below-all key es (T-second (is_lt (key_cmp key e.0)) (below_all key_cmp key es) h))

  entries-ordered : (es : List (Key × X)) → T (is_sorted key_cmp es) → AreOrdered (map (λ e. e.0) es)
  entries-ordered [] h = ordered-nil
  entries-ordered (e ∷ es) h =
      ordered-cons e.0 (map (λ e. e.0) es) (below-all e.0 es (T-first (below_all key_cmp e.0 es) (is_sorted key_cmp es) h)) (entries-ordered es (T-second (below_all key_cmp e.0 es) (is_sorted key_cmp es) h))

  -- the keys of a finite map are in order
  pub keys-ordered : (m : finite.FinMap key_cmp X) → AreOrdered (finite.keys m)
  keys-ordered m = entries-ordered (finite.entries m) (finite.entries_sorted m)

-- ---- the first key that fails a test

pub find-none : (fits : Key → Bool) (keys : List Key) → ((key : Key) → fits key ≡ true) → find (λ key. not (fits key)) keys ≡ None
find-none fits [] all = refl
find-none fits (k ∷ keys) all =
    ap (λ b. cond (not b) (Some k) (find (λ key. not (fits key)) keys)) (all k) ∙ find-none fits keys all

-- of keys in order it is the one before which all fit
pub find-first : (fits : Key → Bool) (key : Key) (keys : List Key) → AreOrdered keys → is_among keys key ≡ true → ((before : Key) → key_cmp before key ≡ Less → fits before ≡ true) → fits key ≡ false → find (λ key. not (fits key)) keys ≡ Some key
find-first fits key [] ordered there before stop = absurd (cc)
find-first fits key (k ∷ keys) ordered there before stop =
    by (find-first fits key keys (rest-ordered k keys ordered)) (key_cmp k key) refl
  where
    by : (is_among keys key ≡ true → ((before : Key) → key_cmp before key ≡ Less → fits before ≡ true) → fits key ≡ false → find (λ key. not (fits key)) keys ≡ Some key) → (o : Ordering) → key_cmp k key ≡ o → find (λ key. not (fits key)) (k ∷ keys) ≡ Some key
    by rest Less less =
        ap (λ b. cond (not b) (Some k) (find (λ key. not (fits key)) keys)) (before k less)
        ∙ rest (sym (ap (λ o. is_eq o || is_among keys key) (key_cmp-flip k key Less less)) ∙ there) before stop
    by rest Equal equal =
        let same = key_cmp-Equal k key equal in
        ap (λ b. cond (not b) (Some k) (find (λ key. not (fits key)) keys)) (ap fits same ∙ stop) ∙ ap Some same
    by rest Greater greater =
        absurd (both_ways (is_among (k ∷ keys) key) (among-before key (k ∷ keys) (before-all key k keys (key_cmp-flip k key Greater greater) ordered)) there)
