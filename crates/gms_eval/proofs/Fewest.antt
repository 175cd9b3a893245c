-- How many elements a traversal finds.
use Rattle.std.proofs.Common.{◌≡◌, ℕ, suc, ◌-◌, ◌*◌, ◌<◌, ◌≤◌, Bool, true, false, not, ◌&&◌, ◌||◌, cond, List, [], ◌∷◌, ◌++◌, drop, length, slice_range, refl, sym, ap, ◌∙◌, length-append, suc-mul, zero-mul, mul_comm, arith}
use Rattle.std.specs.List.{flat_map}
use Rattle.std.specs.Ordering.{is_lt}
use Rattle.std.specs.declared.cmp.Ordering.TheVariants.{Less, Equal}
use Rattle.std.proofs.lemmas.Bool.{both_ways}
use Rattle.std.proofs.lemmas.Cmp.{tied_itself}
use Rattle.std.proofs.lemmas.List.{length-map, length-take}
use Rattle.gms_tuple.specs.TupleOrder.{tuple_cmp, same_tuple, IsOrdered}
use Rattle.gms_tuple.specs.OrderLaws.{tuple_cmp-total}
use Rattle.gms_tuple.specs.TupleSet.{has, removed}
use Rattle.gms_tuple.proofs.Ordered.{same_tuple-Decides, same_tuple_refl, first-before, rest-ordered}
use Rattle.gms_tuple.proofs.Members.{after-first, has-removed}
use Rattle.gms_store.specs.State.{State, given_of}
use Rattle.gms_eval.specs.Domain.{elements}
use Rattle.gms_eval.specs.InnerLeading.{steps_of, spread_over, picked, traversed}
use Rattle.gms_eval.specs.declared.traversals.Traversal.{Traversal}
use Rattle.gms_eval.proofs.Reaching.{mul-le}

-- ---- ordered lists within lists

-- a list without a tuple is no longer
removed-few : (ys : List (List ℕ)) (x : List ℕ) → length (removed ys x) ≤ length ys
removed-few [] x = omega arith
removed-few (y ∷ ys) x = by (same_tuple y x) (removed-few ys x)
  where
    by : (b : Bool) → length (removed ys x) ≤ length ys → length (cond (not b) (y ∷ removed ys x) (removed ys x)) ≤ suc (length ys)
    by true few = omega (arith, few)
    by false few = omega (arith, few)

-- a list without one of its tuples is shorter
removed-shorter : (ys : List (List ℕ)) (x : List ℕ) → has ys x ≡ true → length (removed ys x) < length ys
removed-shorter [] x there = absurd cc
removed-shorter (y ∷ ys) x there = by (removed-shorter ys x) (removed-few ys x) (same_tuple y x) there
  where
    by : (has ys x ≡ true → length (removed ys x) < length ys) → length (removed ys x) ≤ length ys → (b : Bool) → (b || has ys x) ≡ true → length (cond (not b) (y ∷ removed ys x) (removed ys x)) < suc (length ys)
    by rest few true e = omega (arith, few)
    by rest few false e = omega (arith, rest e)

-- the others of an ordered list are not its first
other-first : (x : List ℕ) (xs : List (List ℕ)) (t : List ℕ) → IsOrdered (x ∷ xs) → has xs t ≡ true → same_tuple x t ≡ false
other-first x xs t ordered there = by (same_tuple x t) refl
  where
    less : tuple_cmp x t ≡ Less
    less = after-first x xs t (first-before x xs ordered) there

    by : (b : Bool) → same_tuple x t ≡ b → b ≡ false
    by true same =
        let is : x ≡ t = (same_tuple-Decides x t).0 same in
        let equal : tuple_cmp x t ≡ Equal = ap (tuple_cmp x) (sym is) ∙ tied_itself tuple_cmp-total x in
        absurd (both_ways (is_lt (tuple_cmp x t)) (ap is_lt equal) (ap is_lt less))
    by false other = refl

-- an ordered list whose tuples are all in another list is no longer than it
pub ordered-most : (xs ys : List (List ℕ)) → IsOrdered xs → ((t : List ℕ) → has xs t ≡ true → has ys t ≡ true) → length xs ≤ length ys
ordered-most [] ys ordered within = omega arith
ordered-most (x ∷ xs) ys ordered within =
    let here : has ys x ≡ true = within x (ap (λ b. b || has xs x) (same_tuple_refl x)) in
    let rest : length xs ≤ length (removed ys x) = ordered-most xs (removed ys x) (rest-ordered x xs ordered) (λ t there. others t there) in
    omega (arith, rest, removed-shorter ys x here)
  where
    or-true : (b : Bool) → (b || true) ≡ true
    or-true true = refl
    or-true false = refl

    others : (t : List ℕ) → has xs t ≡ true → has (removed ys x) t ≡ true
    others t there =
        has-removed ys x t
        ∙ ap (λ b. b && not (same_tuple x t)) (within t (ap (λ b. same_tuple x t || b) there ∙ or-true (same_tuple x t)))
        ∙ ap not (other-first x xs t ordered there)

-- ---- traversals

each-length : (m : ℕ) (f : List ℕ → List (List ℕ)) (xs : List (List ℕ)) → ((x : List ℕ) → length (f x) ≡ m) → length (flat_map f xs) ≡ length xs * m
each-length m f [] same = omega (arith, zero-mul m)
each-length m f (x ∷ xs) same =
    omega (arith, each-length m f xs same, same x, length-append (f x) (flat_map f xs), suc-mul (length xs) m)

mul-less : (a b m : ℕ) → a ≤ b → a * m ≤ b * m
mul-less a b m le = rw (mul_comm a m, mul_comm b m) (mul-le m a b le)

-- a traversal visits no more elements than its steps
pub traversed-most : (state : State) (traversal : Traversal) → traversal.spread ≡ length (elements state traversal.free.items) → length (traversed state traversal) ≤ steps_of traversal
traversed-most state traversal counted =
    let given : List (List ℕ) = slice_range (given_of state traversal.name) traversal.from traversal.upto in
    let spread : ℕ = length (elements state traversal.free.items) in
    let all : length (traversed state traversal) ≡ length given * spread = each-length spread (spread_over state traversal.free.items traversal.places.items) given (λ tuple. length-map (elements state traversal.free.items) (λ rest. picked traversal.places.items (tuple ++ rest))) in
    let few : length given ≤ traversal.upto - traversal.from = omega (arith, length-take (traversal.upto - traversal.from) (drop traversal.from (given_of state traversal.name))) in
    let most : length given * spread ≤ (traversal.upto - traversal.from) * spread = mul-less (length given) (traversal.upto - traversal.from) spread few in
    let same : steps_of traversal ≡ (traversal.upto - traversal.from) * spread = ap (λ n. (traversal.upto - traversal.from) * n) counted in
    omega (arith, all, most, same)

-- the elements that are found are no more than the steps
pub found-most : (state : State) (sets : List ℕ) (traversal : Traversal) (found list : List (List ℕ)) → traversal.spread ≡ length (elements state traversal.free.items) → list ≡ found → IsOrdered found → ((t : List ℕ) → has found t ≡ (has (traversed state traversal) t && has (elements state sets) t)) → length list ≤ steps_of traversal
found-most state sets traversal found list counted is ordered members =
    let most : length found ≤ length (traversed state traversal) = ordered-most found (traversed state traversal) ordered (λ t there. first (has (traversed state traversal) t) (has (elements state sets) t) (sym (members t) ∙ there)) in
    omega (arith, ap length is, most, traversed-most state traversal counted)
  where
    first : (a b : Bool) → (a && b) ≡ true → a ≡ true
    first true b e = refl
    first false b e = absurd cc
