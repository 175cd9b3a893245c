-- The laws of finite sums and of inner products.
use Rattle.std.proofs.Common.{Bool, true, false, cond, inl, inr, length-set, ◌≡◌, ℕ, zero, suc, ◌+◌, ◌<◌, pos, List, [], ◌∷◌, ◌++◌, length, get_or, take, drop, set, map, refl, sym, ap, ap₂, ◌∙◌, subst, arith}
use Rattle.std.specs.List.{All, AllZip, AllByRecursion, zip, filter, flat_map, swap}
use Rattle.std.specs.List.Sorted.{IsPermutation, SwapsInRange, apply_swaps}
use Rattle.std.proofs.lemmas.Bool.{cases_eq}
use Rattle.std.proofs.lemmas.Grind.{get_or-set_at}
use Rattle.std.proofs.lemmas.List.{get_or-set_other}
use Rattle.std.proofs.lemmas.List.Edits.{length-swap}
use Rattle.std.proofs.lemmas.List.{take_more, take-append-drop}
use Rattle.std.proofs.lemmas.List.Elements.{recursion_from_All, All-from_recursion}
use Rattle.gq_number.specs.Number.{Number, whole, ◌+ℚ◌, ◌-ℚ◌, ◌*ℚ◌, neg_ℚ}
use Rattle.gq_number.specs.Order.{◌≤ℚ◌}
use Rattle.gq_number.specs.Sums.{sum_by_ℚ, inner_ℚ, scaled, added, combined, applied}
use Rattle.gq_number.proofs.Field.{+ℚ_comm, +ℚ_assoc, *ℚ-+ℚ}
use Rattle.gq_number.proofs.Ring.{ring_ℚ, +ℚ_cancel_left, zero-+ℚ, *ℚ-zero, zero-*ℚ, neg-zero, neg-+ℚ, -ℚ-zero, +ℚ-*ℚ}
use Rattle.gq_number.proofs.Linear.{≤ℚ_from, both, times}
use Rattle.gq_number.proofs.Order
use Rattle.gq_number.proofs.Signs

-- ---- sums

pub sum_by_ℚ-nil : {X : Type 0} (f : X → Number) → sum_by_ℚ f [] ≡ whole (pos 0)
unfolding sum_by_ℚ
sum_by_ℚ-nil f = refl

pub sum_by_ℚ-cons : {X : Type 0} (f : X → Number) (x : X) (xs : List X) → sum_by_ℚ f (x ∷ xs) ≡ f x +ℚ sum_by_ℚ f xs
unfolding sum_by_ℚ
sum_by_ℚ-cons f x xs = refl

ruleset written = (sum_by_ℚ-nil, sum_by_ℚ-cons)

pub sum_by_ℚ-append : {X : Type 0} (f : X → Number) (xs ys : List X) → sum_by_ℚ f (xs ++ ys) ≡ sum_by_ℚ f xs +ℚ sum_by_ℚ f ys
sum_by_ℚ-append f [] ys = simp (written, ring_ℚ)
sum_by_ℚ-append f (x ∷ xs) ys = simp (written, sum_by_ℚ-append f xs ys, ring_ℚ)

pub sum_by_ℚ_push : {X : Type 0} (f : X → Number) (xs : List X) (y : X) → sum_by_ℚ f (xs ++ y ∷ []) ≡ sum_by_ℚ f xs +ℚ f y
sum_by_ℚ_push f xs y = simp (sum_by_ℚ-append, written, ring_ℚ)

-- one element taken out of the middle
pub sum_by_ℚ_between : {X : Type 0} (f : X → Number) (xs : List X) (x : X) (ys : List X) → sum_by_ℚ f (xs ++ x ∷ ys) ≡ f x +ℚ sum_by_ℚ f (xs ++ ys)
sum_by_ℚ_between f xs x ys = simp (sum_by_ℚ-append, written, ring_ℚ)

-- the sum of two functions, of a function times a number, and of a negated function
sum_apart : (a b c d : Number) → a +ℚ b +ℚ (c +ℚ d) ≡ a +ℚ c +ℚ (b +ℚ d)
sum_apart a b c d = simp ring_ℚ

difference_apart : (a b c d : Number) → a -ℚ b +ℚ (c -ℚ d) ≡ a +ℚ c -ℚ (b +ℚ d)
difference_apart a b c d = simp ring_ℚ

pub sum_by_ℚ-+ℚ : {X : Type 0} (f g : X → Number) (xs : List X) → sum_by_ℚ (λ x. f x +ℚ g x) xs ≡ sum_by_ℚ f xs +ℚ sum_by_ℚ g xs
sum_by_ℚ-+ℚ f g [] = simp (written, zero-+ℚ)
sum_by_ℚ-+ℚ f g (x ∷ xs) = simp (written, sum_by_ℚ-+ℚ f g xs, sum_apart)

pub sum_by_ℚ--ℚ : {X : Type 0} (f g : X → Number) (xs : List X) → sum_by_ℚ (λ x. f x -ℚ g x) xs ≡ sum_by_ℚ f xs -ℚ sum_by_ℚ g xs
sum_by_ℚ--ℚ f g [] = simp (written, -ℚ-zero)
sum_by_ℚ--ℚ f g (x ∷ xs) = simp (written, sum_by_ℚ--ℚ f g xs, difference_apart)

pub sum_by_ℚ-neg : {X : Type 0} (f : X → Number) (xs : List X) → sum_by_ℚ (λ x. neg_ℚ (f x)) xs ≡ neg_ℚ (sum_by_ℚ f xs)
sum_by_ℚ-neg f [] = simp (written, neg-zero)
sum_by_ℚ-neg f (x ∷ xs) = simp (written, sum_by_ℚ-neg f xs, neg-+ℚ)

pub sum_by_ℚ-*ℚ : {X : Type 0} (k : Number) (f : X → Number) (xs : List X) → sum_by_ℚ (λ x. k *ℚ f x) xs ≡ k *ℚ sum_by_ℚ f xs
sum_by_ℚ-*ℚ k f [] = simp (written, *ℚ-zero)
sum_by_ℚ-*ℚ k f (x ∷ xs) = simp (written, sum_by_ℚ-*ℚ k f xs, *ℚ-+ℚ)

pub sum_by_ℚ-*ℚ_right : {X : Type 0} (k : Number) (f : X → Number) (xs : List X) → sum_by_ℚ (λ x. f x *ℚ k) xs ≡ sum_by_ℚ f xs *ℚ k
sum_by_ℚ-*ℚ_right k f [] = simp (written, zero-*ℚ)
sum_by_ℚ-*ℚ_right k f (x ∷ xs) = simp (written, sum_by_ℚ-*ℚ_right k f xs, +ℚ-*ℚ)

pub sum_by_ℚ-zero : {X : Type 0} (xs : List X) → sum_by_ℚ (λ x. whole (pos 0)) xs ≡ whole (pos 0)
sum_by_ℚ-zero [] = sum_by_ℚ-nil _
sum_by_ℚ-zero (x ∷ xs) = simp (written, sum_by_ℚ-zero xs, ring_ℚ)

pub sum_by_ℚ-map : {X Y : Type 0} (f : Y → Number) (g : X → Y) (xs : List X) → sum_by_ℚ f (map g xs) ≡ sum_by_ℚ (λ x. f (g x)) xs
sum_by_ℚ-map f g [] = simp written
sum_by_ℚ-map f g (x ∷ xs) = simp (written, sum_by_ℚ-map f g xs)

-- a double sum, in the other order
pub sum_by_ℚ_exchanged : {X Y : Type 0} (f : X → Y → Number) (xs : List X) (ys : List Y) → sum_by_ℚ (λ x. sum_by_ℚ (λ y. f x y) ys) xs ≡ sum_by_ℚ (λ y. sum_by_ℚ (λ x. f x y) xs) ys
sum_by_ℚ_exchanged f [] ys = simp (written, sum_by_ℚ-zero)
sum_by_ℚ_exchanged f (x ∷ xs) ys = simp (written, sum_by_ℚ_exchanged f xs ys, sum_by_ℚ-+ℚ)

-- ---- parts of a list

-- one more element
pub sum_by_ℚ_more : {X : Type 0} (f : X → Number) (xs : List X) (i : ℕ) (d : X) → i < length xs → sum_by_ℚ f (take (i + 1) xs) ≡ sum_by_ℚ f (take i xs) +ℚ f (get_or xs i d)
sum_by_ℚ_more f xs i d h = ap (sum_by_ℚ f) (take_more xs i d h) ∙ sum_by_ℚ_push f (take i xs) (get_or xs i d)

pub sum_by_ℚ-take-drop : {X : Type 0} (f : X → Number) (xs : List X) (i : ℕ) → sum_by_ℚ f (take i xs) +ℚ sum_by_ℚ f (drop i xs) ≡ sum_by_ℚ f xs
sum_by_ℚ-take-drop f xs i = sym (sum_by_ℚ-append f (take i xs) (drop i xs)) ∙ ap (sum_by_ℚ f) (take-append-drop i xs)

swapped : (a b c : Number) → a +ℚ b +ℚ c ≡ c +ℚ b +ℚ a
swapped a b c = simp ring_ℚ

-- one element changed
pub sum_by_ℚ-set : {X : Type 0} (f : X → Number) (xs : List X) (i : ℕ) (y d : X) → i < length xs → sum_by_ℚ f (set xs i y) +ℚ f (get_or xs i d) ≡ sum_by_ℚ f xs +ℚ f y
sum_by_ℚ-set f [] i y d h = absurd (omega arith)
sum_by_ℚ-set f (x ∷ xs) zero y d h =
    ap (λ w. w +ℚ f x) (sum_by_ℚ-cons f y xs) ∙ swapped (f y) (sum_by_ℚ f xs) (f x) ∙ ap (λ w. w +ℚ f y) (sym (sum_by_ℚ-cons f x xs))
sum_by_ℚ-set f (x ∷ xs) (suc i) y d h =
    ap (λ w. w +ℚ f (get_or xs i d)) (sum_by_ℚ-cons f x (set xs i y)) ∙ +ℚ_assoc (f x) _ _ ∙ ap (λ w. f x +ℚ w) (sum_by_ℚ-set f xs i y d (omega arith)) ∙ sym (+ℚ_assoc (f x) (sum_by_ℚ f xs) (f y)) ∙ ap (λ w. w +ℚ f y) (sym (sum_by_ℚ-cons f x xs))

-- lists joined into one
pub sum_by_ℚ-flat_map : {X Y : Type 0} (f : Y → Number) (g : X → List Y) (xs : List X) → sum_by_ℚ f (flat_map g xs) ≡ sum_by_ℚ (λ x. sum_by_ℚ f (g x)) xs
sum_by_ℚ-flat_map f g [] = simp written
sum_by_ℚ-flat_map f g (x ∷ xs) = simp (written, sum_by_ℚ-append, sum_by_ℚ-flat_map f g xs)

kept : {X : Type 0} (f : X → Number) (x : X) (xs ys : List X) (b : Bool) → (b ≡ false → f x ≡ whole (pos 0)) → sum_by_ℚ f ys ≡ sum_by_ℚ f xs → sum_by_ℚ f (cond b (x ∷ ys) ys) ≡ sum_by_ℚ f (x ∷ xs)
kept f x xs ys true none e = simp (written, e)
kept f x xs ys false none e = e ∙ sym (sum_by_ℚ-cons f x xs ∙ ap (λ w. w +ℚ sum_by_ℚ f xs) (none refl) ∙ zero-+ℚ (sum_by_ℚ f xs))

-- what is left out counts 0
pub sum_by_ℚ-filter : {X : Type 0} (f : X → Number) (p : X → Bool) (xs : List X) → ((x : X) → p x ≡ false → f x ≡ whole (pos 0)) → sum_by_ℚ f (filter p xs) ≡ sum_by_ℚ f xs
sum_by_ℚ-filter f p [] none = refl
sum_by_ℚ-filter f p (x ∷ xs) none = kept f x xs (filter p xs) (p x) (none x) (sum_by_ℚ-filter f p xs none)

read_back : {X : Type 0} (xs : List X) (i j : ℕ) (d : X) → i < length xs → get_or (set xs i (get_or xs j d)) j d ≡ get_or xs j d
read_back xs i j d h =
    elim (cases_eq j i) [ inl e ↦ get_or-set_at xs i j (get_or xs j d) d e h | inr other ↦ get_or-set_other xs i j (get_or xs j d) d other ]

swapped_terms : (a b s t u : Number) → t +ℚ a ≡ s +ℚ b → u +ℚ b ≡ t +ℚ a → u ≡ s
swapped_terms a b s t u e h = +ℚ_cancel_left b u s (+ℚ_comm b u ∙ h ∙ e ∙ +ℚ_comm s b)

exchanged : {X : Type 0} (f : X → Number) (xs : List X) (i j : ℕ) (d : X) → i < length xs → j < length xs → sum_by_ℚ f (set (set xs i (get_or xs j d)) j (get_or xs i d)) ≡ sum_by_ℚ f xs
exchanged f xs i j d h k =
    let first = sum_by_ℚ-set f xs i (get_or xs j d) d h in
    let second = sum_by_ℚ-set f (set xs i (get_or xs j d)) j (get_or xs i d) d (omega (arith, k, length-set xs i (get_or xs j d))) in
    swapped_terms (f (get_or xs i d)) (f (get_or xs j d)) _ _ _ first (subst (λ y. sum_by_ℚ f (set (set xs i (get_or xs j d)) j (get_or xs i d)) +ℚ f y ≡ sum_by_ℚ f (set xs i (get_or xs j d)) +ℚ f (get_or xs i d)) (read_back xs i j d h) second)

pub sum_by_ℚ-swap : {X : Type 0} (f : X → Number) (xs : List X) (i j : ℕ) → i < length xs → j < length xs → sum_by_ℚ f (swap xs i j) ≡ sum_by_ℚ f xs
sum_by_ℚ-swap f [] i j h k = refl
sum_by_ℚ-swap f (x ∷ xs) i j h k = exchanged f (x ∷ xs) i j x h k

length-moved : {X : Type 0} (xs : List X) (ps : List (ℕ × ℕ)) → length (apply_swaps xs ps) ≡ length xs
length-moved xs [] = refl
length-moved xs (p ∷ ps) = length-swap (apply_swaps xs ps) p.0 p.1 ∙ length-moved xs ps

moved : {X : Type 0} (f : X → Number) (xs : List X) (ps : List (ℕ × ℕ)) → SwapsInRange (length xs) ps → sum_by_ℚ f (apply_swaps xs ps) ≡ sum_by_ℚ f xs
moved f xs [] h = refl
moved f xs (p ∷ ps) h =
    let l = length-moved xs ps in
    sum_by_ℚ-swap f (apply_swaps xs ps) p.0 p.1 (omega (arith, l, h.0)) (omega (arith, l, h.1)) ∙ moved f xs ps h.2

-- in any order
pub sum_by_ℚ-IsPermutation : {X : Type 0} (f : X → Number) (xs ys : List X) → IsPermutation xs ys → sum_by_ℚ f ys ≡ sum_by_ℚ f xs
sum_by_ℚ-IsPermutation f xs ys p = ap (sum_by_ℚ f) p.is ∙ moved f xs p.moves p.below

-- ---- sums of terms that are ordered

same_terms : {X : Type 0} (f g : X → Number) (xs : List X) → AllByRecursion (λ x. f x ≡ g x) xs → sum_by_ℚ f xs ≡ sum_by_ℚ g xs
unfolding sum_by_ℚ
same_terms f g [] h = refl
same_terms f g (x ∷ xs) h = ap₂ (λ a b. a +ℚ b) h.0 (same_terms f g xs h.1)

pub sum_by_ℚ_same : {X : Type 0} (f g : X → Number) (xs : List X) → All (λ x. f x ≡ g x) xs → sum_by_ℚ f xs ≡ sum_by_ℚ g xs
sum_by_ℚ_same f g xs h = same_terms f g xs (recursion_from_All (λ x. f x ≡ g x) xs h)

ordered_terms : {X : Type 0} (f g : X → Number) (xs : List X) → AllByRecursion (λ x. f x ≤ℚ g x) xs → sum_by_ℚ f xs ≤ℚ sum_by_ℚ g xs
unfolding sum_by_ℚ
ordered_terms f g [] h = Order.≤ℚ_refl (whole (pos 0))
ordered_terms f g (x ∷ xs) h = both h.0 (ordered_terms f g xs h.1)

pub sum_by_ℚ-≤ℚ : {X : Type 0} (f g : X → Number) (xs : List X) → All (λ x. f x ≤ℚ g x) xs → sum_by_ℚ f xs ≤ℚ sum_by_ℚ g xs
sum_by_ℚ-≤ℚ f g xs h = ordered_terms f g xs (recursion_from_All (λ x. f x ≤ℚ g x) xs h)

above_terms : {X : Type 0} (f : X → Number) (xs : List X) → AllByRecursion (λ x. whole (pos 0) ≤ℚ f x) xs → whole (pos 0) ≤ℚ sum_by_ℚ f xs
unfolding sum_by_ℚ
above_terms f [] h = Order.≤ℚ_refl (whole (pos 0))
above_terms f (x ∷ xs) h = ≤ℚ_from (both h.0 (above_terms f xs h.1)) (simp ring_ℚ)

pub zero-≤ℚ-sum_by_ℚ : {X : Type 0} (f : X → Number) (xs : List X) → All (λ x. whole (pos 0) ≤ℚ f x) xs → whole (pos 0) ≤ℚ sum_by_ℚ f xs
zero-≤ℚ-sum_by_ℚ f xs h = above_terms f xs (recursion_from_All (λ x. whole (pos 0) ≤ℚ f x) xs h)

-- of two numbers at least 0 whose sum is 0, both are
pub both_zero : (x y : Number) → whole (pos 0) ≤ℚ x → whole (pos 0) ≤ℚ y → x +ℚ y ≡ whole (pos 0) → (x ≡ whole (pos 0)) × (y ≡ whole (pos 0))
both_zero x y h k e =
    (Order.≤ℚ_antisymm x _ (≤ℚ_from k (simp (e, ring_ℚ))) h, Order.≤ℚ_antisymm y _ (≤ℚ_from h (simp (e, ring_ℚ))) k)

zero_terms : {X : Type 0} (f : X → Number) (xs : List X) → AllByRecursion (λ x. whole (pos 0) ≤ℚ f x) xs → sum_by_ℚ f xs ≡ whole (pos 0) → AllByRecursion (λ x. f x ≡ whole (pos 0)) xs
unfolding sum_by_ℚ
zero_terms f [] h e = tt
zero_terms f (x ∷ xs) h e =
    let z = both_zero (f x) (sum_by_ℚ f xs) h.0 (above_terms f xs h.1) e in
    (z.0, zero_terms f xs h.1 z.1)

pub sum_by_ℚ_zero_only : {X : Type 0} (f : X → Number) (xs : List X) → All (λ x. whole (pos 0) ≤ℚ f x) xs → sum_by_ℚ f xs ≡ whole (pos 0) → All (λ x. f x ≡ whole (pos 0)) xs
sum_by_ℚ_zero_only f xs h e =
    All-from_recursion (λ x. f x ≡ whole (pos 0)) xs (zero_terms f xs (recursion_from_All (λ x. whole (pos 0) ≤ℚ f x) xs h) e)

-- `simp (sums_ℚ, ring_ℚ)` takes a sum apart: over a list that is written out, over an append, and
-- by its terms
pub ruleset sums_ℚ = (sum_by_ℚ-nil, sum_by_ℚ-cons, sum_by_ℚ-append, sum_by_ℚ-zero, sum_by_ℚ-+ℚ, sum_by_ℚ--ℚ, sum_by_ℚ-neg, sum_by_ℚ-*ℚ, sum_by_ℚ-*ℚ_right, sum_by_ℚ-map, sum_by_ℚ-flat_map)

-- ---- inner products

pub inner_ℚ-nil : (ys : List Number) → inner_ℚ [] ys ≡ whole (pos 0)
unfolding inner_ℚ
inner_ℚ-nil ys = refl

pub inner_ℚ-nil_right : (xs : List Number) → inner_ℚ xs [] ≡ whole (pos 0)
unfolding inner_ℚ
inner_ℚ-nil_right [] = refl
inner_ℚ-nil_right (x ∷ xs) = refl

pub inner_ℚ-cons : (x : Number) (xs : List Number) (y : Number) (ys : List Number) → inner_ℚ (x ∷ xs) (y ∷ ys) ≡ x *ℚ y +ℚ inner_ℚ xs ys
unfolding inner_ℚ
inner_ℚ-cons x xs y ys = refl

pub scaled-nil : (k : Number) → scaled k [] ≡ []
unfolding scaled
scaled-nil k = refl

pub scaled-cons : (k x : Number) (xs : List Number) → scaled k (x ∷ xs) ≡ (k *ℚ x) ∷ scaled k xs
unfolding scaled
scaled-cons k x xs = refl

pub applied-nil : (xs : List Number) → applied [] xs ≡ []
unfolding applied
applied-nil xs = refl

pub applied-cons : (row : List Number) (rows : List (List Number)) (xs : List Number) → applied (row ∷ rows) xs ≡ inner_ℚ row xs ∷ applied rows xs
unfolding applied
applied-cons row rows xs = refl

pub added-nil : (ys : List Number) → added [] ys ≡ ys
unfolding added
added-nil ys = refl

pub added-nil_right : (xs : List Number) → added xs [] ≡ xs
unfolding added
added-nil_right [] = refl
added-nil_right (x ∷ xs) = refl

pub added-cons : (x : Number) (xs : List Number) (y : Number) (ys : List Number) → added (x ∷ xs) (y ∷ ys) ≡ (x +ℚ y) ∷ added xs ys
unfolding added
added-cons x xs y ys = refl

pub combined-nil : (rows : List (List Number)) → combined [] rows ≡ []
unfolding combined
combined-nil rows = refl

pub combined-nil_right : (ys : List Number) → combined ys [] ≡ []
unfolding combined
combined-nil_right [] = refl
combined-nil_right (y ∷ ys) = refl

pub combined-cons : (y : Number) (ys : List Number) (row : List Number) (rows : List (List Number)) → combined (y ∷ ys) (row ∷ rows) ≡ added (scaled y row) (combined ys rows)
unfolding combined
combined-cons y ys row rows = refl

-- `simp (inners_ℚ, ring_ℚ)` takes inner products of written lists apart
pub ruleset inners_ℚ = (inner_ℚ-nil, inner_ℚ-nil_right, inner_ℚ-cons, scaled-nil, scaled-cons, applied-nil, applied-cons, added-nil, added-nil_right, added-cons, combined-nil, combined-nil_right, combined-cons)

pub inner_ℚ_comm : (xs ys : List Number) → inner_ℚ xs ys ≡ inner_ℚ ys xs
inner_ℚ_comm [] ys = simp inners_ℚ
inner_ℚ_comm (x ∷ xs) [] = simp inners_ℚ
inner_ℚ_comm (x ∷ xs) (y ∷ ys) = simp (inners_ℚ, inner_ℚ_comm xs ys, ring_ℚ)

-- linear in each argument
pub inner_ℚ-scaled : (k : Number) (xs ys : List Number) → inner_ℚ (scaled k xs) ys ≡ k *ℚ inner_ℚ xs ys
inner_ℚ-scaled k [] ys = simp (inners_ℚ, ring_ℚ)
inner_ℚ-scaled k (x ∷ xs) [] = simp (inners_ℚ, ring_ℚ)
inner_ℚ-scaled k (x ∷ xs) (y ∷ ys) = simp (inners_ℚ, inner_ℚ-scaled k xs ys, ring_ℚ)

pub inner_ℚ-scaled_right : (k : Number) (xs ys : List Number) → inner_ℚ xs (scaled k ys) ≡ k *ℚ inner_ℚ xs ys
inner_ℚ-scaled_right k xs ys = inner_ℚ_comm xs (scaled k ys) ∙ inner_ℚ-scaled k ys xs ∙ ap (λ w. k *ℚ w) (inner_ℚ_comm ys xs)

pub inner_ℚ-added : (xs ys zs : List Number) → inner_ℚ (added xs ys) zs ≡ inner_ℚ xs zs +ℚ inner_ℚ ys zs
inner_ℚ-added [] ys zs = simp (inners_ℚ, ring_ℚ)
inner_ℚ-added (x ∷ xs) [] zs = simp (inners_ℚ, ring_ℚ)
inner_ℚ-added (x ∷ xs) (y ∷ ys) [] = simp (inners_ℚ, ring_ℚ)
inner_ℚ-added (x ∷ xs) (y ∷ ys) (z ∷ zs) = simp (inners_ℚ, inner_ℚ-added xs ys zs, ring_ℚ)

pub inner_ℚ-added_right : (xs ys zs : List Number) → inner_ℚ xs (added ys zs) ≡ inner_ℚ xs ys +ℚ inner_ℚ xs zs
inner_ℚ-added_right xs ys zs =
    inner_ℚ_comm xs (added ys zs) ∙ inner_ℚ-added ys zs xs ∙ ap₂ (λ a b. a +ℚ b) (inner_ℚ_comm ys xs) (inner_ℚ_comm zs xs)

pub inner_ℚ-append : (xs ys zs ws : List Number) → length xs ≡ length ys → inner_ℚ (xs ++ zs) (ys ++ ws) ≡ inner_ℚ xs ys +ℚ inner_ℚ zs ws
inner_ℚ-append [] [] zs ws e = simp (inners_ℚ, ring_ℚ)
inner_ℚ-append [] (y ∷ ys) zs ws e = absurd (omega arith)
inner_ℚ-append (x ∷ xs) [] zs ws e = absurd (omega arith)
inner_ℚ-append (x ∷ xs) (y ∷ ys) zs ws e = simp (inners_ℚ, inner_ℚ-append xs ys zs ws (omega arith), ring_ℚ)

-- the sum of products row by row, and the same column by column
pub inner_ℚ_exchanged : (ys : List Number) (rows : List (List Number)) (xs : List Number) → inner_ℚ ys (applied rows xs) ≡ inner_ℚ (combined ys rows) xs
inner_ℚ_exchanged [] rows xs = simp inners_ℚ
inner_ℚ_exchanged (y ∷ ys) [] xs = simp inners_ℚ
inner_ℚ_exchanged (y ∷ ys) (row ∷ rows) xs = simp (inners_ℚ, inner_ℚ-added, inner_ℚ-scaled, inner_ℚ_exchanged ys rows xs)

-- one place changed
pub inner_ℚ-set : (xs ys : List Number) (i : ℕ) (z d e : Number) → i < length xs → i < length ys → inner_ℚ (set xs i z) ys +ℚ get_or xs i d *ℚ get_or ys i e ≡ inner_ℚ xs ys +ℚ z *ℚ get_or ys i e
inner_ℚ-set [] ys i z d e h k = absurd (omega arith)
inner_ℚ-set (x ∷ xs) [] i z d e h k = absurd (omega arith)
inner_ℚ-set (x ∷ xs) (y ∷ ys) zero z d e h k =
    ap (λ w. w +ℚ x *ℚ y) (inner_ℚ-cons z xs y ys) ∙ swapped (z *ℚ y) (inner_ℚ xs ys) (x *ℚ y) ∙ ap (λ w. w +ℚ z *ℚ y) (sym (inner_ℚ-cons x xs y ys))
inner_ℚ-set (x ∷ xs) (y ∷ ys) (suc i) z d e h k =
    ap (λ w. w +ℚ get_or xs i d *ℚ get_or ys i e) (inner_ℚ-cons x (set xs i z) y ys) ∙ +ℚ_assoc (x *ℚ y) _ _ ∙ ap (λ w. x *ℚ y +ℚ w) (inner_ℚ-set xs ys i z d e (omega arith) (omega arith)) ∙ sym (+ℚ_assoc (x *ℚ y) (inner_ℚ xs ys) _) ∙ ap (λ w. w +ℚ z *ℚ get_or ys i e) (sym (inner_ℚ-cons x xs y ys))

zero_inner : (xs ys : List Number) → AllByRecursion (λ x. x ≡ whole (pos 0)) xs → inner_ℚ xs ys ≡ whole (pos 0)
zero_inner [] ys h = inner_ℚ-nil ys
zero_inner (x ∷ xs) [] h = inner_ℚ-nil_right (x ∷ xs)
zero_inner (x ∷ xs) (y ∷ ys) h = simp (inners_ℚ, h.0, zero_inner xs ys h.1, ring_ℚ)

-- with a list of zeros
pub inner_ℚ-zeros : (xs ys : List Number) → All (λ x. x ≡ whole (pos 0)) xs → inner_ℚ xs ys ≡ whole (pos 0)
inner_ℚ-zeros xs ys h = zero_inner xs ys (recursion_from_All (λ x. x ≡ whole (pos 0)) xs h)

-- the products as one list of pairs
pub inner_ℚ-zip : (xs ys : List Number) → inner_ℚ xs ys ≡ sum_by_ℚ (λ p. p.0 *ℚ p.1) (zip xs ys)
inner_ℚ-zip [] ys = simp (inners_ℚ, written)
inner_ℚ-zip (x ∷ xs) [] = simp (inners_ℚ, written)
inner_ℚ-zip (x ∷ xs) (y ∷ ys) = simp (inners_ℚ, written, inner_ℚ-zip xs ys)

-- ---- inner products of lists that are at least 0

products_above : (xs ys : List Number) → AllByRecursion (λ x. whole (pos 0) ≤ℚ x) xs → AllByRecursion (λ y. whole (pos 0) ≤ℚ y) ys → AllByRecursion (λ (p : Number × Number). whole (pos 0) ≤ℚ p.0 *ℚ p.1) (zip xs ys)
products_above [] ys h k = tt
products_above (x ∷ xs) [] h k = tt
products_above (x ∷ xs) (y ∷ ys) h k = (Signs.*ℚ-zero-≤ℚ x y h.0 k.0, products_above xs ys h.1 k.1)

pub zero-≤ℚ-inner_ℚ : (xs ys : List Number) → All (λ x. whole (pos 0) ≤ℚ x) xs → All (λ y. whole (pos 0) ≤ℚ y) ys → whole (pos 0) ≤ℚ inner_ℚ xs ys
zero-≤ℚ-inner_ℚ xs ys h k =
    subst (λ w. whole (pos 0) ≤ℚ w) (sym (inner_ℚ-zip xs ys)) (above_terms (λ (p : Number × Number). p.0 *ℚ p.1) (zip xs ys) (products_above xs ys (recursion_from_All (λ x. whole (pos 0) ≤ℚ x) xs h) (recursion_from_All (λ y. whole (pos 0) ≤ℚ y) ys k)))

-- the inner product is 0 only where each product is
pub inner_ℚ_zero_only : (xs ys : List Number) → All (λ x. whole (pos 0) ≤ℚ x) xs → All (λ y. whole (pos 0) ≤ℚ y) ys → inner_ℚ xs ys ≡ whole (pos 0) → All (λ (p : Number × Number). p.0 *ℚ p.1 ≡ whole (pos 0)) (zip xs ys)
inner_ℚ_zero_only xs ys h k e =
    All-from_recursion (λ (p : Number × Number). p.0 *ℚ p.1 ≡ whole (pos 0)) (zip xs ys) (zero_terms (λ (p : Number × Number). p.0 *ℚ p.1) (zip xs ys) (products_above xs ys (recursion_from_All (λ x. whole (pos 0) ≤ℚ x) xs h) (recursion_from_All (λ y. whole (pos 0) ≤ℚ y) ys k)) (sym (inner_ℚ-zip xs ys) ∙ e))

ordered_inner : (xs ys zs : List Number) → AllByRecursion (λ z. whole (pos 0) ≤ℚ z) zs → AllZip ◌≤ℚ◌ xs ys → inner_ℚ xs zs ≤ℚ inner_ℚ ys zs
ordered_inner [] [] zs h k = Order.≤ℚ_refl _
ordered_inner [] (y ∷ ys) zs h k = absurd k
ordered_inner (x ∷ xs) [] zs h k = absurd k
ordered_inner (x ∷ xs) (y ∷ ys) [] h k = Order.≤ℚ_from_≡ _ _ (simp inners_ℚ)
ordered_inner (x ∷ xs) (y ∷ ys) (z ∷ zs) h k =
    ≤ℚ_from (both (times z h.0 k.0) (ordered_inner xs ys zs h.1 k.1)) (simp (inners_ℚ, ring_ℚ))

-- the one list at most the other, place by place, times factors at least 0
pub inner_ℚ-≤ℚ : (xs ys zs : List Number) → All (λ z. whole (pos 0) ≤ℚ z) zs → AllZip ◌≤ℚ◌ xs ys → inner_ℚ xs zs ≤ℚ inner_ℚ ys zs
inner_ℚ-≤ℚ xs ys zs h k = ordered_inner xs ys zs (recursion_from_All (λ z. whole (pos 0) ≤ℚ z) zs h) k
