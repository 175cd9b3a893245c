-- Products of ascending lists of labels: which elements they have, and that these are in order.
use Rattle.std.proofs.lemmas.Bool.{and_parts}
use Rattle.std.proofs.Common.{◌≡◌, ℕ, Bool, true, false, ◌&&◌, ◌||◌, suc, List, [], ◌∷◌, ◌++◌, map, length, get_or, nat_eq, refl, sym, ap, ◌∙◌}
use Rattle.std.specs.declared.cmp.Ordering.{Ordering}
use Rattle.std.specs.declared.cmp.Ordering.TheVariants.{Less, Equal, Greater}
use Rattle.std.specs.Ordering.{nat_cmp, ordering_then}
use Rattle.std.specs.List.{All, flat_map, list_any}
use Rattle.std.proofs.lemmas.List.Elements.{All-nil, All-cons, All-head, All-tail, All-map, All-append, All-weaker}
use Rattle.std.proofs.lemmas.List.Folds.{list_any-append}
use Rattle.gms_tuple.specs.TupleOrder.{tuple_cmp, same_tuple, IsOrdered}
use Rattle.gms_tuple.specs.TupleSet.{has}
use Rattle.gms_tuple.specs.Products.{tuple_product}
use Rattle.gms_tuple.proofs.Ordered.{first-before, rest-ordered, ordered-cons, ordered-nil, tuple_cmp-flip}

-- ---- elements

-- whether a tuple has at each position one of the labels there
abbrev pub all_in : List (List ℕ) → List ℕ → Bool
all_in [] [] = true
all_in [] (l ∷ tuple) = false
all_in (labels ∷ lists) [] = false
all_in (labels ∷ lists) (l ∷ tuple) = list_any (λ m. nat_eq m l) labels && all_in lists tuple

-- the tuples with each of some labels put before them
abbrev after_each : List (List ℕ) → List ℕ → List (List ℕ)
after_each tuples labels = flat_map (λ label. map (λ tuple. label ∷ tuple) tuples) labels

has-following : (m l : ℕ) (t : List ℕ) (tuples : List (List ℕ)) → has (map (λ tuple. m ∷ tuple) tuples) (l ∷ t) ≡ (nat_eq m l && has tuples t)
has-following m l t [] = elim (nat_eq m l) as (λ b. false ≡ (b && false)) [ true ↦ refl | false ↦ refl ]
has-following m l t (s ∷ tuples) =
    ap (λ r. (nat_eq m l && same_tuple s t) || r) (has-following m l t tuples)
    ∙ elim (nat_eq m l) as (λ b. ((b && same_tuple s t) || (b && has tuples t)) ≡ (b && (same_tuple s t || has tuples t))) [ true ↦ refl | false ↦ refl ]

has_not-following : (m : ℕ) (tuples : List (List ℕ)) → has (map (λ tuple. m ∷ tuple) tuples) [] ≡ false
has_not-following m [] = refl
has_not-following m (s ∷ tuples) = has_not-following m tuples

-- what is one of two and another is the other and one of them
pub either-and : (a b c : Bool) → ((a && c) || (b && c)) ≡ ((a || b) && c)
either-and true true true = refl
either-and true true false = refl
either-and true false true = refl
either-and true false false = refl
either-and false b c = refl

has-after_each : (tuples : List (List ℕ)) (labels : List ℕ) (l : ℕ) (t : List ℕ) → has (after_each tuples labels) (l ∷ t) ≡ (list_any (λ m. nat_eq m l) labels && has tuples t)
has-after_each tuples [] l t = refl
has-after_each tuples (m ∷ labels) l t =
    list_any-append (λ member. same_tuple member (l ∷ t)) (map (λ tuple. m ∷ tuple) tuples) (after_each tuples labels)
    ∙ ap (λ r. r || has (after_each tuples labels) (l ∷ t)) (has-following m l t tuples)
    ∙ ap (λ r. (nat_eq m l && has tuples t) || r) (has-after_each tuples labels l t)
    ∙ either-and (nat_eq m l) (list_any (λ m. nat_eq m l) labels) (has tuples t)

has_not-after_each : (tuples : List (List ℕ)) (labels : List ℕ) → has (after_each tuples labels) [] ≡ false
has_not-after_each tuples [] = refl
has_not-after_each tuples (m ∷ labels) =
    list_any-append (λ member. same_tuple member []) (map (λ tuple. m ∷ tuple) tuples) (after_each tuples labels)
    ∙ ap (λ r. r || has (after_each tuples labels) []) (has_not-following m tuples)
    ∙ has_not-after_each tuples labels

-- the elements of a product are the tuples with such labels
pub has-product : (lists : List (List ℕ)) (tuple : List ℕ) → has (tuple_product lists) tuple ≡ all_in lists tuple
has-product [] [] = refl
has-product [] (l ∷ tuple) = refl
has-product (labels ∷ lists) [] = has_not-after_each (tuple_product lists) labels
has-product (labels ∷ lists) (l ∷ tuple) =
    has-after_each (tuple_product lists) labels l tuple ∙ ap (λ b. list_any (λ m. nat_eq m l) labels && b) (has-product lists tuple)

pub all_in-length : (lists : List (List ℕ)) (tuple : List ℕ) → all_in lists tuple ≡ true → length tuple ≡ length lists
all_in-length [] [] e = refl
all_in-length [] (l ∷ tuple) e = absurd cc
all_in-length (labels ∷ lists) [] e = absurd cc
all_in-length (labels ∷ lists) (l ∷ tuple) e =
    ap suc (all_in-length lists tuple ((and_parts (list_any (λ m. nat_eq m l) labels) (all_in lists tuple) e).1))

-- ---- order

-- labels in ascending order
abbrev pub AreAscending : List ℕ → Type 0
AreAscending labels = IsOrdered (map (λ label. label ∷ []) labels)

-- the first labels of two tuples decide where one comes before the other
first-decides : (l m : ℕ) (x y : List ℕ) → tuple_cmp (l ∷ []) (m ∷ []) ≡ Less → tuple_cmp (l ∷ x) (m ∷ y) ≡ Less
first-decides l m x y e = by (nat_cmp l m) refl
  where
    by : (o : Ordering) → nat_cmp l m ≡ o → tuple_cmp (l ∷ x) (m ∷ y) ≡ Less
    by Less q = ap (λ o. ordering_then o (tuple_cmp x y)) q
    by Equal q = absurd (let f : Equal ≡ Less = sym (ap (λ o. ordering_then o Equal) q) ∙ e in cc)
    by Greater q = absurd (let f : Greater ≡ Less = sym (ap (λ o. ordering_then o Equal) q) ∙ e in cc)

-- and where they are the same the others do
same-first : (l : ℕ) (x y : List ℕ) → tuple_cmp x y ≡ Less → tuple_cmp (l ∷ x) (l ∷ y) ≡ Less
same-first l x y e = by (nat_cmp l l) refl
  where
    by : (o : Ordering) → nat_cmp l l ≡ o → tuple_cmp (l ∷ x) (l ∷ y) ≡ Less
    by Less q = ap (λ o. ordering_then o (tuple_cmp x y)) q
    by Equal q = ap (λ o. ordering_then o (tuple_cmp x y)) q ∙ e
    by Greater q =
        absurd (let f : tuple_cmp (l ∷ []) (l ∷ []) ≡ Greater = ap (λ o. ordering_then o Equal) q in let g : Greater ≡ Less = sym f ∙ tuple_cmp-flip (l ∷ []) (l ∷ []) Greater f in cc)

ordered-append : (xs ys : List (List ℕ)) → IsOrdered xs → IsOrdered ys → All (λ x. All (λ y. tuple_cmp x y ≡ Less) ys) xs → IsOrdered (xs ++ ys)
ordered-append [] ys first second across = second
ordered-append (x ∷ xs) ys first second across =
    ordered-cons x (xs ++ ys) (All-append (λ y. tuple_cmp x y ≡ Less) xs ys (first-before x xs first) (All-head (λ x. All (λ y. tuple_cmp x y ≡ Less) ys) x xs across))
    (ordered-append xs ys (rest-ordered x xs first) second (All-tail (λ x. All (λ y. tuple_cmp x y ≡ Less) ys) x xs across))

ordered-following : (l : ℕ) (tuples : List (List ℕ)) → IsOrdered tuples → IsOrdered (map (λ tuple. l ∷ tuple) tuples)
ordered-following l [] in_order = ordered-nil
ordered-following l (t ∷ tuples) in_order =
    ordered-cons (l ∷ t) (map (λ tuple. l ∷ tuple) tuples) (All-map (λ y. tuple_cmp (l ∷ t) y ≡ Less) (λ tuple. l ∷ tuple) tuples (All-weaker (λ y. tuple_cmp t y ≡ Less) (λ y. tuple_cmp (l ∷ t) (l ∷ y) ≡ Less) (λ y less. same-first l t y less) tuples (first-before t tuples in_order)))
    (ordered-following l tuples (rest-ordered t tuples in_order))

every : {X : Type 0} (P : X → Type 0) → ((x : X) → P x) → (xs : List X) → All P xs
every P always xs = λ k d l. always (get_or xs k d)

all-following : (P : List ℕ → Type 0) (tuples : List (List ℕ)) (labels : List ℕ) → All (λ m. (t : List ℕ) → P (m ∷ t)) labels → All P (after_each tuples labels)
all-following P tuples [] all = All-nil P
all-following P tuples (m ∷ labels) all =
    All-append P (map (λ tuple. m ∷ tuple) tuples) (after_each tuples labels) (All-map P (λ tuple. m ∷ tuple) tuples (every (λ t. P (m ∷ t)) (All-head (λ m. (t : List ℕ) → P (m ∷ t)) m labels all) tuples))
    (all-following P tuples labels (All-tail (λ m. (t : List ℕ) → P (m ∷ t)) m labels all))

unwrapped : (P : List ℕ → Type 0) (labels : List ℕ) → All P (map (λ label. label ∷ []) labels) → All (λ m. P (m ∷ [])) labels
unwrapped P [] all = All-nil (λ m. P (m ∷ []))
unwrapped P (m ∷ labels) all =
    All-cons (λ m. P (m ∷ [])) m labels (All-head P (m ∷ []) (map (λ label. label ∷ []) labels) all) (unwrapped P labels (All-tail P (m ∷ []) (map (λ label. label ∷ []) labels) all))

ordered-after_each : (tuples : List (List ℕ)) (labels : List ℕ) → AreAscending labels → IsOrdered tuples → IsOrdered (after_each tuples labels)
ordered-after_each tuples [] ascending in_order = ordered-nil
ordered-after_each tuples (l ∷ labels) ascending in_order =
    let later = unwrapped (λ y. tuple_cmp (l ∷ []) y ≡ Less) labels (first-before (l ∷ []) (map (λ label. label ∷ []) labels) ascending) in
    ordered-append (map (λ tuple. l ∷ tuple) tuples) (after_each tuples labels) (ordered-following l tuples in_order)
    (ordered-after_each tuples labels (rest-ordered (l ∷ []) (map (λ label. label ∷ []) labels) ascending) in_order)
    (All-map (λ x. All (λ y. tuple_cmp x y ≡ Less) (after_each tuples labels)) (λ tuple. l ∷ tuple) tuples
    (every (λ t. All (λ y. tuple_cmp (l ∷ t) y ≡ Less) (after_each tuples labels)) (λ t. all-following (λ y. tuple_cmp (l ∷ t) y ≡ Less) tuples labels (All-weaker (λ m. tuple_cmp (l ∷ []) (m ∷ []) ≡ Less) (λ m. (s : List ℕ) → tuple_cmp (l ∷ t) (m ∷ s) ≡ Less) (λ m less s. first-decides l m t s less) labels later)) tuples))

-- the product of ascending lists is in order
pub ordered-product : (lists : List (List ℕ)) → All AreAscending lists → IsOrdered (tuple_product lists)
ordered-product [] ascending = ordered-cons [] [] (All-nil (λ y. tuple_cmp [] y ≡ Less)) ordered-nil
ordered-product (labels ∷ lists) ascending =
    ordered-after_each (tuple_product lists) labels (All-head AreAscending labels lists ascending) (ordered-product lists (All-tail AreAscending labels lists ascending))
