-- Numbers without repetition, as they are gathered from the first on.
use Rattle.std.proofs.Common.{◌≡◌, ℕ, ◌+◌, ◌<◌, ◌≤◌, ◌==◌, ◌||◌, ◌&&◌, not, ◌∙◌, ap, sym, refl, Bool, true, false, List, [], ◌∷◌, ◌++◌, map, filter, drop, length, get_or, if◌then◌else◌, arith}
use Rattle.std.specs.List.{list_any}
use Rattle.std.proofs.lemmas.Bool.Decides.{nat_tests}
use Rattle.std.proofs.lemmas.List.{append_assoc, append-nil, drop_all}
use Rattle.gms_list.specs.SolveText.{distinct_names}
use Rattle.gms_list.specs.InnerSolves.{once_more}
use Rattle.gms_list.proofs.AppendedPieces.{drop_at}

abbrev pub has : List ℕ → ℕ → Bool
has ns n = list_any (λ m. m == n) ns

-- what is gathered, and what is left of the numbers that are not there yet
abbrev pub gathered : List ℕ → List ℕ → List ℕ
gathered ns rest = ns ++ filter (λ m. not (has ns m)) (distinct_names rest)

keep : (b : Bool) (x : ℕ) (xs ys : List ℕ) → xs ≡ ys → (if b then x ∷ xs else xs) ≡ (if b then x ∷ ys else ys)
keep true x xs ys e = ap (λ zs. x ∷ zs) e
keep false x xs ys e = e

pub filter_same : (p q : ℕ → Bool) → ((x : ℕ) → p x ≡ q x) → (xs : List ℕ) → filter p xs ≡ filter q xs
filter_same p q h [] = refl
filter_same p q h (x ∷ xs) = keep (p x) x _ _ (filter_same p q h xs) ∙ ap (λ b. if b then x ∷ filter q xs else filter q xs) (h x)

twice_at : (p : ℕ → Bool) (b : Bool) (x : ℕ) (ys zs : List ℕ) → filter p ys ≡ zs → filter p (if b then x ∷ ys else ys) ≡ (if b && p x then x ∷ zs else zs)
twice_at p false x ys zs e = e
twice_at p true x ys zs e = keep (p x) x _ _ e

pub filter_twice : (p q : ℕ → Bool) (xs : List ℕ) → filter p (filter q xs) ≡ filter (λ x. q x && p x) xs
filter_twice p q [] = refl
filter_twice p q (x ∷ xs) = twice_at p (q x) x (filter q xs) (filter (λ x. q x && p x) xs) (filter_twice p q xs)

has_more : (ns : List ℕ) (n m : ℕ) → has (ns ++ n ∷ []) m ≡ (has ns m || (m == n))
has_more [] n m = grind (arith, nat_tests)
has_more (k ∷ ns) n m = or_more (k == m) (has (ns ++ n ∷ []) m) (has ns m) (m == n) (has_more ns n m)
  where
    or_more : (a b c d : Bool) → b ≡ (c || d) → (a || b) ≡ ((a || c) || d)
    or_more true b c d e = refl
    or_more false b c d e = e

without : (a b : Bool) → (not b && not a) ≡ not (a || b)
without true true = refl
without true false = refl
without false true = refl
without false false = refl

hidden : (a b : Bool) → (b ≡ true → a ≡ true) → (not b && not a) ≡ not a
hidden true true h = refl
hidden true false h = refl
hidden false true h = absurd (let f : false ≡ true = h refl in cc)
hidden false false h = refl

is_same : (m n : ℕ) → (m == n) ≡ true → n ≡ m
is_same m n e = grind (arith, nat_tests)

gathered_by : (ns rest : List ℕ) (n : ℕ) (b : Bool) → has ns n ≡ b →
    (if b then ns else ns ++ n ∷ []) ++ filter (λ m. not (has (if b then ns else ns ++ n ∷ []) m)) (distinct_names rest) ≡ gathered ns (n ∷ rest)
gathered_by ns rest n true e =
    sym (ap (λ t. ns ++ t)
    (ap (λ b. if not b then n ∷ filter (λ m. not (has ns m)) (filter (λ m. not (m == n)) (distinct_names rest)) else filter (λ m. not (has ns m)) (filter (λ m. not (m == n)) (distinct_names rest))) e
    ∙ filter_twice (λ m. not (has ns m)) (λ m. not (m == n)) (distinct_names rest)
    ∙ filter_same (λ m. not (m == n) && not (has ns m)) (λ m. not (has ns m)) (λ m. hidden (has ns m) (m == n) (λ f. ap (has ns) (sym (is_same m n f)) ∙ e)) (distinct_names rest)))
gathered_by ns rest n false e =
    append_assoc ns (n ∷ []) (filter (λ m. not (has (ns ++ n ∷ []) m)) (distinct_names rest))
    ∙ sym (ap (λ t. ns ++ t)
    (ap (λ b. if not b then n ∷ filter (λ m. not (has ns m)) (filter (λ m. not (m == n)) (distinct_names rest)) else filter (λ m. not (has ns m)) (filter (λ m. not (m == n)) (distinct_names rest))) e
    ∙ ap (λ t. n ∷ t) (filter_twice (λ m. not (has ns m)) (λ m. not (m == n)) (distinct_names rest)
    ∙ filter_same (λ m. not (m == n) && not (has ns m)) (λ m. not (has (ns ++ n ∷ []) m)) (λ m. without (has ns m) (m == n) ∙ ap not (sym (has_more ns n m))) (distinct_names rest))))

-- one number further
pub gathered_step : {X : Type 0} (v : X → ℕ) (xs : List X) (i : ℕ) (x : X) (ns next all : List ℕ) → i < length xs → x ≡ get_or xs i x →
    gathered ns (map v (drop i xs)) ≡ all → next ≡ once_more ns (v x) → gathered next (map v (drop (i + 1) xs)) ≡ all
gathered_step v xs i x ns next all h e g n =
    ap (λ k. gathered k (map v (drop (i + 1) xs))) n ∙ gathered_by ns (map v (drop (i + 1) xs)) (v x) (has ns (v x)) refl
    ∙ sym (ap (λ ys. gathered ns (map v ys)) (drop_at xs i x h ∙ ap (λ y. y ∷ drop (i + 1) xs) (sym e))) ∙ g

pub gathered_done : {X : Type 0} (v : X → ℕ) (xs : List X) (i : ℕ) (ns all : List ℕ) → length xs ≤ i → gathered ns (map v (drop i xs)) ≡ all → ns ≡ all
gathered_done v xs i ns all h g = sym (append-nil ns) ∙ sym (ap (λ ys. gathered ns (map v ys)) (drop_all i xs h)) ∙ g

all_of : (xs : List ℕ) → filter (λ m. true) xs ≡ xs
all_of [] = refl
all_of (x ∷ xs) = ap (λ ys. x ∷ ys) (all_of xs)

pub gathered_none : (xs : List ℕ) → gathered [] xs ≡ distinct_names xs
gathered_none xs = all_of (distinct_names xs)

-- a number that is in the list, and one that is not
pub once_has : (ns : List ℕ) (n : ℕ) → has ns n ≡ true → ns ≡ once_more ns n
once_has ns n e = ap (λ b. if b then ns else ns ++ n ∷ []) (sym e)

pub once_new : (ns : List ℕ) (n : ℕ) → has ns n ≡ false → ns ++ n ∷ [] ≡ once_more ns n
once_new ns n e = ap (λ b. if b then ns else ns ++ n ∷ []) (sym e)
