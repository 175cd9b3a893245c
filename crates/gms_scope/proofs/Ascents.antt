-- Labels that ascend.
use Rattle.std.proofs.Common.{◌≡◌, ◌<◌, ◌≤◌, ℕ, zero, suc, ◌+◌, Bool, true, false, ◌&&◌, List, [], ◌∷◌, ◌++◌, refl, sym, ap, ◌∙◌, arith, if◌then◌else◌, Option, Some, None, drop, length, get_or}
use Rattle.std.specs.Prelude.{nat_lt, flat_map}
use Rattle.std.proofs.lemmas.Bool.Decides.{nat_tests}
use Rattle.std.proofs.lemmas.List.{drop_more}
use Rattle.gms_scope.specs.Data.{is_ascending, least_after}

-- whether there is one
abbrev pub is_there : Option ℕ → Bool
is_there None = false
is_there (Some n) = true

-- the labels after others continue from the least label that those leave
abbrev pub go_on : Option ℕ → List ℕ → Option ℕ
go_on None labels = None
go_on (Some least) labels = least_after least labels

pub least-append : (least : ℕ) (xs ys : List ℕ) → least_after least (xs ++ ys) ≡ go_on (least_after least xs) ys
least-append least [] ys = refl
least-append least (x ∷ xs) ys = by (nat_lt x least) (least-append (x + 1) xs ys)
  where
    by : (s : Bool) → least_after (x + 1) (xs ++ ys) ≡ go_on (least_after (x + 1) xs) ys → (if s then None else least_after (x + 1) (xs ++ ys)) ≡ go_on (if s then None else least_after (x + 1) xs) ys
    by true e = refl
    by false e = e

ascending-from : (n : ℕ) (xs : List ℕ) → is_ascending (n ∷ xs) ≡ is_there (least_after (n + 1) xs)
ascending-from n [] = refl
ascending-from n (x ∷ xs) = by (nat_lt n x) (nat_lt x (n + 1)) (grind (arith, nat_tests)) (ascending-from x xs)
  where
    flipped : Bool → Bool
    flipped true = false
    flipped false = true

    by : (s t : Bool) → s ≡ flipped t → is_ascending (x ∷ xs) ≡ is_there (least_after (x + 1) xs) → (s && is_ascending (x ∷ xs)) ≡ is_there (if t then None else least_after (x + 1) xs)
    by s true e f = ap (λ b. b && is_ascending (x ∷ xs)) e
    by s false e f = ap (λ b. b && is_ascending (x ∷ xs)) e ∙ f

-- labels ascend where they do from 0 on
pub ascending : (labels : List ℕ) → is_ascending labels ≡ is_there (least_after 0 labels)
ascending [] = refl
ascending (n ∷ ns) = ascending-from n ns ∙ by (nat_lt n 0) (grind (arith, nat_tests))
  where
    by : (s : Bool) → s ≡ false → is_there (least_after (n + 1) ns) ≡ is_there (if s then None else least_after (n + 1) ns)
    by true e = absurd cc
    by false e = refl

-- one element of a list, whose labels come before those of the rest
pub least-step : {X : Type 0} (f : X → List ℕ) (xs : List X) (i least : ℕ) (x : X) → i < length xs → x ≡ get_or xs i x → least_after least (flat_map f (drop i xs)) ≡ go_on (least_after least (f x)) (flat_map f (drop (i + 1) xs))
least-step f xs i least x l is =
    ap (λ ys. least_after least (flat_map f ys)) (drop_more xs i x l) ∙ ap (λ y. least_after least (f y ++ flat_map f (drop (i + 1) xs))) (sym is) ∙ least-append least (f x) (flat_map f (drop (i + 1) xs))

pub stops : {X : Type 0} (f : X → List ℕ) (xs : List X) (i least : ℕ) (total : Option ℕ) (x : X) → i < length xs → x ≡ get_or xs i x → least_after least (flat_map f (drop i xs)) ≡ total → None ≡ least_after least (f x) → None ≡ total
stops f xs i least total x l is goes none = ap (λ r. go_on r (flat_map f (drop (i + 1) xs))) none ∙ sym (least-step f xs i least x l is) ∙ goes

pub goes : {X : Type 0} (f : X → List ℕ) (xs : List X) (i least next : ℕ) (total : Option ℕ) (x : X) → i < length xs → x ≡ get_or xs i x → least_after least (flat_map f (drop i xs)) ≡ total → Some next ≡ least_after least (f x) → least_after next (flat_map f (drop (i + 1) xs)) ≡ total
goes f xs i least next total x l is so some = ap (λ r. go_on r (flat_map f (drop (i + 1) xs))) some ∙ sym (least-step f xs i least x l is) ∙ so

pub drop_end : {X : Type 0} (xs : List X) (i : ℕ) → length xs ≤ i → drop i xs ≡ []
drop_end [] zero l = refl
drop_end [] (suc i) l = refl
drop_end (x ∷ xs) zero l = absurd (omega arith)
drop_end (x ∷ xs) (suc i) l = drop_end xs i (omega arith)

pub done : {X : Type 0} (f : X → List ℕ) (xs : List X) (i least : ℕ) (total : Option ℕ) → length xs ≤ i → least_after least (flat_map f (drop i xs)) ≡ total → Some least ≡ total
done f xs i least total l so = sym (ap (λ ys. least_after least (flat_map f ys)) (drop_end xs i l)) ∙ so
