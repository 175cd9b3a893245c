-- The elements of a product of lists, by their numbers.
use Rattle.std.proofs.Common.{◌≡◌, ℕ, zero, suc, ◌+◌, ◌*◌, ◌/◌, ◌%◌, ◌<◌, List, [], ◌∷◌, ◌++◌, map, get_or, length, sym, ap, ◌∙◌, arith, length-append, zero-mul, suc-mul, mul-zero}
use Rattle.std.specs.List.{flat_map}
use Rattle.std.proofs.lemmas.List.{length-map, get_or-map, get_or_append_left, get_or-append-add}
use Rattle.std.proofs.lemmas.Nat.{div-add-mod', div_below, mod_below}
use Rattle.gms_tuple.specs.Products.{tuple_product}

-- a factor of a product that is not 0 is not 0
pub pos_of_product : (a b n : ℕ) → n < a * b → 0 < b
pos_of_product a zero n below = absurd (omega (arith, mul-zero a))
pos_of_product a (suc b) n below = omega arith

-- how many elements lists of one length have together
length-each : (m : ℕ) (f : ℕ → List (List ℕ)) (xs : List ℕ) → ((x : ℕ) → length (f x) ≡ m) → length (flat_map f xs) ≡ length xs * m
length-each m f [] same = omega arith
length-each m f (x ∷ xs) same =
    let rest = length-each m f xs same in let this = same x in let both = length-append (f x) (flat_map f xs) in omega (arith, suc-mul (length xs) m)

-- the element at a place in the list at a place
at_place : (m : ℕ) (f : ℕ → List (List ℕ)) (xs : List ℕ) (a b : ℕ) → ((x : ℕ) → length (f x) ≡ m) → a < length xs → b < m → get_or (flat_map f xs) (a * m + b) [] ≡ get_or (f (get_or xs a 0)) b []
at_place m f [] a b same l k = absurd (omega arith)
at_place m f (x ∷ xs) zero b same l k =
    ap (λ n. get_or (f x ++ flat_map f xs) n []) (let e : zero * m + b ≡ b = omega (arith, zero-mul m) in e)
    ∙ get_or_append_left (f x) (flat_map f xs) [] b (omega (arith, same x))
at_place m f (x ∷ xs) (suc a) b same l k =
    ap (λ n. get_or (f x ++ flat_map f xs) n []) (let e : suc a * m + b ≡ length (f x) + (a * m + b) = omega (arith, suc-mul a m, same x) in e)
    ∙ get_or-append-add (f x) (flat_map f xs) (a * m + b) []
    ∙ at_place m f xs a b same (omega arith) k

-- a product has as many elements as the lengths multiply to
pub length-product : (xs : List ℕ) (rest : List (List ℕ)) → length (tuple_product (xs ∷ rest)) ≡ length xs * length (tuple_product rest)
length-product xs rest =
    length-each (length (tuple_product rest)) (λ label. map (λ element. label ∷ element) (tuple_product rest)) xs (λ x. length-map (tuple_product rest) (λ element. x ∷ element))

-- the element of a number: a label by division, and the rest of it by the remainder
pub get_or-product : (xs : List ℕ) (rest : List (List ℕ)) (n : ℕ) → n < length xs * length (tuple_product rest) → get_or (tuple_product (xs ∷ rest)) n [] ≡ get_or xs (n / length (tuple_product rest)) 0 ∷ get_or (tuple_product rest) (n % length (tuple_product rest)) []
get_or-product xs rest n below =
    let m : ℕ = length (tuple_product rest) in
    let some : 0 < m = pos_of_product (length xs) m n below in
    let a : n / m < length xs = div_below n m (length xs) some below in
    let b : n % m < m = mod_below n m some in
    ap (λ k. get_or (tuple_product (xs ∷ rest)) k []) (sym (div-add-mod' n m))
    ∙ at_place m (λ label. map (λ element. label ∷ element) (tuple_product rest)) xs (n / m) (n % m) (λ x. length-map (tuple_product rest) (λ element. x ∷ element)) a b
    ∙ get_or-map (λ element. get_or xs (n / m) 0 ∷ element) (tuple_product rest) (n % m) [] [] b
