-- Products of lists of labels: how many tuples they have, and the place of each.
use Rattle.std.proofs.Common.{ℕ, ◌≡◌, ◌≤◌, ◌<◌, ◌+◌, ◌*◌, ◌/◌, ◌%◌, ◌++◌, ◌∷◌, [], List, map, min, length, get_or, take, drop, refl, sym, ap, ◌∙◌, arith, append_assoc, append-nil, inl, inr}
use Rattle.std.specs.List.{flat_map}
use Rattle.std.proofs.Math.Nat.{mul-div_cancel_left, mod-lt, div-lt_iff_lt-mul, mul_assoc, le-mul_of_pos_right}
use Rattle.std.proofs.lemmas.Nat.{div-add-mod'}
use Rattle.std.proofs.lemmas.List.{length-append, length-map, length-take-le, drop_more, take_more, get_or-map, drop_all, length_push}
use Rattle.std.proofs.lemmas.List.Concat.{get_or-flat_map}
use Rattle.std.proofs.lemmas.Bool.{cases_lt}
use Rattle.gms_tuple.specs.Products.{tuple_product}

module _ {X A : Type 0} (f : X → List A) (m : ℕ) (same : (x : X) → length (f x) ≡ m) where
  -- pieces of one length, in sequence
  length-pieces : (xs : List X) → length (flat_map f xs) ≡ length xs * m
  length-pieces [] = omega arith
  length-pieces (x ∷ xs) = length-append (f x) (flat_map f xs) ∙ grind (arith, same x, length-pieces xs)

  -- the j-th element of the i-th piece
  at-pieces : (xs : List X) (i j : ℕ) (e : X) (d : A) → i < length xs → j < m → get_or (flat_map f xs) (i * m + j) d ≡ get_or (f (get_or xs i e)) j d
  at-pieces xs i j e d l k =
      let before : length (flat_map f (take i xs)) ≡ i * m = length-pieces (take i xs) ∙ ap (λ n. n * m) (length-take-le i xs (omega arith)) in
      ap (λ n. get_or (flat_map f xs) (n + j) d) (sym before) ∙ get_or-flat_map f xs i j e d l (omega (arith, same (get_or xs i e)))

-- how many tuples begin with each of these labels
pub length-product : (labels : List ℕ) (parts : List (List ℕ)) → length (tuple_product (labels ∷ parts)) ≡ length labels * length (tuple_product parts)
length-product labels parts =
    length-pieces (λ label. map (λ tuple. label ∷ tuple) (tuple_product parts)) (length (tuple_product parts)) (λ label. length-map (tuple_product parts) (λ tuple. label ∷ tuple)) labels

-- how many tuples there are with one position more
pub length-product-more : (parts : List (List ℕ)) (labels : List ℕ) → length (tuple_product (parts ++ labels ∷ [])) ≡ length (tuple_product parts) * length labels
length-product-more [] labels = length-product labels [] ∙ grind arith
length-product-more (first ∷ parts) labels =
    length-product first (parts ++ labels ∷ []) ∙ ap (λ n. length first * n) (length-product-more parts labels)
    ∙ sym (ap (λ n. n * length labels) (length-product first parts) ∙ mul_assoc (length first) (length (tuple_product parts)) (length labels))

-- the least of a product and a greatest number, factor by factor
pub min-times : (a b most : ℕ) → min (min a most * b) most ≡ min (a * b) most
min-times a b most = elim (cases_lt a most) [
  | inl below ↦ (let e : min a most ≡ a = omega arith in ap (λ n. min (n * b) most) e)
  | inr past ↦
      (let e : min a most ≡ most = omega arith in
      ap (λ n. min (n * b) most) e ∙ elim (cases_lt 0 b) [
        | inl some ↦ (let l = le-mul_of_pos_right {m = b} most some in let k = le-mul_of_pos_right {m = b} a some in omega arith)
        | inr none ↦ (let zero : b ≡ 0 = omega arith in rw zero (omega arith))
      ])
]

-- the number of tuples of one position more, up to a greatest number
pub count-more : (parts : List (List ℕ)) (i n most : ℕ) → i < length parts → n ≡ min (length (tuple_product (take i parts))) most → min (n * length (get_or parts i [])) most ≡ min (length (tuple_product (take (i + 1) parts))) most
count-more parts i n most l is =
    ap (λ n. min (n * length (get_or parts i [])) most) is
    ∙ min-times (length (tuple_product (take i parts))) (length (get_or parts i [])) most
    ∙ ap (λ n. min n most) (sym (ap (λ parts. length (tuple_product parts)) (take_more parts i [] l) ∙ length-product-more (take i parts) (get_or parts i [])))

-- What the labels of one position say of the tuple at a place.
pub record AtPosition (labels : List ℕ) (after : List (List ℕ)) (below rest : ℕ) : Type 0 where
  pub some : 0 < length labels
  pub share : below / length labels ≡ length (tuple_product after)
  pub positive : 0 < length (tuple_product after)
  pub place : rest / length (tuple_product after) < length labels
  pub left : rest % length (tuple_product after) < length (tuple_product after)
  pub at : get_or (tuple_product (labels ∷ after)) rest [] ≡ get_or labels (rest / length (tuple_product after)) 0 ∷ get_or (tuple_product after) (rest % length (tuple_product after)) []

pub AtPosition-is : (labels : List ℕ) (after : List (List ℕ)) (below rest : ℕ) → below ≡ length (tuple_product (labels ∷ after)) → rest < below → AtPosition labels after below rest
AtPosition-is labels after below rest is within = by (length (tuple_product after)) refl
  where
    by : (m : ℕ) → length (tuple_product after) ≡ m → AtPosition labels after below rest
    by m size =
        let total : below ≡ length labels * m = is ∙ length-product labels after ∙ ap (λ n. length labels * n) size in
        let some : 0 < length labels = elim (cases_lt 0 (length labels)) [ inl l ↦ l | inr none ↦ absurd (grind arith) ] in
        let positive : 0 < m = elim (cases_lt 0 m) [ inl l ↦ l | inr none ↦ absurd (grind arith) ] in
        let place : rest / m < length labels = (div-lt_iff_lt-mul {k = m} {x = rest} {y = length labels} positive).1 (omega (arith, total)) in
        let left : rest % m < m = mod-lt rest positive in
        let f : ℕ → List (List ℕ) = λ label. map (λ tuple. label ∷ tuple) (tuple_product after) in
        let same : (label : ℕ) → length (f label) ≡ m = λ label. length-map (tuple_product after) (λ tuple. label ∷ tuple) ∙ size in
        record {
          some = some;
          share = ap (λ n. n / length labels) total ∙ mul-div_cancel_left m some ∙ sym size;
          positive = rw size positive;
          place = rw size place;
          left = rw size left;
          at = rw size (ap (λ n. get_or (tuple_product (labels ∷ after)) n []) (sym (div-add-mod' rest m))
              ∙ at-pieces f m same labels (rest / m) (rest % m) 0 [] place left
              ∙ get_or-map (λ tuple. get_or labels (rest / m) 0 ∷ tuple) (tuple_product after) (rest % m) [] [] (omega (arith, size)));
        }

-- How far the tuple at a place is made: the labels of the first i positions, and the remaining
-- place among the tuples of the other positions.
pub record IsMade (parts : List (List ℕ)) (place i below rest : ℕ) (tuple : List ℕ) : Type 0 where
  pub size : below ≡ length (tuple_product (drop i parts))
  pub within : rest < below
  pub made : length tuple ≡ i
  pub at : tuple ++ get_or (tuple_product (drop i parts)) rest [] ≡ get_or (tuple_product parts) place []

pub IsMade-none : (parts : List (List ℕ)) (place below : ℕ) → below ≡ length (tuple_product parts) → place < below → IsMade parts place 0 below place []
IsMade-none parts place below size within = record { size = size; within = within; made = refl; at = refl }

-- what the next position says
pub next : (parts : List (List ℕ)) (place i below rest : ℕ) (tuple : List ℕ) → i < length parts → IsMade parts place i below rest tuple → AtPosition (get_or parts i []) (drop (i + 1) parts) below rest
next parts place i below rest tuple l made =
    AtPosition-is (get_or parts i []) (drop (i + 1) parts) below rest (made.size ∙ ap (λ parts. length (tuple_product parts)) (drop_more parts i [] l)) made.within

pub IsMade-more : (parts : List (List ℕ)) (place i below rest : ℕ) (tuple : List ℕ) → i < length parts → IsMade parts place i below rest tuple → IsMade parts place (i + 1) (below / length (get_or parts i [])) (rest % (below / length (get_or parts i []))) (tuple ++ get_or (get_or parts i []) (rest / (below / length (get_or parts i []))) 0 ∷ [])
IsMade-more parts place i below rest tuple l made =
    let n = next parts place i below rest tuple l made in
    rw n.share (record {
      size = refl;
      within = n.left;
      made = length_push tuple (get_or (get_or parts i []) (rest / length (tuple_product (drop (i + 1) parts))) 0) ∙ ap (λ n. n + 1) made.made;
      at = append_assoc tuple (get_or (get_or parts i []) (rest / length (tuple_product (drop (i + 1) parts))) 0 ∷ []) (get_or (tuple_product (drop (i + 1) parts)) (rest % length (tuple_product (drop (i + 1) parts))) [])
          ∙ ap (λ others. tuple ++ others) (sym n.at)
          ∙ ap (λ parts. tuple ++ get_or (tuple_product parts) rest []) (sym (drop_more parts i [] l))
          ∙ made.at;
    })

pub IsMade-all : (parts : List (List ℕ)) (place i below rest : ℕ) (tuple : List ℕ) → length parts ≤ i → IsMade parts place i below rest tuple → tuple ≡ get_or (tuple_product parts) place []
IsMade-all parts place i below rest tuple l made =
    let none = drop_all i parts l in
    let one : below ≡ 1 = made.size ∙ ap (λ parts. length (tuple_product parts)) none in
    let w = made.within in
    let first : rest ≡ 0 = omega arith in
    sym (append-nil tuple) ∙ sym (ap (λ parts. tuple ++ get_or (tuple_product parts) rest []) none ∙ ap (λ n. tuple ++ get_or ([] ∷ []) n []) first) ∙ made.at
