-- Finite sums of exact numbers over lists (Graham, Knuth and Patashnik, Concrete Mathematics,
-- chapter 2), and inner products of lists and rows (any text on linear algebra).
use Rattle.std.specs.Prelude.{pos, List, [], ◌∷◌, map}
use Rattle.gq_number.specs.Number.{Number, whole, ◌+ℚ◌, ◌*ℚ◌}

-- the sum of f over the elements of a list; 0 over none
unfoldable pub sum_by_ℚ : {X : Type 0} → (X → Number) → List X → Number
sum_by_ℚ f [] = whole (pos 0)
sum_by_ℚ f (x ∷ xs) = f x +ℚ sum_by_ℚ f xs

-- the sum of the numbers of a list
abbrev pub sum_ℚ : List Number → Number
sum_ℚ xs = sum_by_ℚ (λ x. x) xs

-- the inner product: the sum of the products of the numbers at the same position; a number that
-- only the longer list has counts for nothing
unfoldable pub inner_ℚ : List Number → List Number → Number
inner_ℚ [] ys = whole (pos 0)
inner_ℚ (x ∷ xs) [] = whole (pos 0)
inner_ℚ (x ∷ xs) (y ∷ ys) = x *ℚ y +ℚ inner_ℚ xs ys

-- each number of a list times k
unfoldable pub scaled : Number → List Number → List Number
scaled k xs = map (λ x. k *ℚ x) xs

-- two lists added position by position; what the shorter list lacks counts as 0
unfoldable pub added : List Number → List Number → List Number
added [] ys = ys
added (x ∷ xs) [] = x ∷ xs
added (x ∷ xs) (y ∷ ys) = (x +ℚ y) ∷ added xs ys

-- the linear combination of rows: the sum of the rows, each times the factor at its position in the
-- first list; a factor without a row and a row without a factor count for nothing
unfoldable pub combined : List Number → List (List Number) → List Number
combined [] rows = []
combined (y ∷ ys) [] = []
combined (y ∷ ys) (row ∷ rows) = added (scaled y row) (combined ys rows)

-- the product of a matrix, which the rows are, and a list: the inner product of each row with the
-- list
unfoldable pub applied : List (List Number) → List Number → List Number
applied rows xs = map (λ row. inner_ℚ row xs) rows
