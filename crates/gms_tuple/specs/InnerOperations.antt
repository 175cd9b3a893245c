-- Operations on two sets of tuples, by which of the sets a tuple is a member of.
use Rattle.std.specs.Prelude.{ℕ, Bool, true, false, not, ◌||◌, ◌&&◌, List, [], ◌∷◌}
use Rattle.std.specs.Ordering.{is_lt, is_gt}
use Rattle.gms_tuple.specs.TupleOrder.{tuple_cmp}
use Rattle.gms_tuple.specs.declared.merge.Operation.{Operation}
use Rattle.gms_tuple.specs.declared.merge.Operation.TheVariants.{Union, Difference, Intersection}

-- whether a tuple is a member of the result, by whether it is one of the first set and of the
-- second
abbrev pub takes : Operation → Bool → Bool → Bool
takes Union first second = first || second
takes Difference first second = first && not second
takes Intersection first second = first && second

-- whether the next tuple of two ordered lists is the first of each
abbrev pub turn : List (List ℕ) → List (List ℕ) → Bool × Bool
turn [] [] = (false, false)
turn (x ∷ xs) [] = (true, false)
turn [] (y ∷ ys) = (false, true)
turn (x ∷ xs) (y ∷ ys) = (not (is_gt (tuple_cmp x y)), not (is_lt (tuple_cmp x y)))
