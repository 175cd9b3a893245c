-- The one order of tuples: label by label, a proper prefix first.
use Rattle.std.specs.Prelude.{ℕ, Bool, List, nat_eq}
use Rattle.std.specs.declared.cmp.Ordering.{Ordering}
use Rattle.std.specs.Ordering.{nat_cmp, is_lt}
use Rattle.std.specs.Cmp.Lexicographic.{slice_cmp, pointwise}
use Rattle.std.specs.List.{starts_with}
use Rattle.std.specs.List.Sorted.{IsStrictlySortedBy}

-- how two tuples compare: by the first labels that differ, and a proper prefix comes first
abbrev pub tuple_cmp : List ℕ → List ℕ → Ordering
tuple_cmp a b = slice_cmp nat_cmp a b

-- whether the first tuple comes before the second
abbrev pub is_before : List ℕ → List ℕ → Bool
is_before a b = is_lt (tuple_cmp a b)

-- whether two tuples have the same length and at each position the same label
abbrev pub same_tuple : List ℕ → List ℕ → Bool
same_tuple a b = pointwise nat_eq a b

-- whether a tuple begins with all labels of `prefix`, in their order
abbrev pub begins_with : List ℕ → List ℕ → Bool
begins_with tuple prefix = starts_with nat_eq tuple prefix

-- the tuples are distinct and in order: each comes before those after it
abbrev pub IsOrdered : List (List ℕ) → Type 0
IsOrdered tuples = IsStrictlySortedBy tuple_cmp tuples
