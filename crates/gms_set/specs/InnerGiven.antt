-- How the tuples that were given are recorded.
use Rattle.std.specs.Prelude.{ℕ, ◌≡◌, List, Option, Some, None}
use Rattle.gms_tuple.specs.TupleOrder.{IsOrdered}
use Rattle.gms_tuple.specs.TupleSet.{has}

-- the tuples are in order, or there is a set that has exactly them
abbrev pub AreGiven : Option (List (List ℕ)) → List (List ℕ) → Type 0
AreGiven None tuples = IsOrdered tuples
AreGiven (Some seen) tuples = (tuple : List ℕ) → has seen tuple ≡ has tuples tuple
