-- A finite map from tuples in two parts: a tree, and the appended part, whose tuples came after all
-- those of the tree at the time.
use Rattle.std.specs.Prelude.{◌≡◌, ℕ, ◌<◌, List, [], ◌∷◌, length, slice_index_or, Option, Some, None}
use Rattle.std.specs.FinMap as finite
use Rattle.gms_store.specs.State.{Entries}

-- a map with a value at a tuple, or with none there
abbrev pub written : {X : Type 0} → Option X → Entries X → List ℕ → Entries X
written (Some x) entries t = finite.insert entries t x
written None entries t = finite.remove entries t

-- the map of both parts: a tuple of the appended part has the value there, if any, and each other
-- tuple that of the tree
abbrev pub in_two_parts : {X : Type 0} → List (List ℕ × Option X) → List (List ℕ × X) → Entries X
in_two_parts [] tree = finite.from_entries tree
in_two_parts (e ∷ following) tree = written e.1 (in_two_parts following tree) e.0

-- a tuple is at a place of the appended part
abbrev pub IsAtPlace : {X : Type 0} → List (List ℕ × Option X) → ℕ → List ℕ → Type 0
IsAtPlace {X} following place t = (place < length following) × ((d : List ℕ × Option X) → (slice_index_or following place d).0 ≡ t)
