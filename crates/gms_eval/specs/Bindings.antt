-- The labels that controlled sets have within folds, loops and assignments (GAMS User's Guide,
-- "Data Manipulations with Parameters", indexed assignments, controlled indices).
use Rattle.std.specs.Prelude.{ℕ, List, [], ◌∷◌, ◌++◌, Option, Some, None, if◌then◌else◌, ◌==◌}

-- a binding: controlled sets, by the numbers of their names, each with its label, outermost first
abbrev pub Pairs : Type 0
Pairs = List (ℕ × ℕ)

-- the label of a set in a binding: that of the first pair with its name; None if no pair has it
abbrev pub label_of : Pairs → ℕ → Option ℕ
label_of [] set = None
label_of (pair ∷ pairs) set = if pair.0 == set then Some pair.1 else label_of pairs set

-- each of the sets with the label at its position in an element, up to the end of the shorter list
abbrev pub paired : List ℕ → List ℕ → Pairs
paired (set ∷ sets) (label ∷ labels) = (set, label) ∷ paired sets labels
paired sets labels = []

-- the binding followed by these sets, each with the label at its position in an element
abbrev pub controlled : Pairs → List ℕ → List ℕ → Pairs
controlled pairs sets element = pairs ++ paired sets element
