-- The names that are declared, in order, each with its domain set (GAMS User's Guide, "Set
-- Definition", domain checking).
use Rattle.std.specs.Prelude.{ℕ, Bool, ◌==◌, nat_lt, List, [], ◌∷◌, map, Option, Some, None, if◌then◌else◌}
use Rattle.std.specs.List.{list_any}

-- the declared names in the order of their declarations, one entry for each declaration: the name,
-- and for a one-dimensional set its domain set or None; None for any other name
abbrev pub DeclarationList : Type 0
DeclarationList = List (ℕ × Option ℕ)

-- the names of a list of declarations
abbrev pub names_of_entries : DeclarationList → List ℕ
names_of_entries entries = map (λ (e : ℕ × Option ℕ). e.0) entries

-- the domain set of a one-dimensional set, as its first declaration has it; None if there is none
abbrev pub above_of : DeclarationList → ℕ → Option ℕ
above_of [] name = None
above_of (first ∷ entries) name = if first.0 == name then first.1 else above_of entries name

-- whether a name occurs in a list of declarations
abbrev pub is_entered : DeclarationList → ℕ → Bool
is_entered entries name = list_any (λ (e : ℕ × Option ℕ). e.0 == name) entries

-- the set, if one is given and it occurs in the list of declarations; otherwise None
abbrev pub among : DeclarationList → Option ℕ → Option ℕ
among entries None = None
among entries (Some name) = if is_entered entries name then Some name else None

-- what one declaration of `name` appends to the list: the name with the set `above` as its domain
-- set, or with None if `above` is None or is not in the list; nothing if `name` is no number below
-- `names`, the number of names of the program
abbrev pub entry : ℕ → DeclarationList → ℕ → Option ℕ → DeclarationList
entry names entries name above = if nat_lt name names then (name, among entries above) ∷ [] else []
