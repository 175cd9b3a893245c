-- Products of lists of labels (GAMS User's Guide, "Set Definition", sets over several sets).
use Rattle.std.specs.Prelude.{ℕ, List, [], ◌∷◌, map}
use Rattle.std.specs.List.{flat_map}

-- from a list of labels for each position, the tuples with one of these labels at each position;
-- the last position varies fastest
abbrev pub tuple_product : List (List ℕ) → List (List ℕ)
tuple_product [] = [] ∷ []
tuple_product (labels ∷ rest) = flat_map (λ label. map (λ tuple. label ∷ tuple) (tuple_product rest)) labels
