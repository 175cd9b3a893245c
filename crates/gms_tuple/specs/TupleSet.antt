-- Sets of tuples; the view of each is the ordered list of its members.
use Rattle.std.specs.Prelude.{ℕ, Bool, not, ◌||◌, ◌&&◌, List, ◌∷◌, ◌++◌, filter, count_by, Option, position, if◌then◌else◌}
use Rattle.std.specs.List.{list_any}
use Rattle.gms_tuple.specs.TupleOrder.{is_before, same_tuple, begins_with}

-- whether a tuple is a member
abbrev pub has : List (List ℕ) → List ℕ → Bool
has members tuple = list_any (λ member. same_tuple member tuple) members

-- the index of a tuple in the list of members, from 0; None if it is no member
abbrev pub place_of_tuple : List (List ℕ) → List ℕ → Option ℕ
place_of_tuple members tuple = position (λ member. same_tuple member tuple) members

-- the members with the tuple inserted in order; unchanged if it is a member already
abbrev pub inserted : List (List ℕ) → List ℕ → List (List ℕ)
inserted members tuple =
    if has members tuple then members else filter (λ member. is_before member tuple) members ++ tuple ∷ filter (λ member. is_before tuple member) members

-- the members other than the tuple
abbrev pub removed : List (List ℕ) → List ℕ → List (List ℕ)
removed members tuple = filter (λ member. not (same_tuple member tuple)) members

-- the members that are not in the set `others`
abbrev pub set_difference : List (List ℕ) → List (List ℕ) → List (List ℕ)
set_difference members others = filter (λ member. not (has others member)) members

-- the members that are in the set `others` too
abbrev pub intersection : List (List ℕ) → List (List ℕ) → List (List ℕ)
intersection members others = filter (λ member. has others member) members

-- how many members come before the tuple `prefix` in the order of tuples
abbrev pub count_before : List (List ℕ) → List ℕ → ℕ
count_before members prefix = count_by (λ member. is_before member prefix) members

-- how many members begin with the labels of `prefix`
abbrev pub count_with : List (List ℕ) → List ℕ → ℕ
count_with members prefix = count_by (λ member. begins_with member prefix) members

-- whether a member comes before the tuple `prefix` or, if `through`, begins with its labels
abbrev pub is_within : Bool → List ℕ → List ℕ → Bool
is_within through prefix member = is_before member prefix || (through && begins_with member prefix)

-- the members that begin with the labels of `prefix`, in the order of the list of members
abbrev pub those_with : List (List ℕ) → List ℕ → List (List ℕ)
those_with members prefix = filter (λ member. begins_with member prefix) members
