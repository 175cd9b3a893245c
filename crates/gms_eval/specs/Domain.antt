-- The domain of a fold, a loop or an assignment: the elements of the product of its sets whose
-- condition holds (GAMS User's Guide, "Data Manipulations with Parameters", indexed operations;
-- "Conditional Expressions, Assignments and Equations", dollar control). How large a product may be
-- is this project's own rule.
use Rattle.std.specs.Prelude.{◌≡◌, ℕ, nat_lt, nat_le, min, Bool, true, List, [], ◌∷◌, length, map, Ok, Err, if◌then◌else◌}
use Rattle.gms_labels.specs.declared.place.Place.{Place}
use Rattle.gms_tuple.specs.TupleOrder.{IsOrdered}
use Rattle.gms_tuple.specs.TupleSet.{has}
use Rattle.gms_tuple.specs.Products.{tuple_product}
use Rattle.gms_store.specs.State.{State, members_of}
use Rattle.gms_eval.specs.Bindings.{Pairs}
use Rattle.gms_eval.specs.Faults.{Answer, Fault, nothing, ◌and_then◌}
use Rattle.gms_eval.specs.Lag.{label_of_element}
use Rattle.gms_eval.specs.declared.stop.StopKind.TheVariants.{DomainSize}

-- the labels of the members of a one-dimensional set, in the order in which the state lists the
-- members
abbrev pub labels_of : State → ℕ → List ℕ
labels_of state set = map label_of_element (members_of state set)

-- each member of the set has one label, and the members are distinct and ascend by the numbers of
-- their labels
abbrev pub IsSimple : State → ℕ → Type 0
IsSimple state set =
    IsOrdered (members_of state set) × ((member : List ℕ) → has (members_of state set) member ≡ true → length member ≡ 1)

-- the elements of the product of sets; the label of the last set varies fastest. An element has at
-- most 10 labels, so the product of more sets is empty
abbrev pub elements : State → List ℕ → List (List ℕ)
elements state sets = if nat_le (length sets) 10 then tuple_product (map (labels_of state) sets) else []

-- how many elements the product of the sets of a domain may have at most
abbrev pub most_elements : ℕ
most_elements = 16777216

-- the greatest number of elements that a fault reports: the greatest `u64`
abbrev pub most_counted : ℕ
most_counted = 18446744073709551615

-- the fault DomainSize, at a place and under a binding, of a domain whose product has `count`
-- elements; it reports at most the greatest `u64`
abbrev pub too_large : Place → Pairs → ℕ → Fault
too_large at binding count =
    record { kind = DomainSize; at = at; binding = binding; left = nothing; right = nothing; count = min count most_counted }

-- the elements `those` of a product; the fault DomainSize if there are more than `most_elements`
abbrev pub sized : Place → Pairs → List (List ℕ) → Answer (List (List ℕ))
sized at binding those = if nat_lt most_elements (length those) then Err (too_large at binding (length those)) else Ok those

-- the elements for which the test holds, in their order, or the first fault of a test
abbrev pub those_where : (List ℕ → Answer Bool) → List (List ℕ) → Answer (List (List ℕ))
those_where test [] = Ok []
those_where test (element ∷ rest) =
    test element and_then λ holds. those_where test rest and_then λ others. Ok (if holds then element ∷ others else others)
