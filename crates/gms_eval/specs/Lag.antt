-- Lags and leads: from an element of an ordered set to an earlier or a later one (GAMS User's
-- Guide, "Sets as Sequences: Ordered Sets").
use Rattle.std.specs.Prelude.{ℕ, ℤ, pos, negsuc, ◌+ℤ◌, neg_ℤ, ◌==◌, List, [], ◌∷◌, length, slice_get, Option, Some, None, option_map, option_and_then, unwrap_or, if◌then◌else◌}
use Rattle.std.specs.Int.{int_rem_euclid}
use Rattle.gq_extended.specs.Extended.{Extended, number}
use Rattle.gms_ast.specs.declared.expression.LagOp.{LagOp}
use Rattle.gms_ast.specs.declared.expression.LagOp.TheVariants.{Lead, Lag, CircularLead, CircularLag}
use Rattle.gms_tuple.specs.TupleSet.{place_of_tuple}

-- the label of an element of a one-dimensional set, its first; 0 if it has none
abbrev pub label_of_element : List ℕ → ℕ
label_of_element element = unwrap_or (slice_get element 0) 0

-- the label of the member at an index, from 0; None before the first and past the last member
abbrev pub label_at : List (List ℕ) → ℤ → Option ℕ
label_at members (pos place) = option_map label_of_element (slice_get members place)
label_at members (negsuc n) = None

-- the index `place` modulo the number of members
abbrev pub around : List (List ℕ) → ℤ → ℤ
around members place = int_rem_euclid place (pos (length members))

-- the label of the member that is `amount` members after the index `place` for a lead, or before it
-- for a lag. Beyond an end of the set a circular lead or lag continues at the other end, and any
-- other reaches no label (None)
abbrev pub moved : List (List ℕ) → LagOp → ℤ → ℤ → Option ℕ
moved members Lead amount place = label_at members (place +ℤ amount)
moved members Lag amount place = label_at members (place +ℤ neg_ℤ amount)
moved members CircularLead amount place = label_at members (around members (place +ℤ amount))
moved members CircularLag amount place = label_at members (around members (place +ℤ neg_ℤ amount))

-- the label that a lead or a lag of `amount` members reaches from a label (`moved`); None from a
-- label that the set lacks and, if `op` is not circular, beyond an end of the set
abbrev pub lagged_label : List (List ℕ) → LagOp → ℤ → ℕ → Option ℕ
lagged_label members op amount label =
    option_and_then (λ place. moved members op amount (pos place)) (place_of_tuple members (label ∷ []))

-- the integer that equals a value; None if the value is not an integer
abbrev pub whole_number : Extended → Option ℤ
whole_number (number x) = if x.denominator == 1 then Some x.numerator else None
whole_number value = None
