-- A tree over values as the tree over the numbers that they mean.
use Rattle.gms_ast.specs.Trees.{Tree, number, plus_infinity, not_available, yes, no, reference, place_in_set, size_of_set, call, fold_over, negated, sum, product, power, relation, not_so, all_of, one_of, guarded, Parts, no_part, part, Indices, no_index, label, set, lagged, Control, over, over_where}

module _ {F N : Type 0} (value : F → N) where
  abbrev mutual
    -- the tree with each number v replaced by `value v`
    pub in_numbers : Tree F → Tree N
    in_numbers (number v) = number (value v)
    in_numbers plus_infinity = plus_infinity
    in_numbers not_available = not_available
    in_numbers yes = yes
    in_numbers no = no
    in_numbers (reference at name suffix indices) = reference at name suffix (indices_in_numbers indices)
    in_numbers (place_in_set at name) = place_in_set at name
    in_numbers (size_of_set at name) = size_of_set at name
    in_numbers (call at function arguments) = call at function (parts_in_numbers arguments)
    in_numbers (fold_over at op control body) = fold_over at op (control_in_numbers control) (in_numbers body)
    in_numbers (negated operand) = negated (in_numbers operand)
    in_numbers (sum parts) = sum (parts_in_numbers parts)
    in_numbers (product parts) = product (parts_in_numbers parts)
    in_numbers (power parts) = power (parts_in_numbers parts)
    in_numbers (relation parts) = relation (parts_in_numbers parts)
    in_numbers (not_so operand) = not_so (in_numbers operand)
    in_numbers (all_of parts) = all_of (parts_in_numbers parts)
    in_numbers (one_of parts) = one_of (parts_in_numbers parts)
    in_numbers (guarded operand guards) = guarded (in_numbers operand) (parts_in_numbers guards)

    pub parts_in_numbers : Parts F → Parts N
    parts_in_numbers no_part = no_part
    parts_in_numbers (part mark tree rest) = part mark (in_numbers tree) (parts_in_numbers rest)

    pub indices_in_numbers : Indices F → Indices N
    indices_in_numbers no_index = no_index
    indices_in_numbers (label n rest) = label n (indices_in_numbers rest)
    indices_in_numbers (set name rest) = set name (indices_in_numbers rest)
    indices_in_numbers (lagged name op at amount rest) = lagged name op at (in_numbers amount) (indices_in_numbers rest)

    pub control_in_numbers : Control F → Control N
    control_in_numbers (over sets) = over sets
    control_in_numbers (over_where sets condition) = over_where sets (in_numbers condition)
