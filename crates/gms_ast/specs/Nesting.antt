-- The nesting of a tree.
use Rattle.std.specs.Prelude.{ℕ, ◌+◌, max, min}
use Rattle.gms_ast.specs.Trees.{Tree, number, plus_infinity, not_available, yes, no, reference, place_in_set, size_of_set, call, fold_over, negated, sum, product, power, relation, not_so, all_of, one_of, guarded, Parts, no_part, part, Indices, no_index, label, set, lagged, Control, over, over_where}

-- a number, capped at the greatest `u32`
abbrev pub capped : ℕ → ℕ
capped n = min n 4294967295

abbrev mutual
  -- the nesting of a tree: one more than the greatest nesting of its subtrees, so 1 without
  -- subtrees; the amounts of lags and the conditions of folds, such as `sum`, are subtrees too
  pub nesting : {N : Type 0} → Tree N → ℕ
  nesting (number n) = 1
  nesting plus_infinity = 1
  nesting not_available = 1
  nesting yes = 1
  nesting no = 1
  nesting (reference at name suffix indices) = deepest_amount indices + 1
  nesting (place_in_set at name) = 1
  nesting (size_of_set at name) = 1
  nesting (call at function args) = deepest args + 1
  nesting (fold_over at op control body) = max (condition_nesting control) (nesting body) + 1
  nesting (negated operand) = nesting operand + 1
  nesting (sum parts) = deepest parts + 1
  nesting (product parts) = deepest parts + 1
  nesting (power parts) = deepest parts + 1
  nesting (relation parts) = deepest parts + 1
  nesting (not_so operand) = nesting operand + 1
  nesting (all_of parts) = deepest parts + 1
  nesting (one_of parts) = deepest parts + 1
  nesting (guarded operand guards) = max (nesting operand) (deepest guards) + 1

  -- the greatest nesting of the trees of some parts, or 0 without parts
  pub deepest : {N : Type 0} → Parts N → ℕ
  deepest no_part = 0
  deepest (part mark tree rest) = max (nesting tree) (deepest rest)

  -- the greatest nesting of the amounts of lags among the indices, or 0 without lags
  pub deepest_amount : {N : Type 0} → Indices N → ℕ
  deepest_amount no_index = 0
  deepest_amount (label n rest) = deepest_amount rest
  deepest_amount (set name rest) = deepest_amount rest
  deepest_amount (lagged name op at amount rest) = max (nesting amount) (deepest_amount rest)

  -- the nesting of the condition of a fold, such as `sum`, or of a loop; 0 without a condition
  pub condition_nesting : {N : Type 0} → Control N → ℕ
  condition_nesting (over sets) = 0
  condition_nesting (over_where sets condition) = nesting condition
