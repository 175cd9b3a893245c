-- The ranges of right sides and costs at a final dictionary (Chvatal, Linear Programming, chapter
-- 10).
use Rattle.std.specs.Prelude.{◌≡◌, ℕ, ◌+◌, Bool, true, not, pos, List, [], ◌∷◌, map, filter, length, Option, Some, None, is_some}
use Rattle.std.specs.List.{enumerate_from, range_with_len}
use Rattle.gq_number.specs.Number.{Number, whole, ◌-ℚ◌, neg_ℚ}
use Rattle.lp_core.specs.declared.answer.Pivot.{Pivot}
use Rattle.lp_core.specs.declared.answer.Answer.{Answer}
use Rattle.lp_core.specs.declared.answer.End.TheVariants.{Optimal}
use Rattle.lp_core.specs.declared.answer.Rule.TheVariants.{Legal}
use Rattle.lp_core.specs.declared.program.Sense.{Sense}
use Rattle.lp_core.specs.declared.program.Sense.TheVariants as sense
use Rattle.lp_core.specs.declared.program.Row.{Row}
use Rattle.lp_core.specs.declared.program.Lp.{Lp}
use Rattle.lp_core.specs.Feasible.{bound_value}
use Rattle.lp_core.specs.DualBound.{objective_costs}
use Rattle.lp_core.specs.StandardForm.{standard_form, Shift, from_lower, from_upper, free, directed, columns_of, variables_of, rows_of_sense}
use Rattle.lp_core.specs.Dictionary.{Dictionary, first_dictionary, constant_at, entry_at}
use Rattle.lp_core.specs.Steps.{difference_fits}
use Rattle.lp_core.specs.Pivots.{row_of_basic, change_by_row, ByRule, LeadsWithin}
use Rattle.lp_range.specs.declared.interval.Interval.{Interval}
use Rattle.lp_range.specs.Spans.{Gain, Span, span}

-- the end of the answer is Optimal
abbrev pub IsOptimum : {F : Type 0} → Answer F → Type 0
IsOptimum {F} answer = (levels row_levels duals reduced : List F) × (answer.end ≡ Optimal levels row_levels duals reduced)

-- these legal pivots lead from the first dictionary of a program to the dictionary `last`, and no
-- step exceeds the limit on the size of numbers; the first of them is pivot 1
abbrev pub LeadTo : {F : Type 0} → (F → Number) → ℕ → Lp F → List Pivot → Dictionary → Type 0
LeadTo value limit lp pivots last = LeadsWithin (ByRule Legal) limit 1 [] (first_dictionary (standard_form value lp)) pivots last

-- an interval with its ends as the numbers that they mean
abbrev pub interval_value : {F : Type 0} → (F → Number) → Interval F → Span
interval_value value interval = record { low = bound_value value interval.low; high = bound_value value interval.high }

-- an interval, if any, with its ends as the numbers that they mean
abbrev pub span_value : {F : Type 0} → (F → Number) → Option (Interval F) → Option Span
span_value value None = None
span_value value (Some interval) = Some (interval_value value interval)

module _ (limit : ℕ) (d : Dictionary) where
  -- The constant of row k of the dictionary, and how much it rises if the right side of a row of
  -- the program rises by 1; v is the first slack of that row. For `=l=` this is the slack's
  -- coefficient in row k, for `=g=` that negated, for an equation the difference of the
  -- coefficients of its two slacks, and for `=n=` it is 0. Only the difference can exceed the limit
  -- on the size of numbers (`fits`).
  abbrev pub right_gain : Sense → ℕ → ℕ → Gain
  right_gain sense.E v k =
      record { amount = constant_at d k; each = entry_at d k v -ℚ entry_at d k (v + 1); fits = difference_fits limit (entry_at d k v) (entry_at d k (v + 1)) }
  right_gain sense.L v k = record { amount = constant_at d k; each = entry_at d k v; fits = true }
  right_gain sense.G v k = record { amount = constant_at d k; each = neg_ℚ (entry_at d k v); fits = true }
  right_gain sense.N v k = record { amount = constant_at d k; each = whole (pos 0); fits = true }

  -- the constants of the dictionary's rows, without the objective, and how they change with the
  -- right side of one row of the program (`right_gain`): s is the sense of this row, such as `=l=`,
  -- and v its first slack
  abbrev pub right_gains : Sense → ℕ → List Gain
  right_gains s v = map (right_gain s v) (range_with_len 0 (length d.basic))

  -- for each of these rows of the program, the values that its right side may take while the
  -- constant of each row of the dictionary, the objective excepted, remains at least 0, or None if
  -- a step exceeds the limit on the size of numbers; v is the first slack of the first row
  abbrev pub right_spans : {F : Type 0} → (F → Number) → ℕ → List (Row F) → List (Option Span)
  right_spans value v [] = []
  right_spans value v (row ∷ rows) = span limit (value row.right) (right_gains row.sense v) ∷ right_spans value (v + rows_of_sense row.sense) rows

  -- the variables that are not basic, without variable 0, the artificial one
  abbrev pub nonbasic_variables : List ℕ
  nonbasic_variables = filter (λ v. not (is_some (row_of_basic d v))) (range_with_len 1 d.variables)

  -- by how much variable v changes if q, which is not basic, rises by 1
  abbrev pub change : ℕ → ℕ → Number
  change q v = change_by_row d q v (row_of_basic d v)

  -- by how much a column's value changes if the nonbasic variable q rises by 1. The column is given
  -- by the number v of its first variable and by its shift, how variables express it: a bound plus
  -- variable v (`from_lower`), a bound less variable v (`from_upper`), or variable v less variable
  -- v + 1 (`free`)
  abbrev pub column_change : ℕ × Shift → ℕ → Number
  column_change (v, from_lower b) q = change q v
  column_change (v, from_upper b) q = neg_ℚ (change q v)
  column_change (v, free) q = change q v -ℚ change q (v + 1)

  -- whether the step that computes by how much a column changes as q rises by 1 stays within the
  -- limit on the size of numbers: the difference for a free column, which has two variables; other
  -- columns need no step
  abbrev pub column_change_fits : ℕ × Shift → ℕ → Bool
  column_change_fits (v, from_lower b) q = true
  column_change_fits (v, from_upper b) q = true
  column_change_fits (v, free) q = difference_fits limit (change q v) (change q (v + 1))

  -- The amount is the negated coefficient of variable q in the objective: how far q is from
  -- entering. `each` is its change per unit of the cost of column c: the change of the column as q
  -- rises by 1, negated when maximizing. c is the first variable of the column and its shift.
  abbrev pub cost_gain : Bool → ℕ × Shift → ℕ → Gain
  cost_gain maximize c q =
      record { amount = neg_ℚ (entry_at d (length d.basic) q); each = neg_ℚ (directed maximize (column_change c q)); fits = column_change_fits c q }

  -- for each nonbasic variable except variable 0: how far it is from entering, and how this changes
  -- with the cost of column c, per unit; c is the first variable of the column and its shift, and
  -- `maximize` is whether the program maximizes
  abbrev pub cost_gains : Bool → ℕ × Shift → List Gain
  cost_gains maximize c = map (cost_gain maximize c) nonbasic_variables

-- The range of each row's right side: the values that it may take while the constant of each row of
-- the dictionary remains at least 0. None if a step exceeds the limit on the size of numbers. The
-- first slack follows the `variables_of` variables of the columns, which are numbered from 1.
abbrev pub rights : {F : Type 0} → (F → Number) → ℕ → Lp F → Dictionary → List (Option Span)
rights value limit lp d = right_spans limit d value (variables_of value lp + 1) lp.rows

-- for each of these columns, given by its first variable and its shift, the values that its cost
-- may take while no variable improves, or None if a step exceeds the limit on the size of numbers.
-- j is the number of the first column
abbrev pub cost_spans : {F : Type 0} → ℕ → Dictionary → Lp F → ℕ → List (ℕ × Shift) → List (Option Span)
cost_spans limit d lp j columns =
    map (λ (p : ℕ × (ℕ × Shift)). span limit (objective_costs lp p.0) (cost_gains limit d lp.maximize p.1)) (enumerate_from j columns)

-- The ranges of costs, one for each column: the values that the column's cost, which is 1 for the
-- objective column and 0 for any other, may take while no variable improves in the dictionary d.
-- None if a step exceeds the limit on the size of numbers.
abbrev pub costs : {F : Type 0} → (F → Number) → ℕ → Lp F → Dictionary → List (Option Span)
costs value limit lp d = cost_spans limit d lp 0 (columns_of value lp)
