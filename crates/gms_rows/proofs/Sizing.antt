-- How large the standard form of a program is, by its rows and columns over any field.
use Rattle.std.proofs.Common.{◌≡◌, ℕ, ◌<◌, ◌≤◌, min, nat_lt, lt-ltb, le-ltb, Bool, if◌then◌else◌, List, [], ◌∷◌, map, length, Option, Some, None, Ok, Err, refl, ap, ◌∙◌, arith}
use Rattle.std.specs.Prelude.{sum_by}
use Rattle.std.proofs.lemmas.List.Sums.{sum_by-cons}
use Rattle.gq_number.specs.Number.{Number}
use Rattle.gms_labels.specs.declared.place.Place.{Place}
use Rattle.gms_eval.specs.Domain.{most_counted}
use Rattle.gms_eval.specs.Faults.{Answer, Fault, nothing}
use Rattle.gms_eval.specs.Gives.{Shows, ShowsStop}
use Rattle.gms_eval.specs.declared.stop.StopKind.{StopKind}
use Rattle.gms_eval.specs.declared.stop.StopKind.TheVariants.{TooManyRows, TooManyColumns}
use Rattle.gms_eval.specs.declared.stop.ExecStopOrMemory.{ExecStopOrMemory}
use Rattle.gms_eval.specs.declared.stop.ExecStopOrMemory.TheVariants.{Memory, Fault as Stop}
use Rattle.lp_form.specs.declared.key.Key.{Key}
use Rattle.lp_core.specs.Feasible.{bound_value}
use Rattle.lp_core.specs.Numbers.{column_numbers, row_numbers}
use Rattle.lp_core.specs.WellFormed.{rows_of_sense, rows_of_bounds, variables_of_bounds, standard_rows, standard_columns}
use Rattle.lp_core.specs.declared.program.Column.{Column}
use Rattle.lp_core.specs.declared.program.Row.{Row}
use Rattle.lp_core.specs.declared.program.Lp.{Lp}
use Rattle.gms_rows.specs.Rows.{FormRow}
use Rattle.gms_rows.specs.declared.form_row.FormRow.{FormRow as OwnRow}
use Rattle.gms_rows.specs.ProgramLp.{placed, too_many, sized_program}
use Rattle.gms_rows.specs.InnerContracts.{form_row_in}

-- a sum over a mapped list
sum_by-map : {X Y : Type 0} (f : Y → ℕ) (m : X → Y) (g : X → ℕ) → ((x : X) → f (m x) ≡ g x) → (xs : List X) → sum_by f (map m xs) ≡ sum_by g xs
sum_by-map f m g same [] = refl
sum_by-map f m g same (x ∷ xs) =
    let first = sum_by-cons f (m x) (map m xs) in
    let second = sum_by-cons g x xs in
    let rest = sum_by-map f m g same xs in
    let at = same x in omega (arith, first, second, rest, at)

-- at least as many variables as columns
at_least_one : {X : Type 0} (f : X → ℕ) → ((x : X) → 1 ≤ f x) → (xs : List X) → length xs ≤ sum_by f xs
at_least_one f some [] = omega arith
at_least_one f some (x ∷ xs) =
    let first = sum_by-cons f x xs in
    let rest = at_least_one f some xs in
    let at = some x in omega (arith, first, rest, at)

module _ {F : Type 0} (v : F → Number) where
  -- there are as many bounds as their numbers
  rows-bounds : (lower upper : Option F) → rows_of_bounds (bound_value v lower) (bound_value v upper) ≡ rows_of_bounds lower upper
  rows-bounds None None = refl
  rows-bounds None (Some u) = refl
  rows-bounds (Some l) None = refl
  rows-bounds (Some l) (Some u) = refl

  variables-bounds : (lower upper : Option F) → variables_of_bounds (bound_value v lower) (bound_value v upper) ≡ variables_of_bounds lower upper
  variables-bounds None None = refl
  variables-bounds None (Some u) = refl
  variables-bounds (Some l) None = refl
  variables-bounds (Some l) (Some u) = refl

  pub bounds-shown : (columns : List (Column F)) → sum_by (λ (column : Column Number). rows_of_bounds column.lower column.upper) (map (column_numbers v) columns) ≡ sum_by (λ (column : Column F). rows_of_bounds column.lower column.upper) columns
  bounds-shown columns =
      sum_by-map (λ (column : Column Number). rows_of_bounds column.lower column.upper) (column_numbers v) (λ (column : Column F). rows_of_bounds column.lower column.upper) (λ column. rows-bounds column.lower column.upper) columns

  pub variables-shown : (columns : List (Column F)) → sum_by (λ (column : Column Number). variables_of_bounds column.lower column.upper) (map (column_numbers v) columns) ≡ sum_by (λ (column : Column F). variables_of_bounds column.lower column.upper) columns
  variables-shown columns =
      sum_by-map (λ (column : Column Number). variables_of_bounds column.lower column.upper) (column_numbers v) (λ (column : Column F). variables_of_bounds column.lower column.upper) (λ column. variables-bounds column.lower column.upper) columns

  -- placed rows have as many standard rows as the rows that they are made of
  pub senses-placed : (keys : List Key) (rows : List (OwnRow F)) → sum_by (λ (row : Row Number). rows_of_sense row.sense) (map (placed keys) (map (form_row_in v) rows)) ≡ sum_by (λ (row : OwnRow F). rows_of_sense row.sense) rows
  senses-placed keys rows =
      sum_by-map (λ (row : Row Number). rows_of_sense row.sense) (placed keys) (λ (row : FormRow). rows_of_sense row.sense) (λ row. refl) (map (form_row_in v) rows)
      ∙ sum_by-map (λ (row : FormRow). rows_of_sense row.sense) (form_row_in v) (λ (row : OwnRow F). rows_of_sense row.sense) (λ row. refl) rows

  pub senses-shown : (rows : List (Row F)) → sum_by (λ (row : Row Number). rows_of_sense row.sense) (map (row_numbers v) rows) ≡ sum_by (λ (row : Row F). rows_of_sense row.sense) rows
  senses-shown rows =
      sum_by-map (λ (row : Row Number). rows_of_sense row.sense) (row_numbers v) (λ (row : Row F). rows_of_sense row.sense) (λ row. refl) rows

  some_variables : (lower upper : Option F) → 1 ≤ variables_of_bounds lower upper
  some_variables None None = omega arith
  some_variables None (Some u) = omega arith
  some_variables (Some l) None = omega arith
  some_variables (Some l) (Some u) = omega arith

  pub columns-counted : (columns : List (Column F)) → length columns ≤ sum_by (λ (column : Column F). variables_of_bounds column.lower column.upper) columns
  columns-counted columns =
      at_least_one (λ (column : Column F). variables_of_bounds column.lower column.upper) (λ column. some_variables column.lower column.upper) columns

-- ---- programs that are too large

-- a stop that shows a fault stops an answer that is this fault
shows-stops : {F A : Type 0} (v : F → Number) (stop : ExecStopOrMemory F) (answer : Answer A) (fault : Fault) → answer ≡ Err fault → Shows v stop fault → ShowsStop v stop answer
shows-stops v Memory answer fault e s = tt
shows-stops v (Stop stop) answer fault e s = e ∙ ap Err s

-- the fault of a count
abbrev counted_fault : StopKind → Place → ℕ → Fault
counted_fault kind at count = record { kind = kind; at = at; binding = []; left = nothing; right = nothing; count = count }

module _ {F : Type 0} (v : F → Number) (at : Place) (lp : Lp Number) (rows columns : ℕ) (rows-are : standard_rows lp ≡ rows) (columns-are : standard_columns lp ≡ columns) where
  abbrev by_columns : Bool → Answer (Lp Number)
  by_columns b = if b then Err (too_many TooManyColumns at (standard_columns lp)) else Ok lp

  abbrev by_rows : Bool → Answer (Lp Number)
  by_rows b = if b then Err (too_many TooManyRows at (standard_rows lp)) else by_columns (nat_lt 3000 (standard_columns lp))

  few-rows : rows ≤ 1500 → sized_program at lp ≡ by_columns (nat_lt 3000 (standard_columns lp))
  few-rows few = ap by_rows (le-ltb 1500 (standard_rows lp) (omega (arith, few, rows-are)))

  -- too many rows
  pub sized-rows : (count : ℕ) (stop : ExecStopOrMemory F) → count ≡ min rows most_counted → 1500 < count → Shows v stop (record { kind = TooManyRows; at = at; binding = []; left = nothing; right = nothing; count = count }) → ShowsStop v stop (sized_program at lp)
  sized-rows count stop is more s =
      let counted : min (standard_rows lp) most_counted ≡ count = omega (arith, is, rows-are) in
      shows-stops v stop (sized_program at lp) (counted_fault TooManyRows at count) (ap by_rows (lt-ltb 1500 (standard_rows lp) (omega (arith, is, more, rows-are))) ∙ ap (λ n. Err (counted_fault TooManyRows at n)) counted) s

  -- too many columns
  pub sized-columns : rows ≤ 1500 → (count : ℕ) (stop : ExecStopOrMemory F) → count ≡ min columns most_counted → 3000 < count → Shows v stop (record { kind = TooManyColumns; at = at; binding = []; left = nothing; right = nothing; count = count }) → ShowsStop v stop (sized_program at lp)
  sized-columns few count stop is more s =
      let counted : min (standard_columns lp) most_counted ≡ count = omega (arith, is, columns-are) in
      shows-stops v stop (sized_program at lp) (counted_fault TooManyColumns at count) (few-rows few ∙ ap by_columns (lt-ltb 3000 (standard_columns lp) (omega (arith, is, more, columns-are))) ∙ ap (λ n. Err (counted_fault TooManyColumns at n)) counted) s

  -- neither
  pub sized-few : rows ≤ 1500 → columns ≤ 3000 → sized_program at lp ≡ Ok lp
  sized-few few less =
      few-rows few ∙ ap by_columns (le-ltb 3000 (standard_columns lp) (omega (arith, less, columns-are)))
