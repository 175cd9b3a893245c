-- The linear program that a solve means in a state (GAMS User's Guide, "Model and Solve
-- Statements"). How large it may be is this project's own rule.
use Rattle.std.specs.Prelude.{ℕ, nat_lt, min, Bool, true, List, [], ◌∷◌, map, flat_map, position, unwrap_or, Ok, Err, if◌then◌else◌}
use Rattle.std.specs.FinMap as finite
use Rattle.gms_labels.specs.declared.place.Place.{Place}
use Rattle.gq_number.specs.Number.{Number, neg_ℚ}
use Rattle.gms_ast.specs.declared.program.Stmt.{Stmt}
use Rattle.gms_store.specs.State.{State, attributes_of}
use Rattle.gms_eval.specs.Domain.{most_counted}
use Rattle.gms_eval.specs.Faults.{Answer, Fault, nothing, ◌and_then◌}
use Rattle.gms_eval.specs.declared.stop.StopKind.{StopKind}
use Rattle.gms_eval.specs.declared.stop.StopKind.TheVariants.{TooManyRows, TooManyColumns}
use Rattle.lp_core.specs.declared.program.Column.{Column}
use Rattle.lp_core.specs.declared.program.Row.{Row}
use Rattle.lp_core.specs.declared.program.Lp.{Lp}
use Rattle.lp_core.specs.WellFormed.{standard_rows, standard_columns}
use Rattle.lp_form.specs.declared.key.Key.{Key}
use Rattle.lp_form.specs.Keys.{key_cmp, same_key}
use Rattle.gms_rows.specs.Rows.{FormRow, rows_of_model}

-- these keys in ascending order, without repetition
abbrev pub ordered_keys : List Key → List Key
ordered_keys keys = finite.keys (finite.from_entries {R = key_cmp} (map (λ key. (key, true)) keys))

-- the keys of the columns: the elements that occur in some row, and the objective
abbrev pub column_keys : List FormRow → Key → List Key
column_keys rows objective = ordered_keys (objective ∷ flat_map (λ row. finite.keys row.form.numbers) rows)

-- the position of a key in a list of keys, from 0; 0 if it is not listed
abbrev pub place_of_key : List Key → Key → ℕ
place_of_key keys key = unwrap_or (position (same_key key) keys) 0

-- the column of an element of a variable, with the bounds that it has in the state
abbrev pub column_of : State → Key → Column Number
column_of state key =
    record { key = key; lower = (attributes_of state key.symbol key.tuple).lower; upper = (attributes_of state key.symbol key.tuple).upper }

-- a row of the linear program, where `keys` has the keys of the columns: each number of the form
-- with its column, and on the right side the negated constant of the form
abbrev pub placed : List Key → FormRow → Row Number
placed keys row =
    record { key = row.key; sense = row.sense; right = neg_ℚ row.form.constant; entries = map (λ entry. (place_of_key keys entry.0, entry.1)) (finite.entries row.form.numbers) }

-- the linear program that has these rows, the columns of their elements and of `objective` with the
-- bounds in the state, and `objective` to maximize, or, if `maximize` is false, to minimize
abbrev pub program_of : State → List FormRow → Key → Bool → Lp Number
program_of state rows objective maximize =
    let keys = column_keys rows objective in
    record { columns = map (column_of state) keys; rows = map (placed keys) rows; objective = place_of_key keys objective; maximize = maximize }

-- ---- the size of its standard form

-- the fault of too many rows or columns at a solve; the reported count is at most 2^64 - 1
-- (`most_counted`)
abbrev pub too_many : StopKind → Place → ℕ → Fault
too_many kind at count =
    record { kind = kind; at = at; binding = []; left = nothing; right = nothing; count = min count most_counted }

-- the linear program, or a fault at the place of the solve: TooManyRows if the standard form has
-- over 1,500 rows, else TooManyColumns if it has over 3,000 variables, slacks not counted
abbrev pub sized_program : Place → Lp Number → Answer (Lp Number)
sized_program at lp =
    if nat_lt 1500 (standard_rows lp) then Err (too_many TooManyRows at (standard_rows lp)) else
    if nat_lt 3000 (standard_columns lp) then Err (too_many TooManyColumns at (standard_columns lp)) else
    Ok lp

-- The linear program of a solve at a place, in a state, to maximize if `maximize` is true, else to
-- minimize: the rows of the model, and the objective, a variable without indices. Or the first
-- fault; the last sought is too many rows or columns (`sized_program`). `number_of` gives the
-- number that a value of `F` means; `limit` bounds the size of numbers.
abbrev pub program_lp : {F : Type 0} → (F → Number) → ℕ → State → List (Stmt F) → ℕ → ℕ → Bool → Place → Answer (Lp Number)
program_lp number_of limit state statements model objective maximize at =
    rows_of_model number_of limit state statements model and_then λ rows. sized_program at (program_of state rows (record { symbol = objective; tuple = [] }) maximize)
