-- The linear program of a solve: its columns are in order, its objective is one of them, and its
-- entries name them. Plans with given levels.
use mathlib.Core.Bool.{or-true}
use Rattle.std.proofs.Common.{◌≡◌, ℕ, nat_lt, ◌<◌, Bool, true, false, ◌||◌, cond, if◌then◌else◌, pos, List, [], ◌∷◌, length, map, Ok, Err, refl, sym, ap, ◌∙◌, subst, arith}
use Rattle.std.specs.Prelude.{flat_map}
use Rattle.std.specs.List.{All}
use Rattle.std.specs.FinMap as finite
use Rattle.std.specs.declared.cmp.Ordering.TheVariants.{Less}
use Rattle.std.proofs.lemmas.List.{length-map, get_or-map}
use Rattle.std.proofs.lemmas.List.Elements.{All-head, All-tail, All-map, All-weaker}
use Rattle.gq_number.specs.Number.{Number, whole}
use Rattle.gms_labels.specs.declared.place.Place.{Place}
use Rattle.gms_ast.specs.declared.program.Stmt.{Stmt}
use Rattle.gms_store.specs.State.{State}
use Rattle.gms_eval.specs.declared.stop.StopKind.TheVariants.{TooManyRows, TooManyColumns}
use Rattle.lp_core.specs.declared.program.Column.{Column}
use Rattle.lp_core.specs.declared.program.Row.{Row}
use Rattle.lp_core.specs.declared.program.Lp.{Lp}
use Rattle.lp_core.specs.Sums.{value_of_column}
use Rattle.lp_core.specs.WellFormed.{standard_rows, standard_columns}
use Rattle.lp_core.proofs.Duality.{IsPlaced}
use Rattle.lp_form.specs.declared.key.Key.{Key}
use Rattle.lp_form.specs.Keys.{key_cmp, same_key, AreOrdered}
use Rattle.lp_form.proofs.KeyOrder.{first-before, rest-ordered, same_key-Less, same_key_refl}
use Rattle.gms_rows.specs.InnerContracts.{is_among}
use Rattle.gms_rows.specs.ModelPoints.{column_elements}
use Rattle.gms_rows.specs.ProgramLp.{column_keys, column_of, place_of_key, placed, program_of, program_lp, sized_program, too_many}
use Rattle.gms_rows.specs.Rows.{FormRow, rows_of_model}
use Rattle.gms_rows.proofs.ColumnKeys.{among-ordered}
use Rattle.gms_rows.proofs.Domains.{given, only_value}
use Rattle.gms_rows.proofs.KeyLists.{keys-ordered}
use Rattle.gms_rows.proofs.Placing.{occurs-in_place, place-within}
use Rattle.gms_rows.proofs.Programs.{all-of_map, map-keeps, map-itself, keys-there}

-- What is known of the program of a solve.
pub record IsProgram (objective : Key) (maximize : Bool) (lp : Lp Number) : Type 0 where
  pub ordered : AreOrdered (column_elements lp)
  pub placed : IsPlaced lp
  -- the value of the objective's column is that of the objective
  pub level : (plan : Key → Number) → value_of_column (map plan (column_elements lp)) lp.objective ≡ plan objective
  pub direction : lp.maximize ≡ maximize

-- the columns' values in a plan are those of their elements
pub column-values : (plan : Key → Number) (columns : List (Column Number)) → map (λ (column : Column Number). plan column.key) columns ≡ map plan (map (λ (column : Column Number). column.key) columns)
column-values plan columns =
    sym (map-keeps (λ (column : Column Number). column.key) plan (λ (column : Column Number). plan column.key) (λ column. refl) columns)

-- ---- the program of rows

module _ (state : State) (rows : List FormRow) (objective : Key) (maximize : Bool) where
  abbrev all_columns : List Key
  all_columns = column_keys rows objective

  abbrev the_program : Lp Number
  the_program = program_of state rows objective maximize

  abbrev keys_in : FormRow → List Key
  keys_in row = finite.keys row.form.numbers

  abbrev all_keys : List Key
  all_keys = objective ∷ flat_map keys_in rows

  up : AreOrdered all_columns
  up = keys-ordered (finite.from_entries {R = key_cmp} (map (λ key. (key, true)) all_keys))

  columns-are : column_elements the_program ≡ all_columns
  columns-are =
      map-keeps (column_of state) (λ (column : Column Number). column.key) (λ (key : Key). key) (λ key. refl) all_columns ∙ map-itself (λ (key : Key). key) (λ key. refl) all_columns

  objective-there : is_among all_columns objective ≡ true
  objective-there = among-ordered all_keys objective ∙ ap (λ b. b || is_among (flat_map keys_in rows) objective) (same_key_refl objective)

  long : length the_program.columns ≡ length all_columns
  long = length-map all_columns (column_of state)

  -- the keys of a row are among those of the columns
  abbrev HasKeys : FormRow → Type 0
  HasKeys row = All (λ key. is_among all_columns key ≡ true) (keys_in row)

  rows-there : All HasKeys rows
  rows-there =
      All-weaker (λ row. All (λ key. is_among (flat_map keys_in rows) key ≡ true) (keys_in row)) HasKeys (λ row all. All-weaker (λ key. is_among (flat_map keys_in rows) key ≡ true) (λ key. is_among all_columns key ≡ true) (λ key there. among-ordered all_keys key ∙ ap (λ b. same_key key objective || b) there ∙ or-true (same_key key objective)) (keys_in row) all) rows (keys-there keys_in rows)

  abbrev EntriesThere : ℕ → Row Number → Type 0
  EntriesThere n row = All (λ (e : ℕ × Number). e.0 < n) row.entries

  row-placed : (row : FormRow) → HasKeys row → EntriesThere (length all_columns) (placed all_columns row)
  row-placed row there =
      let es = finite.entries row.form.numbers in
      All-map (λ (e : ℕ × Number). e.0 < length all_columns) (λ (entry : Key × Number). (place_of_key all_columns entry.0, entry.1)) es
      (All-weaker (λ (entry : Key × Number). is_among all_columns entry.0 ≡ true) (λ (entry : Key × Number). place_of_key all_columns entry.0 < length all_columns) (λ entry is. place-within all_columns up entry.0 is) es (all-of_map (λ (entry : Key × Number). entry.0) (λ key. is_among all_columns key ≡ true) es there))

  is-placed : IsPlaced the_program
  is-placed = record {
    objective = omega (arith, place-within all_columns up objective objective-there, long);
    entries = subst (λ (n : ℕ). All (EntriesThere n) the_program.rows) (sym long) (All-map (EntriesThere (length all_columns)) (placed all_columns) rows (All-weaker HasKeys (λ (row : FormRow). EntriesThere (length all_columns) (placed all_columns row)) row-placed rows rows-there));
  }

  objective-level : (plan : Key → Number) → value_of_column (map plan all_columns) (place_of_key all_columns objective) ≡ plan objective
  objective-level plan =
      let at = occurs-in_place all_columns up objective objective-there in
      get_or-map plan all_columns (place_of_key all_columns objective) objective (whole (pos 0)) at.0 ∙ ap plan (at.1 objective)

  made-known : IsProgram objective maximize the_program
  made-known = record {
    ordered = subst AreOrdered (sym columns-are) up;
    placed = is-placed;
    level = λ plan. ap (λ (ks : List Key). value_of_column (map plan ks) (place_of_key all_columns objective)) columns-are ∙ objective-level plan;
    direction = refl;
  }

sized-same : (at : Place) (made lp : Lp Number) → sized_program at made ≡ Ok lp → made ≡ lp
sized-same at made lp e = by (nat_lt 1500 (standard_rows made)) (nat_lt 3000 (standard_columns made)) e
  where
    by : (b c : Bool) → (if b then Err (too_many TooManyRows at (standard_rows made)) else if c then Err (too_many TooManyColumns at (standard_columns made)) else Ok made) ≡ Ok lp → made ≡ lp
    by true c e = absurd (cc)
    by false true e = absurd (cc)
    by false false e = only_value made lp e

-- The program of a solve is known so.
pub program-known : {F : Type 0} (v : F → Number) (limit : ℕ) (state : State) (statements : List (Stmt F)) (model objective : ℕ) (maximize : Bool) (at : Place) (lp : Lp Number) → program_lp v limit state statements model objective maximize at ≡ Ok lp → IsProgram (record { symbol = objective; tuple = [] }) maximize lp
program-known v limit state statements model objective maximize at lp e =
    let key : Key = record { symbol = objective; tuple = [] } in
    let one = given (rows_of_model v limit state statements model) (λ rows. sized_program at (program_of state rows key maximize)) lp e in
    subst (IsProgram key maximize) (sized-same at (program_of state one.value key maximize) lp one.next_is) (made-known state one.value key maximize)

-- ---- plans with given levels

-- the plan that has these levels at these elements, and 0 elsewhere
abbrev pub plan_at : List Key → List Number → Key → Number
plan_at [] levels key = whole (pos 0)
plan_at (k ∷ keys) [] key = whole (pos 0)
plan_at (k ∷ keys) (level ∷ levels) key = if same_key k key then level else plan_at keys levels key

-- plans that are the same at elements have the same levels there
same-levels : (plan other : Key → Number) (keys : List Key) → All (λ key. plan key ≡ other key) keys → map plan keys ≡ map other keys
same-levels plan other [] all = refl
same-levels plan other (k ∷ keys) all =
    let first = All-head (λ key. plan key ≡ other key) k keys all in
    let rest = same-levels plan other keys (All-tail (λ key. plan key ≡ other key) k keys all) in
    λ i. first i ∷ rest i

-- it has them
pub plan-levels : (keys : List Key) (levels : List Number) → AreOrdered keys → length levels ≡ length keys → map (plan_at keys levels) keys ≡ levels
plan-levels [] [] up same = refl
plan-levels [] (level ∷ levels) up same = absurd (omega (arith, same))
plan-levels (k ∷ keys) [] up same = absurd (omega (arith, same))
plan-levels (k ∷ keys) (level ∷ levels) up same =
    let plan = plan_at (k ∷ keys) (level ∷ levels) in
    let first : plan k ≡ level = ap (λ (b : Bool). cond b level (plan_at keys levels k)) (same_key_refl k) in
    let others = same-levels plan (plan_at keys levels) keys (All-weaker (λ l. key_cmp k l ≡ Less) (λ l. plan l ≡ plan_at keys levels l) (λ l less. ap (λ (b : Bool). cond b level (plan_at keys levels l)) (same_key-Less k l less)) keys (first-before k keys up)) in
    let rest = others ∙ plan-levels keys levels (rest-ordered k keys up) (omega (arith, same)) in
    λ i. first i ∷ rest i
