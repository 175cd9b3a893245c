-- Rows, and linear programs, whose forms are over elements that pass a test, and whose own elements
-- have a property.
use Rattle.std.proofs.Common.{◌≡◌, ℕ, nat_lt, Bool, true, false, List, [], ◌∷◌, ◌++◌, map, Option, Some, None, Ok, Err, sym, ◌∙◌}
use Rattle.std.specs.Prelude.{flat_map, if◌then◌else◌}
use Rattle.std.specs.FinMap as finite
use Rattle.gms_labels.specs.declared.place.Place.{Place}
use Rattle.gq_number.specs.Number.{Number}
use Rattle.gms_ast.specs.declared.program.Stmt.{Stmt}
use Rattle.gms_store.specs.State.{State}
use Rattle.gms_eval.specs.Bindings.{Pairs, controlled}
use Rattle.gms_eval.specs.Faults.{◌and_then◌}
use Rattle.gms_eval.specs.Nodes.{in_order}
use Rattle.gms_eval.specs.Value.{domain, control_over}
use Rattle.gms_eval.specs.declared.stop.StopKind.TheVariants.{TooManyRows, TooManyColumns}
use Rattle.lp_core.specs.declared.program.Row.{Row}
use Rattle.lp_core.specs.declared.program.Lp.{Lp}
use Rattle.lp_core.specs.WellFormed.{standard_rows, standard_columns}
use Rattle.lp_form.specs.declared.key.Key.{Key}
use Rattle.gms_rows.specs.ModelPoints.{definitions_of_model}
use Rattle.gms_rows.specs.ProgramLp.{ordered_keys, column_keys, placed, program_of, sized_program, program_lp, too_many}
use Rattle.gms_rows.specs.Rows.{Definition, FormRow, distinct_numbers, sets_among, present_rows, row_under, rows_of_definition, rows_of_model}
use Rattle.gms_rows.proofs.ColumnKeys.{among-ordered}
use Rattle.gms_exec.specs.Solved as solved
use Rattle.gms_run_laws.proofs.FormKeys.{OkHas, EachHas, then-has, after-has, in_order-has, AreKeys, among-key, keys-from_among, IsKeyed}
use Rattle.gms_run_laws.proofs.RowElements.{columns-over}

module _ (test : Key → Bool) (Q : Key → Type 0) where
  -- ---- rows

  abbrev HasKeys : FormRow → Type 0
  HasKeys row = Q row.key × IsKeyed test row.form

  abbrev pub MayHaveKeys : Option FormRow → Type 0
  MayHaveKeys None = Unit {0}
  MayHaveKeys (Some row) = HasKeys row

  there-keyed : (rows : List (Option FormRow)) → EachHas MayHaveKeys rows → EachHas HasKeys (present_rows rows)
  there-keyed [] all = tt
  there-keyed (None ∷ rows) all = there-keyed rows all.1
  there-keyed (Some row ∷ rows) all = (all.0, there-keyed rows all.1)

  both-keyed : (rows others : List FormRow) → EachHas HasKeys rows → EachHas HasKeys others → EachHas HasKeys (rows ++ others)
  both-keyed [] others all more = more
  both-keyed (row ∷ rows) others all more = (all.0, both-keyed rows others all.1 more)

  joined-keyed : (all_rows : List (List FormRow)) → EachHas (EachHas HasKeys) all_rows → EachHas HasKeys (flat_map (λ some. some) all_rows)
  joined-keyed [] all = tt
  joined-keyed (rows ∷ all_rows) all = both-keyed rows (flat_map (λ some. some) all_rows) all.0 (joined-keyed all_rows all.1)

  -- ---- the linear program

  keys-of-rows : (rows : List FormRow) → EachHas HasKeys rows → AreKeys test (flat_map (λ (row : FormRow). finite.keys row.form.numbers) rows)
  keys-of-rows [] all = tt
  keys-of-rows (row ∷ rows) all = both (finite.keys row.form.numbers) all.0.1 (keys-of-rows rows all.1)
    where
      both : (keys : List Key) → AreKeys test keys → AreKeys test (flat_map (λ (row : FormRow). finite.keys row.form.numbers) rows) → AreKeys test (keys ++ flat_map (λ (row : FormRow). finite.keys row.form.numbers) rows)
      both [] one rest = rest
      both (key ∷ keys) one rest = (one.0, both keys one.1 rest)

  column-elements : (rows : List FormRow) (objective : Key) → EachHas HasKeys rows → test objective ≡ true → AreKeys test (column_keys rows objective)
  column-elements rows objective all is =
      let those = objective ∷ flat_map (λ (row : FormRow). finite.keys row.form.numbers) rows in
      keys-from_among test (ordered_keys those) (λ q there. among-key test those (is, keys-of-rows rows all) q (sym (among-ordered those q) ∙ there))

  -- its columns pass the test, and it holds of its rows
  abbrev pub IsOver : Lp Number → Type 0
  IsOver lp = AreKeys test (solved.keys_of_columns lp) × EachHas Q (solved.row_keys lp)

  rows-over : (keys : List Key) (rows : List FormRow) → EachHas HasKeys rows → EachHas Q (map (λ (row : Row Number). row.key) (map (placed keys) rows))
  rows-over keys [] all = tt
  rows-over keys (row ∷ rows) all = (all.0.0, rows-over keys rows all.1)

  sized-over : (at : Place) (lp : Lp Number) → IsOver lp → OkHas IsOver (sized_program at lp)
  sized-over at lp over = by (nat_lt 1500 (standard_rows lp)) (nat_lt 3000 (standard_columns lp))
    where
      by : (b c : Bool) → OkHas IsOver (if b then Err (too_many TooManyRows at (standard_rows lp)) else if c then Err (too_many TooManyColumns at (standard_columns lp)) else Ok lp)
      by true c = tt
      by false true = tt
      by false false = over

  -- ---- the rows of a model

  module _ {F : Type 0} (v : F → Number) (limit : ℕ) (state : State) where
    -- it holds of each row of a definition, under any labels of its sets
    abbrev pub HasRows : Definition F → Type 0
    HasRows d = (binding : Pairs) → OkHas MayHaveKeys (row_under v limit state d binding)

    each-row : (d : Definition F) → HasRows d → (sets : List ℕ) (elements : List (List ℕ)) → EachHas (OkHas MayHaveKeys) (map (λ element. row_under v limit state d (controlled [] sets element)) elements)
    each-row d each sets [] = tt
    each-row d each sets (element ∷ elements) = (each (controlled [] sets element), each-row d each sets elements)

    rows-keyed : (d : Definition F) → HasRows d → OkHas (EachHas HasKeys) (rows_of_definition v limit state d)
    rows-keyed d each =
        let sets = distinct_numbers (sets_among d.indices) in
        after-has (EachHas HasKeys) (domain v limit state [] d.at (control_over sets d.condition)) (λ elements. in_order (map (λ element. row_under v limit state d (controlled [] sets element)) elements) and_then λ rows. Ok (present_rows rows))
        (λ elements. then-has (EachHas MayHaveKeys) (EachHas HasKeys) (in_order (map (λ element. row_under v limit state d (controlled [] sets element)) elements)) (λ rows. Ok (present_rows rows))
        (in_order-has MayHaveKeys (map (λ element. row_under v limit state d (controlled [] sets element)) elements) (each-row d each sets elements))
        there-keyed)

    all-keyed : (ds : List (Definition F)) → EachHas HasRows ds → EachHas (OkHas (EachHas HasKeys)) (map (rows_of_definition v limit state) ds)
    all-keyed [] all = tt
    all-keyed (d ∷ ds) all = (rows-keyed d all.0, all-keyed ds all.1)

    model-keyed : (statements : List (Stmt F)) (model : ℕ) → EachHas HasRows (definitions_of_model statements model) → OkHas (EachHas HasKeys) (rows_of_model v limit state statements model)
    model-keyed statements model all =
        then-has (EachHas (EachHas HasKeys)) (EachHas HasKeys) (in_order (map (rows_of_definition v limit state) (definitions_of_model statements model))) (λ rows. Ok (flat_map (λ some. some) rows))
        (in_order-has (EachHas HasKeys) (map (rows_of_definition v limit state) (definitions_of_model statements model)) (all-keyed (definitions_of_model statements model) all)) joined-keyed

    pub program-keyed : (statements : List (Stmt F)) (model objective : ℕ) (maximize : Bool) (at : Place) → EachHas HasRows (definitions_of_model statements model) → test (record { symbol = objective; tuple = [] }) ≡ true → OkHas IsOver (program_lp v limit state statements model objective maximize at)
    program-keyed statements model objective maximize at all is =
        let key : Key = record { symbol = objective; tuple = [] } in
        then-has (EachHas HasKeys) IsOver (rows_of_model v limit state statements model) (λ rows. sized_program at (program_of state rows key maximize)) (model-keyed statements model all)
        (λ rows has. sized-over at (program_of state rows key maximize) (columns-over test state (column_keys rows key) (column-elements rows key has is), rows-over (column_keys rows key) rows has))
