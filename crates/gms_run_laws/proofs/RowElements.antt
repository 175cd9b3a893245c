-- Rows, and linear programs, over elements that pass a test.
use Rattle.std.proofs.Common.{◌≡◌, nat_lt, Bool, true, false, List, [], ◌∷◌, ◌++◌, map, Option, Some, None, Ok, Err, sym, ◌∙◌}
use Rattle.std.specs.Prelude.{flat_map, if◌then◌else◌}
use Rattle.std.specs.FinMap as finite
use Rattle.gms_labels.specs.declared.place.Place.{Place}
use Rattle.gq_number.specs.Number.{Number}
use Rattle.gms_store.specs.State.{State}
use Rattle.gms_eval.specs.declared.stop.StopKind.TheVariants.{TooManyRows, TooManyColumns}
use Rattle.lp_core.specs.declared.program.Column.{Column}
use Rattle.lp_core.specs.declared.program.Row.{Row}
use Rattle.lp_core.specs.declared.program.Lp.{Lp}
use Rattle.lp_core.specs.WellFormed.{standard_rows, standard_columns}
use Rattle.lp_form.specs.declared.key.Key.{Key}
use Rattle.gms_rows.specs.ProgramLp.{ordered_keys, column_keys, column_of, placed, sized_program, too_many}
use Rattle.gms_rows.specs.Rows.{FormRow, present_rows}
use Rattle.gms_rows.proofs.ColumnKeys.{among-ordered}
use Rattle.gms_exec.specs.Solved as solved
use Rattle.gms_run_laws.proofs.FormKeys.{OkHas, EachHas, AreKeys, among-key, keys-from_among, IsKeyed}

module _ (test : Key → Bool) where
  -- ---- rows

  abbrev pub HasKeys : FormRow → Type 0
  HasKeys row = (test row.key ≡ true) × IsKeyed test row.form

  abbrev pub MayHaveKeys : Option FormRow → Type 0
  MayHaveKeys None = Unit {0}
  MayHaveKeys (Some row) = HasKeys row

  pub there-keyed : (rows : List (Option FormRow)) → EachHas MayHaveKeys rows → EachHas HasKeys (present_rows rows)
  there-keyed [] all = tt
  there-keyed (None ∷ rows) all = there-keyed rows all.1
  there-keyed (Some row ∷ rows) all = (all.0, there-keyed rows all.1)

  both-keyed : (rows others : List FormRow) → EachHas HasKeys rows → EachHas HasKeys others → EachHas HasKeys (rows ++ others)
  both-keyed [] others all more = more
  both-keyed (row ∷ rows) others all more = (all.0, both-keyed rows others all.1 more)

  pub joined-keyed : (all_rows : List (List FormRow)) → EachHas (EachHas HasKeys) all_rows → EachHas HasKeys (flat_map (λ some. some) all_rows)
  joined-keyed [] all = tt
  joined-keyed (rows ∷ all_rows) all = both-keyed rows (flat_map (λ some. some) all_rows) all.0 (joined-keyed all_rows all.1)

  -- ---- the linear program

  row-elements : (rows : List FormRow) → EachHas HasKeys rows → AreKeys test (flat_map (λ (row : FormRow). finite.keys row.form.numbers) rows)
  row-elements [] all = tt
  row-elements (row ∷ rows) all = both (finite.keys row.form.numbers) all.0.1 (row-elements rows all.1)
    where
      both : (keys : List Key) → AreKeys test keys → AreKeys test (flat_map (λ (row : FormRow). finite.keys row.form.numbers) rows) → AreKeys test (keys ++ flat_map (λ (row : FormRow). finite.keys row.form.numbers) rows)
      both [] one rest = rest
      both (key ∷ keys) one rest = (one.0, both keys one.1 rest)

  pub column-elements : (rows : List FormRow) (objective : Key) → EachHas HasKeys rows → test objective ≡ true → AreKeys test (column_keys rows objective)
  column-elements rows objective all is =
      let those = objective ∷ flat_map (λ (row : FormRow). finite.keys row.form.numbers) rows in
      keys-from_among test (ordered_keys those) (λ q there. among-key test those (is, row-elements rows all) q (sym (among-ordered those q) ∙ there))

  -- its columns and its rows are such
  abbrev pub IsOver : Lp Number → Type 0
  IsOver lp = AreKeys test (solved.keys_of_columns lp) × AreKeys test (solved.row_keys lp)

  pub columns-over : (state : State) (keys : List Key) → AreKeys test keys → AreKeys test (map (λ (column : Column Number). column.key) (map (column_of state) keys))
  columns-over state [] all = tt
  columns-over state (key ∷ keys) all = (all.0, columns-over state keys all.1)

  pub rows-over : (keys : List Key) (rows : List FormRow) → EachHas HasKeys rows → AreKeys test (map (λ (row : Row Number). row.key) (map (placed keys) rows))
  rows-over keys [] all = tt
  rows-over keys (row ∷ rows) all = (all.0.0, rows-over keys rows all.1)

  pub sized-over : (at : Place) (lp : Lp Number) → IsOver lp → OkHas IsOver (sized_program at lp)
  sized-over at lp over = by (nat_lt 1500 (standard_rows lp)) (nat_lt 3000 (standard_columns lp))
    where
      by : (b c : Bool) → OkHas IsOver (if b then Err (too_many TooManyRows at (standard_rows lp)) else if c then Err (too_many TooManyColumns at (standard_columns lp)) else Ok lp)
      by true c = tt
      by false true = tt
      by false false = over
