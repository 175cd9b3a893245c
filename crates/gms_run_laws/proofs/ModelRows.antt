-- In states that agree on the names in the definitions of a model it has the same linear program,
-- which is over elements of such names.
use Rattle.std.proofs.Common.{◌≡◌, ℕ, Bool, true, false, not, ◌==◌, cond, List, [], ◌∷◌, ◌++◌, map, filter, Option, Some, None, Ok, Err, refl, ap, ◌∙◌}
use Rattle.std.specs.Prelude.{flat_map}
use Rattle.std.proofs.Math.Path.{fun_ext}
use Rattle.gms_labels.specs.declared.place.Place.{Place}
use Rattle.gq_number.specs.Number.{Number}
use Rattle.gms_ast.specs.declared.program.Stmt.{Stmt}
use Rattle.gms_ast.specs.Trees as tree
use Rattle.gms_store.specs.State.{State, Attributes}
use Rattle.gms_eval.specs.Nodes.{in_order}
use Rattle.gms_eval.specs.Bindings.{Pairs, controlled}
use Rattle.gms_eval.specs.Faults.{Answer, ◌and_then◌}
use Rattle.gms_eval.specs.References.{tuple_of}
use Rattle.gms_eval.specs.Value.{labels, domain, control_over}
use Rattle.lp_core.specs.declared.program.Column.{Column}
use Rattle.lp_form.specs.declared.key.Key.{Key}
use Rattle.gms_rows.specs.Affine.{affine}
use Rattle.gms_rows.specs.Forms.{Form, sum_of_forms}
use Rattle.gms_rows.specs.ModelPoints.{definitions_of_model}
use Rattle.gms_rows.specs.ProgramLp.{column_keys, column_of, placed, place_of_key, program_of, sized_program, program_lp}
use Rattle.gms_rows.specs.Rows.{Definition, FormRow, distinct_numbers, sets_among, sense_of, present_rows, row_form, row_under, rows_of_definition, rows_of_model}
use Rattle.gms_run_laws.specs.Agreeing.{AgreeOn}
use Rattle.gms_run_laws.specs.Names.{Each, names_in_tree, index_names, condition_names, definition_names}
use Rattle.gms_run_laws.proofs.Eaches.{each-left, each-right}
use Rattle.gms_run_laws.proofs.FormKeys.{OkHas, EachHas, then-has, in_order-has, AreKeys, IsKeyed, IsElement, Passes, affine-keyed, sum-keyed, of_name, ok-any, each-any, element-named, names-pass}
use Rattle.gms_run_laws.proofs.Linear.{affine-same}
use Rattle.gms_run_laws.proofs.RowElements.{HasKeys, MayHaveKeys, there-keyed, joined-keyed, column-elements, columns-over, rows-over, IsOver, sized-over}
use Rattle.gms_run_laws.proofs.Values.{attributes-same, indices-same, where-same}

-- ---- the sets of indices

module _ (test : ℕ → Bool) where
  pub filter-each : (p : ℕ → Bool) (ns : List ℕ) → Each test ns → Each test (filter p ns)
  filter-each p [] all = tt
  filter-each p (n ∷ ns) all = by (p n) (filter-each p ns all.1)
    where
      by : (b : Bool) → Each test (filter p ns) → Each test (cond b (n ∷ filter p ns) (filter p ns))
      by true rest = (all.0, rest)
      by false rest = rest

  once-each : (ns : List ℕ) → Each test ns → Each test (distinct_numbers ns)
  once-each [] all = tt
  once-each (n ∷ ns) all = (all.0, filter-each (λ m. not (m == n)) (distinct_numbers ns) (once-each ns all.1))

  among-each : {F : Type 0} (indices : tree.Indices F) → Each test (index_names indices) → Each test (sets_among indices)
  among-each tree.no_index all = tt
  among-each (tree.label label rest) all = among-each rest all
  among-each (tree.set set rest) all = (all.0, among-each rest all.1)
  among-each (tree.lagged set op at amount rest) all =
      (all.0, among-each rest (each-right test (names_in_tree amount) (index_names rest) all.1))

  pub sets-each : {F : Type 0} (indices : tree.Indices F) → Each test (index_names indices) → Each test (distinct_numbers (sets_among indices))
  sets-each indices all = once-each (sets_among indices) (among-each indices all)

-- ---- rows

-- What is known of the names in a definition.
record Parts {F : Type 0} (test : ℕ → Bool) (d : Definition F) : Type 0 where
  equation : test d.equation ≡ true
  indices : Each test (index_names d.indices)
  condition : Each test (condition_names d.condition)
  left : Each test (names_in_tree d.left)
  right : Each test (names_in_tree d.right)

parts-of : {F : Type 0} (test : ℕ → Bool) (d : Definition F) → Each test (definition_names d) → Parts test d
parts-of test d all =
    let one = each-right test (index_names d.indices) (condition_names d.condition ++ (names_in_tree d.left ++ names_in_tree d.right)) all.1 in
    let two = each-right test (condition_names d.condition) (names_in_tree d.left ++ names_in_tree d.right) one in
    record {
      equation = all.0;
      indices = each-left test (index_names d.indices) (condition_names d.condition ++ (names_in_tree d.left ++ names_in_tree d.right)) all.1;
      condition = each-left test (condition_names d.condition) (names_in_tree d.left ++ names_in_tree d.right) one;
      left = each-left test (names_in_tree d.left) (names_in_tree d.right) two;
      right = each-right test (names_in_tree d.left) (names_in_tree d.right) two;
    }

-- the elements of a definition, and of the references in its sides, pass for each element of its
-- domain
module _ (ok : Key → Bool) {F : Type 0} (v : F → Number) (limit : ℕ) (state : State) where
  abbrev pub RowPasses : Definition F → Pairs → Type 0
  RowPasses d binding =
      OkHas (λ those. IsElement ok d.equation (tuple_of those)) (in_order (labels v limit state binding d.indices)) × (Passes ok v limit state binding d.left × Passes ok v limit state binding d.right)

  abbrev pub DefinitionPasses : Definition F → Type 0
  DefinitionPasses d =
      let sets = distinct_numbers (sets_among d.indices) in
      OkHas (EachHas (λ element. RowPasses d (controlled [] sets element))) (domain v limit state [] d.at (control_over sets d.condition))

  row-keyed : (d : Definition F) (binding : Pairs) → RowPasses d binding → OkHas (MayHaveKeys ok) (row_under v limit state d binding)
  row-keyed d binding passes =
      then-has (λ those. IsElement ok d.equation (tuple_of those)) (MayHaveKeys ok) (in_order (labels v limit state binding d.indices)) (λ those. elim (tuple_of those) [
        | None ↦ Ok None
        | Some t ↦ row_form v limit state d binding and_then λ form. Ok (Some (record { key = record { symbol = d.equation; tuple = t }; sense = sense_of d.side; form = form }))
      ]) passes.0 (λ those is. by (tuple_of those) is)
    where
      by : (o : Option (List ℕ)) → IsElement ok d.equation o → OkHas (MayHaveKeys ok) (elim o [
        | None ↦ Ok None
        | Some t ↦ row_form v limit state d binding and_then λ form. Ok (Some (record { key = record { symbol = d.equation; tuple = t }; sense = sense_of d.side; form = form }))
      ])
      by None is = tt
      by (Some t) is =
          then-has (IsKeyed ok) (MayHaveKeys ok) (row_form v limit state d binding) (λ form. Ok (Some (record { key = record { symbol = d.equation; tuple = t }; sense = sense_of d.side; form = form })))
          (then-has (IsKeyed ok) (IsKeyed ok) (affine v limit state d.left_at binding d.left) (λ left. affine v limit state d.right_at binding d.right and_then λ right. sum_of_forms limit d.right_at binding true left right) (affine-keyed ok v limit state d.left d.left_at binding passes.1.0)
          (λ left one. then-has (IsKeyed ok) (IsKeyed ok) (affine v limit state d.right_at binding d.right) (λ right. sum_of_forms limit d.right_at binding true left right) (affine-keyed ok v limit state d.right d.right_at binding passes.1.1) (λ right other. sum-keyed ok limit d.right_at binding true left right one other)))
          (λ form keyed. (is, keyed))

  each-row : (d : Definition F) (sets : List ℕ) (elements : List (List ℕ)) → EachHas (λ element. RowPasses d (controlled [] sets element)) elements → EachHas (OkHas (MayHaveKeys ok)) (map (λ element. row_under v limit state d (controlled [] sets element)) elements)
  each-row d sets [] all = tt
  each-row d sets (element ∷ elements) all = (row-keyed d (controlled [] sets element) all.0, each-row d sets elements all.1)

  definition-keyed : (d : Definition F) → DefinitionPasses d → OkHas (EachHas (HasKeys ok)) (rows_of_definition v limit state d)
  definition-keyed d passes =
      let sets = distinct_numbers (sets_among d.indices) in
      then-has (EachHas (λ element. RowPasses d (controlled [] sets element))) (EachHas (HasKeys ok)) (domain v limit state [] d.at (control_over sets d.condition)) (λ elements. in_order (map (λ element. row_under v limit state d (controlled [] sets element)) elements) and_then λ rows. Ok (present_rows rows)) passes
      (λ elements all. then-has (EachHas (MayHaveKeys ok)) (EachHas (HasKeys ok)) (in_order (map (λ element. row_under v limit state d (controlled [] sets element)) elements)) (λ rows. Ok (present_rows rows))
      (in_order-has (MayHaveKeys ok) (map (λ element. row_under v limit state d (controlled [] sets element)) elements) (each-row d sets elements all))
      (there-keyed ok))

  definitions-keyed : (ds : List (Definition F)) → EachHas DefinitionPasses ds → EachHas (OkHas (EachHas (HasKeys ok))) (map (rows_of_definition v limit state) ds)
  definitions-keyed [] all = tt
  definitions-keyed (d ∷ ds) all = (definition-keyed d all.0, definitions-keyed ds all.1)

  model-keyed : (statements : List (Stmt F)) (model : ℕ) → EachHas DefinitionPasses (definitions_of_model statements model) → OkHas (EachHas (HasKeys ok)) (rows_of_model v limit state statements model)
  model-keyed statements model all =
      then-has (EachHas (EachHas (HasKeys ok))) (EachHas (HasKeys ok)) (in_order (map (rows_of_definition v limit state) (definitions_of_model statements model))) (λ rows. Ok (flat_map (λ some. some) rows))
      (in_order-has (EachHas (HasKeys ok)) (map (rows_of_definition v limit state) (definitions_of_model statements model)) (definitions-keyed (definitions_of_model statements model) all)) (joined-keyed ok)

  -- the linear program of a model of such definitions is over elements that pass
  pub program-keyed : (statements : List (Stmt F)) (model objective : ℕ) (maximize : Bool) (at : Place) → EachHas DefinitionPasses (definitions_of_model statements model) → ok (record { symbol = objective; tuple = [] }) ≡ true → OkHas (IsOver ok) (program_lp v limit state statements model objective maximize at)
  program-keyed statements model objective maximize at all is =
      let key : Key = record { symbol = objective; tuple = [] } in
      then-has (EachHas (HasKeys ok)) (IsOver ok) (rows_of_model v limit state statements model) (λ rows. sized_program at (program_of state rows key maximize)) (model-keyed statements model all)
      (λ rows has. sized-over ok at (program_of state rows key maximize) (columns-over ok state (column_keys rows key) (column-elements ok rows key has is), rows-over ok (column_keys rows key) rows has))

module _ (test : ℕ → Bool) {F : Type 0} (v : F → Number) (limit : ℕ) where
  module _ (one other : State) (agree : AgreeOn test one other) where
    module _ (d : Definition F) (parts : Parts test d) where
      form-same : (binding : Pairs) → row_form v limit other d binding ≡ row_form v limit one d binding
      form-same binding =
          ap (λ (x : Answer Form). x and_then λ left. affine v limit other d.right_at binding d.right and_then λ right. sum_of_forms limit d.right_at binding true left right) (affine-same test one other agree v limit d.left parts.left d.left_at binding)
          ∙ ap (λ (x : Answer Form). affine v limit one d.left_at binding d.left and_then λ left. x and_then λ right. sum_of_forms limit d.right_at binding true left right) (affine-same test one other agree v limit d.right parts.right d.right_at binding)

      abbrev under : Answer (List (Option ℕ)) → Answer Form → Answer (Option FormRow)
      under those form =
          those and_then λ those. elim (tuple_of those) [
            | None ↦ Ok None
            | Some t ↦ form and_then λ form. Ok (Some (record { key = record { symbol = d.equation; tuple = t }; sense = sense_of d.side; form = form }))
          ]

      row-same : (binding : Pairs) → row_under v limit other d binding ≡ row_under v limit one d binding
      row-same binding =
          ap (λ ls. under (in_order ls) (row_form v limit other d binding)) (indices-same test one other agree v limit d.indices parts.indices binding)
          ∙ ap (under (in_order (labels v limit one binding d.indices))) (form-same binding)

      abbrev over_all : Answer (List (List ℕ)) → (List ℕ → Answer (Option FormRow)) → Answer (List FormRow)
      over_all elements row = elements and_then λ elements. in_order (map row elements) and_then λ rows. Ok (present_rows rows)

      definition-same : rows_of_definition v limit other d ≡ rows_of_definition v limit one d
      definition-same =
          let sets = distinct_numbers (sets_among d.indices) in
          ap (λ (elements : Answer (List (List ℕ))). over_all elements (λ element. row_under v limit other d (controlled [] sets element))) (where-same test one other agree v limit sets d.condition (sets-each test d.indices parts.indices) parts.condition [] d.at)
          ∙ ap (over_all (domain v limit one [] d.at (control_over sets d.condition))) (fun_ext (λ element. row-same (controlled [] sets element)))

    definitions-same : (ds : List (Definition F)) → Each test (flat_map definition_names ds) → map (rows_of_definition v limit other) ds ≡ map (rows_of_definition v limit one) ds
    definitions-same [] all = refl
    definitions-same (d ∷ ds) all =
        ap (λ (rows : Answer (List FormRow)). rows ∷ map (rows_of_definition v limit other) ds) (definition-same d (parts-of test d (each-left test (definition_names d) (flat_map definition_names ds) all)))
        ∙ ap (λ (all_rows : List (Answer (List FormRow))). rows_of_definition v limit one d ∷ all_rows) (definitions-same ds (each-right test (definition_names d) (flat_map definition_names ds) all))

  -- where the names in definitions pass, so do their elements
  row-named : (state : State) (d : Definition F) → Parts test d → (binding : Pairs) → RowPasses (of_name test) v limit state d binding
  row-named state d parts binding =
      (ok-any (λ those. IsElement (of_name test) d.equation (tuple_of those)) (in_order (labels v limit state binding d.indices)) (λ those. element-named test v limit state d.equation (tuple_of those) parts.equation), (names-pass test v limit state d.left parts.left binding, names-pass test v limit state d.right parts.right binding))

  definitions-named : (state : State) (ds : List (Definition F)) → Each test (flat_map definition_names ds) → EachHas (DefinitionPasses (of_name test) v limit state) ds
  definitions-named state [] all = tt
  definitions-named state (d ∷ ds) all =
      let parts = parts-of test d (each-left test (definition_names d) (flat_map definition_names ds) all) in
      let sets = distinct_numbers (sets_among d.indices) in (
        ok-any (EachHas (λ element. RowPasses (of_name test) v limit state d (controlled [] sets element))) (domain v limit state [] d.at (control_over sets d.condition))
            (each-any (λ element. RowPasses (of_name test) v limit state d (controlled [] sets element)) (λ element. row-named state d parts (controlled [] sets element))),
        definitions-named state ds (each-right test (definition_names d) (flat_map definition_names ds) all),
      )

  -- ---- the linear program

  pub program-over : (state : State) (statements : List (Stmt F)) (model objective : ℕ) (maximize : Bool) (at : Place) → Each test (flat_map definition_names (definitions_of_model statements model)) → test objective ≡ true → OkHas (IsOver (of_name test)) (program_lp v limit state statements model objective maximize at)
  program-over state statements model objective maximize at all is =
      program-keyed (of_name test) v limit state statements model objective maximize at (definitions-named state (definitions_of_model statements model) all) is

  columns-same : (one other : State) → AgreeOn test one other → (keys : List Key) → AreKeys (of_name test) keys → map (column_of other) keys ≡ map (column_of one) keys
  columns-same one other agree [] all = refl
  columns-same one other agree (key ∷ keys) all =
      ap (λ (a : Attributes). record { key = key; lower = a.lower; upper = a.upper } ∷ map (column_of other) keys) (attributes-same test one other agree key.symbol all.0 key.tuple)
      ∙ ap (λ (columns : List (Column Number)). column_of one key ∷ columns) (columns-same one other agree keys all.1)

  -- if an answer has a property, the step after it may be replaced by one that is equal on that
  -- property
  then-same : {A B : Type 0} (P : A → Type 0) (a : Answer A) (next after : A → Answer B) → OkHas P a → ((x : A) → P x → next x ≡ after x) → (a and_then next) ≡ (a and_then after)
  then-same P (Ok x) next after has each = each x has
  then-same P (Err fault) next after has each = refl

  pub program-same : (one other : State) → AgreeOn test one other → (statements others : List (Stmt F)) (model objective : ℕ) (maximize : Bool) (at : Place) → definitions_of_model others model ≡ definitions_of_model statements model → Each test (flat_map definition_names (definitions_of_model statements model)) → test objective ≡ true →
      program_lp v limit other others model objective maximize at ≡ program_lp v limit one statements model objective maximize at
  program-same one other agree statements others model objective maximize at alike all is =
      let key : Key = record { symbol = objective; tuple = [] } in
      let rows : List (Answer (List FormRow)) → Answer (List FormRow) = λ those. in_order those and_then λ rows. Ok (flat_map (λ some. some) rows) in
      ap (λ (ds : List (Definition F)). rows (map (rows_of_definition v limit other) ds) and_then λ rows. sized_program at (program_of other rows key maximize)) alike
      ∙ ap (λ (those : List (Answer (List FormRow))). rows those and_then λ rows. sized_program at (program_of other rows key maximize)) (definitions-same one other agree (definitions_of_model statements model) all)
      ∙ then-same (EachHas (HasKeys (of_name test))) (rows_of_model v limit one statements model) (λ rows. sized_program at (program_of other rows key maximize)) (λ rows. sized_program at (program_of one rows key maximize)) (model-keyed (of_name test) v limit one statements model (definitions-named one (definitions_of_model statements model) all))
      (λ rows has. ap (λ (columns : List (Column Number)). sized_program at (record { columns = columns; rows = map (placed (column_keys rows key)) rows; objective = place_of_key (column_keys rows key) key; maximize = maximize })) (columns-same one other agree (column_keys rows key) (column-elements (of_name test) rows key has is)))
