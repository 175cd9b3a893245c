-- In the last state of an accepted program's run all data are in their domains.
use Rattle.std.proofs.lemmas.Bool.{and_from, and_parts, or_left, or_right}
use Rattle.std.proofs.Common.{◌≡◌, ℕ, ◌≤◌, nat_lt, nat_le, Bool, true, false, ◌&&◌, ◌==◌, cond, List, [], ◌∷◌, ◌++◌, map, length, Option, Some, None, option_map, refl, sym, ap, ◌∙◌, subst, append_assoc, eq-eqb, arith}
use Rattle.std.specs.Prelude.{flat_map}
use Rattle.std.specs.List.{All}
use Rattle.std.proofs.lemmas.Bool.Decides.{nat_tests}
use Rattle.std.proofs.lemmas.List.Concat.{flat_map-append}
use Rattle.std.proofs.lemmas.List.Elements.{All-nil, All-cons}
use Rattle.gq_number.specs.Number.{Number}
use Rattle.gms_labels.specs.declared.place.Place.{Place}
use Rattle.gms_ast.specs.declared.expression.Expr.{Expr}
use Rattle.gms_ast.specs.declared.expression.Index.{Index}
use Rattle.gms_ast.specs.declared.program.Act.{Act, roll-Act}
use Rattle.gms_ast.specs.declared.program.Act.TheFolds.{fold-Act, fold-roll-Act, fold_out-Stmt}
use Rattle.gms_ast.specs.declared.program.Act.TheOpen.{Act-F}
use Rattle.gms_ast.specs.declared.program.Act.TheVariants.{Define, rolls-Declare, rolls-Alias, rolls-Assign, rolls-Define, rolls-Model, rolls-Solve, rolls-Display, rolls-Loop, rolls-Options, rolls-Abort}
use Rattle.gms_ast.specs.declared.program.Program.{Program}
use Rattle.gms_ast.specs.declared.program.Side.{Side}
use Rattle.gms_ast.specs.declared.program.Stmt.{Stmt}
use Rattle.gms_ast.specs.declared.word.Named.{Named}
use Rattle.gms_ast.specs.TreeView.{tree_of}
use Rattle.gms_tuple.specs.TupleOrder.{same_tuple}
use Rattle.gms_tuple.specs.TupleSet.{has}
use Rattle.gms_tuple.proofs.Ordered.{same_tuple_refl}
use Rattle.gms_store.specs.State.{State, symbol_at, base_of, given_in, members_in, members_of}
use Rattle.gms_scope.specs.DynamicSets.{assigned_names as assigned_by}
use Rattle.gms_check.specs.Checked.{FollowsIn}
use Rattle.gms_check.specs.CompileErrors.{errors_after, known_after}
use Rattle.gms_check.specs.Loaded.{IsAccepted, loaded, sound}
use Rattle.gms_check.specs.Past.{Known, is_among}
use Rattle.gms_check.specs.Contexts.{as_side}
use Rattle.gms_check.specs.StatementUses.{statement_uses, index_list, left_uses, with_left}
use Rattle.gms_check.specs.Uses.{defining, uses}
use Rattle.gms_check.proofs.ActUses.{uses-act, uses-Define}
use Rattle.gms_check.proofs.Growing.{by_parts}
use Rattle.gms_check.proofs.NoErrors.{AreClean, clean-left, clean-right}
use Rattle.gms_check.proofs.Soundness.{after-sound, statement-clean, sound-use}
use Rattle.lp_core.specs.declared.answer.Answer.{Answer}
use Rattle.gms_rows.specs.ModelPoints.{definitions_of_model}
use Rattle.gms_rows.specs.Rows.{Definition, defined_at, definitions, definition_of, equations_of, has_lag}
use Rattle.gms_exec.specs.Run.{World, of_statement, run_from}
use Rattle.gms_run_laws.specs.Names.{Each}
use Rattle.gms_run_laws.proofs.Eaches.{each-left, each-right}
use Rattle.gms_run_laws.proofs.FormKeys.{EachHas}
use Rattle.gms_run_laws.proofs.ModelRows.{DefinitionPasses}
use Rattle.gms_run_laws.specs.LastStates.{AreFixed}
use Rattle.gms_run_laws.proofs.LastStates.{lasts-first}
use Rattle.gms_run_laws.proofs.TidyLoaded.{loaded-well}
use Rattle.gms_save_text.specs.Validity.{are_in_range, fits_position, fits_domain}
use Rattle.gms_restart.specs.Labels.{HasItsLabels, index_labels, tree_labels, condition_labels, labels_step, statement_labels}
use Rattle.gms_restart.proofs.Fitting.{Context}
use Rattle.gms_restart.proofs.Grounds.{among, fixed-positions, data-occur, ground-then}
use Rattle.gms_restart.proofs.Kept.{Kept}
use Rattle.gms_restart.proofs.Passing.{occurs_key, definition-passes, tree-passes}
use Rattle.gms_restart.proofs.Steps.{EachKeeps, all-keep, may_be, statement-keeps}

-- ---- names that are assigned

each-more : (p q : ℕ → Bool) → ((n : ℕ) → p n ≡ true → q n ≡ true) → (ns : List ℕ) → Each p ns → Each q ns
each-more p q more [] all = tt
each-more p q more (n ∷ ns) all = (more n all.0, each-more p q more ns all.1)

-- the image of each number is among the images
made-among : (f : ℕ → ℕ) (ns : List ℕ) → Each (λ n. is_among (map f ns) (f n)) ns
made-among f [] = tt
made-among f (n ∷ ns) =
    (or_left (f n == f n) (is_among (map f ns) (f n)) (eq-eqb (f n) (f n) refl), each-more (λ m. is_among (map f ns) (f m)) (λ m. is_among (map f (n ∷ ns)) (f m)) (λ m there. or_right (f n == f m) (is_among (map f ns) (f m)) there) ns (made-among f ns))

module _ {F : Type 0} (v : F → Number) (limit : ℕ) (world : World F) (accepted : IsAccepted v world.program) (labels : ℕ) (own : HasItsLabels labels world.program.statements.items (loaded v world.program)) where
  abbrev program : Program F
  program = world.program

  abbrev first : State
  first = loaded v program

  abbrev assigned : ℕ → Bool
  assigned = among v program accepted

  abbrev known_before : List (Stmt F) → Known F
  known_before before = known_after v program accepted.0 (sound before)

  clean-there : (before : List (Stmt F)) (statement : Stmt F) → FollowsIn program before statement → AreClean (known_before before) (statement_uses statement (known_before before).state [])
  clean-there before statement occurs =
      statement-clean (known_before before) statement (after-sound v program accepted.0 before [] statement occurs.0 (sym (ap (errors_after v program accepted.0 []) occurs.1) ∙ accepted.1))

  -- ---- definitions

  module _ (state : State) (context : Context labels first assigned state) where
    abbrev DefinesWell : Definition F → Type 0
    DefinesWell = DefinitionPasses (occurs_key labels first) v limit state

    both-well : (ds es : List (Definition F)) → EachHas DefinesWell ds → EachHas DefinesWell es → EachHas DefinesWell (ds ++ es)
    both-well [] es all more = more
    both-well (d ∷ ds) es all more = (all.0, both-well ds es all.1 more)

    one-well : (ds : List (Definition F)) (name : ℕ) → EachHas DefinesWell ds → EachHas DefinesWell (definition_of ds name)
    one-well [] name all = tt
    one-well (d ∷ ds) name all = by (d.equation == name) (one-well ds name all.1)
      where
        by : (b : Bool) → EachHas DefinesWell (definition_of ds name) → EachHas DefinesWell (cond b (d ∷ []) (definition_of ds name))
        by true rest = (all.0, tt)
        by false rest = rest

    model-well : (ds : List (Definition F)) (equations : List ℕ) → EachHas DefinesWell ds → EachHas DefinesWell (flat_map (definition_of ds) equations)
    model-well ds [] all = tt
    model-well ds (name ∷ equations) all =
        both-well (definition_of ds name) (flat_map (definition_of ds) equations) (one-well ds name all) (model-well ds equations all)

    if-no-lag : (b : Bool) (d : Definition F) → DefinesWell d → EachHas DefinesWell (cond b [] (d ∷ []))
    if-no-lag true d well = tt
    if-no-lag false d well = (well, tt)

    -- a definition of the program
    defines-well : (before : List (Stmt F)) (at : Place) (equation : Named) (indices : List (Index F)) (condition : Option (Expr F)) (left_at : Place) (left : Expr F) (side : Side) (right_at : Place) (right : Expr F) →
        FollowsIn program before (record { at = at; act = Define equation indices condition left_at left side right_at right }) →
        Each (λ l. nat_lt l labels) (index_labels (index_list indices) ++ (condition_labels (option_map tree_of condition) ++ (tree_labels (tree_of left) ++ tree_labels (tree_of right)))) →
        DefinesWell (record { equation = equation.name; at = at; indices = index_list indices; condition = option_map tree_of condition; left_at = left_at; left = tree_of left; side = side; right_at = right_at; right = tree_of right })
    defines-well before at equation indices condition left_at left side right_at right occurs written =
        let statement : Stmt F = record { at = at; act = Define equation indices condition left_at left side right_at right } in
        let known = known_before before in
        let ground = ground-then v program accepted before statement occurs labels own in
        let around = with_left [] indices in
        let below : ℕ → Bool = λ l. nat_lt l labels in
        let clean = subst (AreClean known) (uses-act statement known.state [] ∙ uses-Define known.state at [] equation indices condition left_at left side right_at right) (clean-there before statement occurs) in
        let used = sound-use known (defining equation.name (index_list indices)) clean.0 in
        let sides = clean-right known (left_uses at around indices condition) (uses as_side left_at around (tree_of left) ++ uses as_side right_at around (tree_of right)) clean.1 in
        let following = each-right below (index_labels (index_list indices)) (condition_labels (option_map tree_of condition) ++ (tree_labels (tree_of left) ++ tree_labels (tree_of right))) written in
        let side_labels = each-right below (condition_labels (option_map tree_of condition)) (tree_labels (tree_of left) ++ tree_labels (tree_of right)) following in
        definition-passes labels first assigned known refl ground v limit state context (record { equation = equation.name; at = at; indices = index_list indices; condition = option_map tree_of condition; left_at = left_at; left = tree_of left; side = side; right_at = right_at; right = tree_of right }) used.0 used.2
        (each-left below (index_labels (index_list indices)) (condition_labels (option_map tree_of condition) ++ (tree_labels (tree_of left) ++ tree_labels (tree_of right))) written)
        (λ binding fits. tree-passes labels first assigned known refl ground v limit state context (tree_of left) as_side left_at around binding (clean-left known (uses as_side left_at around (tree_of left)) (uses as_side right_at around (tree_of right)) sides) (each-left below (tree_labels (tree_of left)) (tree_labels (tree_of right)) side_labels) fits)
        (λ binding fits. tree-passes labels first assigned known refl ground v limit state context (tree_of right) as_side right_at around binding (clean-right known (uses as_side left_at around (tree_of left)) (uses as_side right_at around (tree_of right)) sides) (each-right below (tree_labels (tree_of left)) (tree_labels (tree_of right)) side_labels) fits)

    abbrev labels_of : Act F → List ℕ
    labels_of = fold-Act F (List ℕ) (List ℕ) labels_step (λ statement. statement.act)

    act-well : (before : List (Stmt F)) (at : Place) (act : Act F) → FollowsIn program before (record { at = at; act = act }) → Each (λ l. nat_lt l labels) (labels_of act) → EachHas DefinesWell (defined_at at act)
    act-well before at act = by_parts Q by act
      where
        Q : Act F → Type 0
        Q a = FollowsIn program before (record { at = at; act = a }) → Each (λ l. nat_lt l labels) (labels_of a) → EachHas DefinesWell (defined_at at a)

        by : (layer : Act-F F (Act F) (Stmt F)) → Q (roll-Act F layer)
        by (Act-F.Declare kind items) = subst Q (sym (rolls-Declare kind items)) (λ occurs written. tt)
        by (Act-F.Alias one other) = subst Q (sym (rolls-Alias one other)) (λ occurs written. tt)
        by (Act-F.Assign target condition right_at right) = subst Q (sym (rolls-Assign target condition right_at right)) (λ occurs written. tt)
        by (Act-F.Define equation indices condition left_at left side right_at right) =
            subst Q (sym (rolls-Define equation indices condition left_at left side right_at right)) (λ occurs written.
            let labels_are = ap labels_of (sym (rolls-Define equation indices condition left_at left side right_at right)) ∙ fold-roll-Act F (List ℕ) (List ℕ) labels_step (λ statement. statement.act) (Act-F.Define equation indices condition left_at left side right_at right) in
            let d : Definition F = record { equation = equation.name; at = at; indices = index_list indices; condition = option_map tree_of condition; left_at = left_at; left = tree_of left; side = side; right_at = right_at; right = tree_of right } in
            if-no-lag (has_lag (index_list indices)) d (defines-well before at equation indices condition left_at left side right_at right occurs (subst (Each (λ l. nat_lt l labels)) labels_are written)))
        by (Act-F.Model models) = subst Q (sym (rolls-Model models)) (λ occurs written. tt)
        by (Act-F.Solve model method objective maximize) = subst Q (sym (rolls-Solve model method objective maximize)) (λ occurs written. tt)
        by (Act-F.Display items) = subst Q (sym (rolls-Display items)) (λ occurs written. tt)
        by (Act-F.Loop control body) = subst Q (sym (rolls-Loop control body)) (λ occurs written. tt)
        by (Act-F.Options settings) = subst Q (sym (rolls-Options settings)) (λ occurs written. tt)
        by (Act-F.Abort condition items) = subst Q (sym (rolls-Abort condition items)) (λ occurs written. tt)

    written-act : (s : Stmt F) → statement_labels s ≡ labels_of s.act
    written-act s = fold_out-Stmt F (List ℕ) (List ℕ) labels_step (λ statement. statement.act) s

    definitions-from : (before statements : List (Stmt F)) → program.statements.items ≡ before ++ statements → Each (λ l. nat_lt l labels) (flat_map statement_labels statements) → EachHas DefinesWell (definitions statements)
    definitions-from before [] parts written = tt
    definitions-from before (statement ∷ rest) parts written =
        both-well (defined_at statement.at statement.act) (definitions rest) (act-well before statement.at statement.act (rest, parts) (subst (Each (λ l. nat_lt l labels)) (written-act statement) (each-left (λ l. nat_lt l labels) (statement_labels statement) (flat_map statement_labels rest) written)))
        (definitions-from (before ++ statement ∷ []) rest (parts ∙ sym (append_assoc before (statement ∷ []) rest)) (each-right (λ l. nat_lt l labels) (statement_labels statement) (flat_map statement_labels rest) written))

    of-model : (model : ℕ) → EachHas DefinesWell (definitions_of_model program.statements.items model)
    of-model model =
        model-well (definitions program.statements.items) (equations_of program.statements.items model) (definitions-from [] program.statements.items refl own.written)

  -- ---- statements

  abbrev May : List ℕ → Type 0
  May = Each (may_be labels first assigned)

  each-keeps : (before statements : List (Stmt F)) → program.statements.items ≡ before ++ statements → Each (λ l. nat_lt l labels) (flat_map statement_labels statements) → May (flat_map assigned_by statements) → EachKeeps labels first assigned (map (of_statement v limit world) statements)
  each-keeps before [] parts written may = tt
  each-keeps before (statement ∷ rest) parts written may = (
    statement-keeps labels first assigned v limit world of-model (known_before before) refl (ground-then v program accepted before statement (rest, parts) labels own) statement [] (clean-there before statement (rest, parts))
        (each-left (λ l. nat_lt l labels) (statement_labels statement) (flat_map statement_labels rest) written) (each-left (may_be labels first assigned) (assigned_by statement) (flat_map assigned_by rest) may),
    each-keeps (before ++ statement ∷ []) rest (parts ∙ sym (append_assoc before (statement ∷ []) rest)) (each-right (λ l. nat_lt l labels) (statement_labels statement) (flat_map statement_labels rest) written) (each-right (may_be labels first assigned) (assigned_by statement) (flat_map assigned_by rest) may),
  )

  pub first-kept : Kept labels first assigned first
  first-kept =
      let well = loaded-well v program in
      record { lasts = lasts-first first assigned well.tidy (ap are_in_range well.settings); occur = data-occur v program accepted labels own }

  -- The last state of a run of the program's statements after some keeps it, if the first state
  -- does.
  pub last-kept : (before statements : List (Stmt F)) → program.statements.items ≡ before ++ statements → (state : State) → Kept labels first assigned state → (answers : List (Answer Number)) → Kept labels first assigned (run_from v limit world state answers statements).state
  last-kept before statements parts state kept answers =
      let written : Each (λ l. nat_lt l labels) (flat_map statement_labels before ++ flat_map statement_labels statements) = subst (Each (λ l. nat_lt l labels)) (ap (flat_map statement_labels) parts ∙ flat_map-append statement_labels before statements) own.written in
      let may : May (flat_map assigned_by before ++ flat_map assigned_by statements) = subst May (ap (flat_map assigned_by) parts ∙ flat_map-append assigned_by before statements) (made-among (base_of first) (flat_map assigned_by program.statements.items)) in
      all-keep labels first assigned (map (of_statement v limit world) statements) (each-keeps before statements parts (each-right (λ l. nat_lt l labels) (flat_map statement_labels before) (flat_map statement_labels statements) written) (each-right (may_be labels first assigned) (flat_map assigned_by before) (flat_map assigned_by statements) may)) []
      (record { state = state; events = []; left = answers; taken = 0; halted = None }) (λ set label e. absurd (cc)) kept

-- ---- the same for the last state

-- the sets of positions have the same members in it
occur-later : (count : ℕ) (first last : State) (assigned : ℕ → Bool) → ((set : ℕ) → base_of last set ≡ base_of first set) → ((n : ℕ) → assigned n ≡ false → members_in (symbol_at last n).content ≡ members_in (symbol_at first n).content) → (domain : List (Option ℕ)) → AreFixed assigned first domain → (t : List ℕ) → fits_domain count first domain t ≡ true → fits_domain count last domain t ≡ true
occur-later count first last assigned bases static [] fixed [] e = refl
occur-later count first last assigned bases static [] fixed (label ∷ t) e = absurd (cc)
occur-later count first last assigned bases static (position ∷ domain) fixed [] e = absurd (cc)
occur-later count first last assigned bases static (None ∷ domain) fixed (label ∷ t) e =
    let parts = and_parts (nat_lt label count) (true && fits_domain count first domain t) e in
    and_from (nat_lt label count) (true && fits_domain count last domain t) parts.0 (occur-later count first last assigned bases static domain fixed t parts.1)
occur-later count first last assigned bases static (Some set ∷ domain) fixed (label ∷ t) e =
    let parts = and_parts (nat_lt label count) (fits_position first (Some set) label && fits_domain count first domain t) e in
    let here = and_parts (fits_position first (Some set) label) (fits_domain count first domain t) parts.1 in
    let members : members_of last set ≡ members_of first set = ap (λ n. members_in (symbol_at last n).content) (bases set) ∙ static (base_of first set) fixed.0.static in
    and_from (nat_lt label count) (fits_position last (Some set) label && fits_domain count last domain t) parts.0
    (and_from (fits_position last (Some set) label) (fits_domain count last domain t) (ap (λ (ms : List (List ℕ)). has ms (label ∷ [])) members ∙ here.0) (occur-later count first last assigned bases static domain fixed.1 t here.1))

all-from_has : (P : List ℕ → Type 0) (tuples : List (List ℕ)) → ((t : List ℕ) → has tuples t ≡ true → P t) → All P tuples
all-from_has P [] each = All-nil P
all-from_has P (u ∷ tuples) each =
    All-cons P u tuples (each u (or_left (same_tuple u u) (has tuples u) (same_tuple_refl u))) (all-from_has P tuples (λ t there. each t (or_right (same_tuple u t) (has tuples t) there)))

module _ {F : Type 0} (v : F → Number) (program : Program F) (accepted : IsAccepted v program) (labels : ℕ) (last : State) (kept : Kept labels (loaded v program) (among v program accepted) last) where
  -- each tuple with data is in the domain of its name
  pub kept-occur : (name : ℕ) → All (λ (t : List ℕ). fits_domain labels last (symbol_at last name).domain t ≡ true) (given_in (symbol_at last name).content)
  kept-occur name =
      let first = loaded v program in
      all-from_has (λ (t : List ℕ). fits_domain labels last (symbol_at last name).domain t ≡ true) (given_in (symbol_at last name).content) (λ t there.
      subst (λ (ds : List (Option ℕ)). fits_domain labels last ds t ≡ true) (sym (kept.lasts.stays name).domain)
      (occur-later labels first last (among v program accepted) (λ set. (kept.lasts.stays set).alike set) kept.lasts.later.static (symbol_at first name).domain (fixed-positions v program accepted name) t
      (and_parts (fits_domain labels first (symbol_at first name).domain t) (nat_le (length t) 10) (kept.occur name t there)).0))

  -- and has at most 10 labels
  pub kept-few : (name : ℕ) → All (λ (t : List ℕ). length t ≤ 10) (given_in (symbol_at last name).content)
  kept-few name =
      let first = loaded v program in
      all-from_has (λ (t : List ℕ). length t ≤ 10) (given_in (symbol_at last name).content) (λ t there. ten (length t) (and_parts (fits_domain labels first (symbol_at first name).domain t) (nat_le (length t) 10) (kept.occur name t there)).1)
    where
      ten : (n : ℕ) → nat_le n 10 ≡ true → n ≤ 10
      ten n le = grind (arith, nat_tests, le)
