-- The statements of an accepted program name what its first state declares alone.
use Rattle.std.proofs.Common.{◌≡◌, ℕ, Bool, true, false, cond, List, [], ◌∷◌, ◌++◌, map, Option, option_map, refl, sym, ap, ◌∙◌, subst, append_assoc}
use Rattle.std.specs.Prelude.{flat_map, ◌==◌}
use Rattle.gq_number.specs.Number.{Number}
use Rattle.gms_labels.specs.declared.place.Place.{Place}
use Rattle.gms_ast.specs.declared.expression.Expr.{Expr}
use Rattle.gms_ast.specs.declared.expression.Index.{Index}
use Rattle.gms_ast.specs.declared.program.Act.{Act, roll-Act, map-Act}
use Rattle.gms_ast.specs.declared.program.Act.TheFolds.{fold-Act, fold-roll-Act, fold-roll-Stmt, ind-Stmt}
use Rattle.gms_ast.specs.declared.program.Act.TheOpen.{Act-F, Stmt-F}
use Rattle.gms_ast.specs.declared.program.Act.TheVariants.{Define, rolls-Declare, rolls-Alias, rolls-Assign, rolls-Define, rolls-Model, rolls-Solve, rolls-Display, rolls-Loop, rolls-Options, rolls-Abort}
use Rattle.gms_ast.specs.declared.program.Program.{Program}
use Rattle.gms_ast.specs.declared.program.Right.TheVariants.{Value}
use Rattle.gms_ast.specs.declared.program.Side.{Side}
use Rattle.gms_ast.specs.declared.program.Stmt.{Stmt, roll-Stmt, map-Stmt}
use Rattle.gms_ast.specs.declared.word.Named.{Named}
use Rattle.gms_ast.specs.TreeView.{tree_of, control_tree}
use Rattle.gms_check.specs.declared.error.ErrorKind.TheVariants.{UnknownName}
use Rattle.gms_check.specs.Checked.{FollowsIn}
use Rattle.gms_check.specs.CompileErrors.{errors_after, known_after}
use Rattle.gms_check.specs.Loaded.{IsAccepted, loaded, sound}
use Rattle.gms_check.specs.Past.{Known}
use Rattle.gms_check.specs.Contexts.{as_side}
use Rattle.gms_check.specs.StatementUses.{UsesOfAct, UsesOfStatement, act_uses_step, statement_uses_step, statement_uses, index_list, left_uses, right_context, with_left}
use Rattle.gms_check.specs.InnerStatements.{act_uses}
use Rattle.gms_check.specs.Uses.{index_sets, sets_of_control, uses, control_uses, shift_uses, condition_uses}
use Rattle.gms_check.proofs.ActUses.{uses-act, uses-Define}
use Rattle.gms_check.proofs.Growing.{by_parts}
use Rattle.gms_check.proofs.NoErrors.{AreClean, clean-left, clean-right}
use Rattle.gms_check.proofs.Soundness.{after-sound, statement-clean}
use Rattle.gms_rows.specs.ModelPoints.{definitions_of_model}
use Rattle.gms_rows.specs.Rows.{Definition, defined_at, definitions, definition_of, equations_of}
use Rattle.gms_exec.specs.Run.{World}
use Rattle.gms_run_laws.specs.Agreeing.{declares, NameDeclared}
use Rattle.gms_run_laws.specs.Names.{Each, names_in_tree, index_names, condition_names, control_names, definition_names, names_step, statement_names}
use Rattle.gms_run_laws.proofs.Eaches.{each-left, each-right, each-both}
use Rattle.gms_run_laws.proofs.CleanNames.{none-unknown, names-clean, control-clean, left-clean, condition-clean}
use Rattle.gms_run_laws.proofs.Declared.{declared-later}

each-weaker : (test more : ℕ → Bool) → ((n : ℕ) → test n ≡ true → more n ≡ true) → (ns : List ℕ) → Each test ns → Each more ns
each-weaker test more weaker [] all = tt
each-weaker test more weaker (n ∷ ns) all = (weaker n all.0, each-weaker test more weaker ns all.1)

-- ---- definitions

module _ (test : ℕ → Bool) {F : Type 0} where
  -- the names in definitions pass
  abbrev All_named : List (Definition F) → Type 0
  All_named ds = Each test (flat_map definition_names ds)

  one-named : (ds : List (Definition F)) (name : ℕ) → All_named ds → All_named (definition_of ds name)
  one-named [] name all = tt
  one-named (d ∷ ds) name all =
      by (d.equation == name) (one-named ds name (each-right test (definition_names d) (flat_map definition_names ds) all))
    where
      by : (b : Bool) → All_named (definition_of ds name) → All_named (cond b (d ∷ []) (definition_of ds name))
      by true rest = each-both test (definition_names d) [] (each-left test (definition_names d) (flat_map definition_names ds) all) tt
      by false rest = rest

  both-named : (ds es : List (Definition F)) → All_named ds → All_named es → All_named (ds ++ es)
  both-named [] es all more = more
  both-named (d ∷ ds) es all more =
      each-both test (definition_names d) (flat_map definition_names (ds ++ es)) (each-left test (definition_names d) (flat_map definition_names ds) all) (both-named ds es (each-right test (definition_names d) (flat_map definition_names ds) all) more)

  -- those of a model
  model-named : (ds : List (Definition F)) (equations : List ℕ) → All_named ds → All_named (flat_map (definition_of ds) equations)
  model-named ds [] all = tt
  model-named ds (name ∷ equations) all =
      both-named (definition_of ds name) (flat_map (definition_of ds) equations) (one-named ds name all) (model-named ds equations all)

module _ {F : Type 0} (v : F → Number) (world : World F) (accepted : IsAccepted v world.program) where
  abbrev program : Program F
  program = world.program

  -- the names that the first state declares
  abbrev test : ℕ → Bool
  test = declares (loaded v program)

  -- what is known before a statement
  abbrev known_before : List (Stmt F) → Known F
  known_before before = known_after v program accepted.0 (sound before)

  clean-there : (before : List (Stmt F)) (statement : Stmt F) → FollowsIn program before statement → AreClean (known_before before) (statement_uses statement (known_before before).state [])
  clean-there before statement occurs =
      statement-clean (known_before before) statement (after-sound v program accepted.0 before [] statement occurs.0 (sym (ap (errors_after v program accepted.0 []) occurs.1) ∙ accepted.1))

  module _ (before : List (Stmt F)) (statement : Stmt F) (occurs : FollowsIn program before statement) where
    abbrev known : Known F
    known = known_before before

    -- what is declared before the statement is declared at last
    later : (ns : List ℕ) → Each (declares known.state) ns → Each test ns
    later = each-weaker (declares known.state) test (declared-later v program before statement occurs)

    named-define : (at : Place) (around : List ℕ) (equation : Named) (indices : List (Index F)) (condition : Option (Expr F)) (left_at : Place) (left : Expr F) (side : Side) (right_at : Place) (right : Expr F) →
        AreClean known (act_uses (Define equation indices condition left_at left side right_at right) known.state at around) → Each test (equation.name ∷ (index_names (index_list indices) ++ (condition_names (option_map tree_of condition) ++ (names_in_tree (tree_of left) ++ names_in_tree (tree_of right)))))
    named-define at loops equation indices condition left_at left side right_at right clean =
        let around = with_left loops indices in
        let whole = subst (AreClean known) (uses-Define known.state at loops equation indices condition left_at left side right_at right) clean in
        let all = none-unknown known (equation.name ∷ index_sets (index_list indices)) (whole.0 UnknownName) in
        let lefts = clean-left known (left_uses at around indices condition) (uses as_side left_at around (tree_of left) ++ uses as_side right_at around (tree_of right)) whole.1 in
        let sides = clean-right known (left_uses at around indices condition) (uses as_side left_at around (tree_of left) ++ uses as_side right_at around (tree_of right)) whole.1 in
        let test_then = declares known.state in
        later (equation.name ∷ (index_names (index_list indices) ++ (condition_names (option_map tree_of condition) ++ (names_in_tree (tree_of left) ++ names_in_tree (tree_of right))))) (
          all.0,
          each-both test_then (index_names (index_list indices)) (condition_names (option_map tree_of condition) ++ (names_in_tree (tree_of left) ++ names_in_tree (tree_of right)))
              (left-clean known (index_list indices) around all.1 (clean-left known (shift_uses around (index_list indices)) (condition_uses at around (option_map tree_of condition)) lefts))
              (each-both test_then (condition_names (option_map tree_of condition)) (names_in_tree (tree_of left) ++ names_in_tree (tree_of right))
              (condition-clean known (option_map tree_of condition) at around (clean-right known (shift_uses around (index_list indices)) (condition_uses at around (option_map tree_of condition)) lefts))
              (each-both test_then (names_in_tree (tree_of left)) (names_in_tree (tree_of right))
              (names-clean known (tree_of left) as_side left_at around (clean-left known (uses as_side left_at around (tree_of left)) (uses as_side right_at around (tree_of right)) sides))
              (names-clean known (tree_of right) as_side right_at around (clean-right known (uses as_side left_at around (tree_of left)) (uses as_side right_at around (tree_of right)) sides)))),
        )

  -- ---- the definitions of the program

  if-no-lag : (b : Bool) (d : Definition F) → Each test (definition_names d) → All_named test (cond b [] (d ∷ []))
  if-no-lag true d all = tt
  if-no-lag false d all = each-both test (definition_names d) [] all tt

  of-act : (before : List (Stmt F)) (at : Place) (act : Act F) → FollowsIn program before (record { at = at; act = act }) → All_named test (defined_at at act)
  of-act before at act = by_parts P by act
    where
      P : Act F → Type 0
      P a = FollowsIn program before (record { at = at; act = a }) → All_named test (defined_at at a)

      by : (layer : Act-F F (Act F) (Stmt F)) → P (roll-Act F layer)
      by (Act-F.Declare kind items) = subst P (sym (rolls-Declare kind items)) (λ occurs. tt)
      by (Act-F.Alias one other) = subst P (sym (rolls-Alias one other)) (λ occurs. tt)
      by (Act-F.Assign target condition right_at right) = subst P (sym (rolls-Assign target condition right_at right)) (λ occurs. tt)
      by (Act-F.Define equation indices condition left_at left side right_at right) =
          subst P (sym (rolls-Define equation indices condition left_at left side right_at right)) (λ occurs.
          let statement : Stmt F = record { at = at; act = Define equation indices condition left_at left side right_at right } in
          if-no-lag _ _ (named-define before statement occurs at [] equation indices condition left_at left side right_at right (subst (AreClean (known_before before)) (uses-act statement (known_before before).state []) (clean-there before statement occurs))))
      by (Act-F.Model models) = subst P (sym (rolls-Model models)) (λ occurs. tt)
      by (Act-F.Solve model method objective maximize) = subst P (sym (rolls-Solve model method objective maximize)) (λ occurs. tt)
      by (Act-F.Display items) = subst P (sym (rolls-Display items)) (λ occurs. tt)
      by (Act-F.Loop control body) = subst P (sym (rolls-Loop control body)) (λ occurs. tt)
      by (Act-F.Options settings) = subst P (sym (rolls-Options settings)) (λ occurs. tt)
      by (Act-F.Abort condition items) = subst P (sym (rolls-Abort condition items)) (λ occurs. tt)

  definitions-from : (before statements : List (Stmt F)) → program.statements.items ≡ before ++ statements → All_named test (definitions statements)
  definitions-from before [] parts = tt
  definitions-from before (statement ∷ rest) parts =
      both-named test (defined_at statement.at statement.act) (definitions rest) (of-act before statement.at statement.act (rest, parts)) (definitions-from (before ++ statement ∷ []) rest (parts ∙ sym (append_assoc before (statement ∷ []) rest)))

  of-model : (model : ℕ) → All_named test (definitions_of_model program.statements.items model)
  of-model model =
      model-named test (definitions program.statements.items) (equations_of program.statements.items model) (definitions-from [] program.statements.items refl)

  -- ---- its statements

  module _ (before : List (Stmt F)) (outer : Stmt F) (occurs : FollowsIn program before outer) where
    abbrev uses_of : Act F → UsesOfAct F
    uses_of = fold-Act F (UsesOfAct F) (UsesOfStatement F) act_uses_step statement_uses_step

    abbrev names_in : Act F → List ℕ
    names_in = fold-Act F (List ℕ) (List ℕ) (names_step world) (λ statement. statement.act)

    abbrev KnownThen : Known F
    KnownThen = known_before before

    abbrev QAct : Act F → Type 0
    QAct act = (at : Place) (around : List ℕ) → AreClean KnownThen (uses_of act KnownThen.state at around) → Each test (names_in act)

    abbrev Q : Stmt F → Type 0
    Q s = (around : List ℕ) → AreClean KnownThen (statement_uses s KnownThen.state around) → Each test (statement_names world s)

    body-named : (around : List ℕ) (body : List ((s : Stmt F) × Q s)) → AreClean KnownThen (flat_map (λ (statement : UsesOfStatement F). statement KnownThen.state around) (map statement_uses (map (λ e. e.0) body))) → Each test (flat_map (λ (names : List ℕ). names) (map (statement_names world) (map (λ e. e.0) body)))
    body-named around [] clean = tt
    body-named around (e ∷ body) clean =
        let rest = flat_map (λ (statement : UsesOfStatement F). statement KnownThen.state around) (map statement_uses (map (λ e. e.0) body)) in
        each-both test (statement_names world e.0) (flat_map (λ (names : List ℕ). names) (map (statement_names world) (map (λ e. e.0) body))) (e.1 around (clean-left KnownThen (statement_uses e.0 KnownThen.state around) rest clean)) (body-named around body (clean-right KnownThen (statement_uses e.0 KnownThen.state around) rest clean))

    module _ (x : Act-F F (Act F) (Stmt F)) where
      names-is : names_in (roll-Act F x) ≡ names_step world (map-Act F (Act F) (Stmt F) (List ℕ) (List ℕ) names_in (statement_names world) x)
      names-is = fold-roll-Act F (List ℕ) (List ℕ) (names_step world) (λ statement. statement.act) x

      uses-is : uses_of (roll-Act F x) ≡ act_uses_step (map-Act F (Act F) (Stmt F) (UsesOfAct F) (UsesOfStatement F) uses_of statement_uses x)
      uses-is = fold-roll-Act F (UsesOfAct F) (UsesOfStatement F) act_uses_step statement_uses_step x

      rolled : (f : UsesOfAct F) (ns : List ℕ) → uses_of (roll-Act F x) ≡ f → names_in (roll-Act F x) ≡ ns → ((at : Place) (around : List ℕ) → AreClean KnownThen (f KnownThen.state at around) → Each test ns) → QAct (roll-Act F x)
      rolled f ns used named each at around clean =
          subst (Each test) (sym named) (each at around (subst (λ (g : UsesOfAct F). AreClean KnownThen (g KnownThen.state at around)) used clean))

    by_layer : (y : Act-F F ((a : Act F) × QAct a) ((s : Stmt F) × Q s)) → QAct (roll-Act F (map-Act F ((a : Act F) × QAct a) ((s : Stmt F) × Q s) (Act F) (Stmt F) (λ e. e.0) (λ e. e.0) y))
    by_layer (Act-F.Declare kind items) = let x = Act-F.Declare kind items in rolled x _ _ (uses-is x) (names-is x) (λ at around clean. tt)
    by_layer (Act-F.Alias one two) = let x = Act-F.Alias one two in rolled x _ _ (uses-is x) (names-is x) (λ at around clean. tt)
    by_layer (Act-F.Model models) = let x = Act-F.Model models in rolled x _ _ (uses-is x) (names-is x) (λ at around clean. tt)
    by_layer (Act-F.Define equation indices condition left_at left side right_at right) =
        let x = Act-F.Define equation indices condition left_at left side right_at right in
        rolled x _ _ (uses-is x) (names-is x) (λ at around clean. tt)
    by_layer (Act-F.Display items) = let x = Act-F.Display items in rolled x _ _ (uses-is x) (names-is x) (λ at around clean. tt)
    by_layer (Act-F.Options settings) = let x = Act-F.Options settings in rolled x _ _ (uses-is x) (names-is x) (λ at around clean. tt)
    by_layer (Act-F.Abort condition items) = let x = Act-F.Abort condition items in rolled x _ _ (uses-is x) (names-is x) (λ at around clean. tt)
    by_layer (Act-F.Assign target condition right_at (Value right)) =
        let x = Act-F.Assign target condition right_at (Value right) in
        rolled x _ _ (uses-is x) (names-is x) (λ at loops clean.
        let around = with_left loops target.indices in
        let known = KnownThen in
        let context = right_context known.state target.name in
        let all = none-unknown known (target.name ∷ index_sets (index_list target.indices)) (clean.0 UnknownName) in
        let lefts = clean-left known (left_uses at around target.indices condition) (uses context right_at around (tree_of right)) clean.1 in
        let test_then = declares known.state in
        later before outer occurs (target.name ∷ (index_names (index_list target.indices) ++ (condition_names (option_map tree_of condition) ++ names_in_tree (tree_of right)))) (
          all.0,
          each-both test_then (index_names (index_list target.indices)) (condition_names (option_map tree_of condition) ++ names_in_tree (tree_of right))
              (left-clean known (index_list target.indices) around all.1 (clean-left known (shift_uses around (index_list target.indices)) (condition_uses at around (option_map tree_of condition)) lefts))
              (each-both test_then (condition_names (option_map tree_of condition)) (names_in_tree (tree_of right))
              (condition-clean known (option_map tree_of condition) at around (clean-right known (shift_uses around (index_list target.indices)) (condition_uses at around (option_map tree_of condition)) lefts))
              (names-clean known (tree_of right) context right_at around (clean-right known (left_uses at around target.indices condition) (uses context right_at around (tree_of right)) clean.1))),
        ))
    by_layer (Act-F.Solve model word objective maximize) =
        let x = Act-F.Solve model word objective maximize in
        rolled x _ _ (uses-is x) (names-is x) (λ at around clean.
        let one = later before outer occurs (model.name ∷ []) (none-unknown KnownThen (model.name ∷ []) (clean.0 UnknownName)) in
        let other = later before outer occurs (objective.name ∷ []) (none-unknown KnownThen (objective.name ∷ []) (clean.1.1.0 UnknownName)) in
        (one.0, (other.0, of-model model.name)))
    by_layer (Act-F.Loop control body) =
        let x = map-Act F ((a : Act F) × QAct a) ((s : Stmt F) × Q s) (Act F) (Stmt F) (λ e. e.0) (λ e. e.0) (Act-F.Loop control body) in
        let c = control_tree control in
        rolled x _ _ (uses-is x) (names-is x) (λ at around clean.
        let inner = flat_map (λ (statement : UsesOfStatement F). statement KnownThen.state (around ++ sets_of_control c)) (map statement_uses (map (λ e. e.0) body.items)) in
        each-both test (control_names c) (flat_map (λ (names : List ℕ). names) (map (statement_names world) (map (λ e. e.0) body.items)))
        (later before outer occurs (control_names c) (control-clean KnownThen c at around (clean-left KnownThen (control_uses at around c) inner clean)))
        (body-named (around ++ sets_of_control c) body.items (clean-right KnownThen (control_uses at around c) inner clean)))

    by_statement : (y : Stmt-F F ((a : Act F) × QAct a) ((s : Stmt F) × Q s)) → Q (roll-Stmt F (map-Stmt F ((a : Act F) × QAct a) ((s : Stmt F) × Q s) (Act F) (Stmt F) (λ e. e.0) (λ e. e.0) y))
    by_statement y around clean =
        let z = map-Stmt F ((a : Act F) × QAct a) ((s : Stmt F) × Q s) (Act F) (Stmt F) (λ e. e.0) (λ e. e.0) y in
        subst (Each test) (sym (fold-roll-Stmt F (List ℕ) (List ℕ) (names_step world) (λ statement. statement.act) z))
        (y.act.1 y.at around (subst (λ (f : UsesOfStatement F). AreClean KnownThen (f KnownThen.state around)) (fold-roll-Stmt F (UsesOfAct F) (UsesOfStatement F) act_uses_step statement_uses_step z) clean))

    statement-named : (s : Stmt F) → Q s
    statement-named =
        ind-Stmt F QAct Q
        (λ x y is. subst (λ z. QAct (roll-Act F z)) is (by_layer y))
        (λ x y is. subst (λ z. Q (roll-Stmt F z)) is (by_statement y))

  named-from : (before statements : List (Stmt F)) → program.statements.items ≡ before ++ statements → Each test (flat_map (statement_names world) statements)
  named-from before [] parts = tt
  named-from before (statement ∷ rest) parts =
      each-both test (statement_names world statement) (flat_map (statement_names world) rest) (statement-named before statement (rest, parts) statement [] (clean-there before statement (rest, parts)))
      (named-from (before ++ statement ∷ []) rest (parts ∙ sym (append_assoc before (statement ∷ []) rest)))

  -- The statements of the program name what its first state declares alone.
  pub program-named : NameDeclared world (loaded v program) program.statements.items
  program-named = named-from [] program.statements.items refl
