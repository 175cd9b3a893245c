-- Each statement without an error keeps data in the domains of their names, under a binding that
-- fits; loops too.
use Rattle.std.proofs.lemmas.Bool.{and_parts, not-false}
use Rattle.std.proofs.Common.{◌≡◌, ℕ, nat_lt, Bool, true, false, not, ◌&&◌, ◌||◌, List, [], ◌∷◌, ◌++◌, map, Option, Some, None, option_map, Ok, Err, refl, sym, ◌∙◌, subst}
use Rattle.std.specs.Prelude.{flat_map, if◌then◌else◌}
use Rattle.gq_number.specs.Number.{Number}
use Rattle.gms_labels.specs.declared.place.Place.{Place}
use Rattle.gms_ast.specs.declared.expression.Expr.{Expr}
use Rattle.gms_ast.specs.declared.program.Act.{Act, roll-Act, map-Act}
use Rattle.gms_ast.specs.declared.program.Act.TheFolds.{fold-Act, fold-roll-Act, fold-roll-Stmt, ind-Stmt}
use Rattle.gms_ast.specs.declared.program.Act.TheOpen.{Act-F, Stmt-F}
use Rattle.gms_ast.specs.declared.program.Right.TheVariants.{Value}
use Rattle.gms_ast.specs.declared.program.Show.{Show}
use Rattle.gms_ast.specs.declared.program.Stmt.{Stmt, roll-Stmt, map-Stmt}
use Rattle.gms_ast.specs.declared.program.Target.{Target}
use Rattle.gms_ast.specs.Trees as tree
use Rattle.gms_ast.specs.TreeView.{tree_of, control_tree}
use Rattle.gms_store.specs.Declarations.{is_free}
use Rattle.gms_store.specs.State.{State, symbol_at, base_of}
use Rattle.gms_scope.specs.DynamicSets.{assigned_names as assigned_by, assigned_step}
use Rattle.gms_scope.specs.Names.{has_no_declaration, positions}
use Rattle.gms_check.specs.declared.error.ErrorKind.TheVariants.{UnknownName, Objective}
use Rattle.gms_check.specs.Above.{directly_above}
use Rattle.gms_check.specs.Checked.{AreIndices}
use Rattle.gms_check.specs.Past.{Known}
use Rattle.gms_check.specs.Kinds.{is_without_positions}
use Rattle.gms_check.specs.StatementUses.{UsesOfAct, UsesOfStatement, act_uses_step as uses_step, statement_uses_step as uses_statement, statement_uses, index_list}
use Rattle.gms_check.specs.Uses.{assigning, control_uses}
use Rattle.gms_check.specs.Uses as checking
use Rattle.gms_check.proofs.NoErrors.{AreClean, clean-left, clean-right}
use Rattle.gms_check.proofs.Soundness.{sound-use}
use Rattle.gms_eval.specs.Bindings.{Pairs, controlled}
use Rattle.gms_eval.specs.Faults.{Answer as Evaluated, ◌and_then◌}
use Rattle.gms_eval.specs.Holds.{holds}
use Rattle.gms_eval.specs.Value.{domain, sets_of}
use Rattle.lp_core.specs.declared.answer.Answer.{Answer}
use Rattle.lp_core.specs.declared.program.Lp.{Lp}
use Rattle.gms_rows.specs.ModelPoints.{definitions_of_model}
use Rattle.gms_rows.specs.ProgramLp.{program_lp}
use Rattle.gms_rows.specs.Rows.{equations_of}
use Rattle.gms_exec.specs.Assignment.{given_by, target_of}
use Rattle.gms_exec.specs.Given.{AllGiven, after_given}
use Rattle.gms_exec.specs.Run.{Course, Halt, World, OfAct, OfStatement, in_state, while_it_runs, with_evaluated, in_sequence, for_each, display, abort, abort_where, over_elements, answered, solve, act_step, statement_step, of_statement, labels_in}
use Rattle.gms_exec.specs.Showing.{all_shown}
use Rattle.gms_run_laws.specs.Names.{Each}
use Rattle.gms_run_laws.proofs.Eaches.{each-left, each-right}
use Rattle.gms_run_laws.proofs.FormKeys.{OkHas, EachHas}
use Rattle.gms_run_laws.proofs.ModelRows.{DefinitionPasses, program-keyed}
use Rattle.gms_run_laws.proofs.RowElements.{IsOver}
use Rattle.gms_restart.specs.Labels.{index_labels, tree_labels, condition_labels, control_labels, labels_step, statement_labels}
use Rattle.gms_restart.proofs.Fitting.{Ground, Context, Fits}
use Rattle.gms_restart.proofs.Homes.{occurs_few}
use Rattle.gms_restart.proofs.Kept.{Kept, context-of, kept-given, kept-end, kept-options}
use Rattle.gms_restart.proofs.Passing.{occurs_key, positions-same, control-simple, element-fits, over-domain, GivenOccurs, given-occur}

no-positions : (ds : List (Option ℕ)) → is_without_positions ds ≡ true → ds ≡ []
no-positions [] e = refl
no-positions (d ∷ ds) e = absurd (cc)

module _ (count : ℕ) (first : State) (assigned : ℕ → Bool) where
  -- a statement keeps it under a binding that fits, and an act
  abbrev pub Keeps : OfStatement → Type 0
  Keeps s = (binding : Pairs) (c : Course) → Fits count first assigned binding → Kept count first assigned c.state → Kept count first assigned (s binding c).state

  abbrev pub KeepsAct : OfAct → Type 0
  KeepsAct act = (at : Place) (binding : Pairs) (c : Course) → Fits count first assigned binding → Kept count first assigned c.state → Kept count first assigned (act at binding c).state

  -- each of some statements does
  abbrev pub EachKeeps : List OfStatement → Type 0
  EachKeeps [] = Unit {0}
  EachKeeps (s ∷ ss) = Keeps s × EachKeeps ss

  abbrev P : Course → Type 0
  P c = Kept count first assigned c.state

  while-keeps : (next : Course → Course) (c : Course) → (P c → P (next c)) → P c → P (while_it_runs next c)
  while-keeps next c keep p = by c.halted
    where
      by : (h : Option Halt) → P (elim h as (λ _. Course) [ None ↦ next c | Some halt ↦ c ])
      by None = keep p
      by (Some halt) = p

  pub all-keep : (ss : List OfStatement) → EachKeeps ss → Keeps (in_sequence ss)
  all-keep [] each binding c fits p = p
  all-keep (s ∷ ss) each binding c fits p =
      all-keep ss each.1 binding (while_it_runs (s binding) c) fits (while-keeps (s binding) c (each.0 binding c fits) p)

  each-keeps : (sets : List ℕ) (body : List OfStatement) (binding : Pairs) (those : List (List ℕ)) → EachHas (λ element. Fits count first assigned (controlled binding sets element)) those → EachKeeps body → (c : Course) → P c → P (for_each sets body those binding c)
  each-keeps sets body binding [] fits each c p = p
  each-keeps sets body binding (element ∷ those) fits each c p =
      each-keeps sets body binding those fits.1 each (in_sequence body (controlled binding sets element) c) (all-keep body each (controlled binding sets element) c fits.0 p)

  value-keeps : {A : Type 0} (r : Evaluated A) (next : A → Course) (c : Course) → ((x : A) → P (next x)) → P c → P (with_evaluated r next c)
  value-keeps (Ok x) next c each p = each x
  value-keeps (Err fault) next c each p = p

  has-keeps : {A : Type 0} (Q : A → Type 0) (r : Evaluated A) (next : A → Course) (c : Course) → OkHas Q r → ((x : A) → Q x → P (next x)) → P c → P (with_evaluated r next c)
  has-keeps Q (Ok x) next c has each p = each x has
  has-keeps Q (Err fault) next c has each p = p

  -- names that may be assigned
  abbrev pub may_be : ℕ → Bool
  may_be name = assigned (base_of first name)

  module _ {F : Type 0} (v : F → Number) (limit : ℕ) (world : World F) (definitions_pass : (state : State) → Context count first assigned state → (model : ℕ) → EachHas (DefinitionPasses (occurs_key count first) v limit state) (definitions_of_model world.program.statements.items model)) (known : Known F) (above_is : known.above ≡ directly_above known.state known.declared) (ground : Ground count first assigned known.state) where
    keeps-display : (labels : ℕ) (items : List Show) → KeepsAct (display v limit labels items)
    keeps-display labels items at binding c fits p = value-keeps (all_shown labels c.state binding items) _ c (λ shown. p) p

    keeps-abort : (labels : ℕ) (items : List Show) → KeepsAct (abort v limit labels items)
    keeps-abort labels items at binding c fits p = value-keeps (all_shown labels c.state binding items) _ c (λ shown. p) p

    keeps-abort_where : (labels : ℕ) (condition : Option (tree.Tree F)) (items : List Show) → KeepsAct (abort_where v limit labels condition items)
    keeps-abort_where labels None items at binding c fits p = keeps-abort labels items at binding c fits p
    keeps-abort_where labels (Some condition) items at binding c fits p =
        value-keeps (holds v limit c.state binding condition) (λ so. if so then abort v limit labels items at binding c else c) c by p
      where
        by : (so : Bool) → P (if so then abort v limit labels items at binding c else c)
        by true = keeps-abort labels items at binding c fits p
        by false = p

    -- ---- an assignment

    keeps-assign : (target : Target F) (condition : Option (Expr F)) (right_at : Place) (right : Expr F) → has_no_declaration known.state target.name ≡ false → AreIndices known target.name (index_list target.indices) → Each (λ l. nat_lt l count) (index_labels (index_list target.indices)) → may_be target.name ≡ true → (at : Place) (binding : Pairs) (c : Course) → Fits count first assigned binding → P c →
        P (with_evaluated (given_by v limit c.state at binding (target_of target) (option_map tree_of condition) right_at (tree_of right) and_then λ given. Ok (after_given target.suffix target.name given c.state)) (in_state c) c)
    keeps-assign target condition right_at right there are own may at binding c fits p =
        by (given_by v limit c.state at binding (target_of target) (option_map tree_of condition) right_at (tree_of right))
        (given-occur count first assigned known above_is ground v limit c.state (context-of count first assigned c.state p) (target_of target) at binding (option_map tree_of condition) right_at (tree_of right) fits there are own)
      where
        by : (r : Evaluated AllGiven) → OkHas (EachHas (GivenOccurs count first assigned known above_is ground v limit c.state (context-of count first assigned c.state p) target.name)) r → P (with_evaluated (r and_then λ given. Ok (after_given target.suffix target.name given c.state)) (in_state c) c)
        by (Ok given) are = kept-given count first assigned c.state target.suffix target.name given may are p
        by (Err fault) are = p

    -- ---- a solve

    objective-occurs : (name : ℕ) → has_no_declaration known.state name ≡ false → not (is_free (symbol_at known.state name).content && is_without_positions (positions known.state name)) ≡ false → occurs_key count first (record { symbol = name; tuple = [] }) ≡ true
    objective-occurs name there clean =
        let free = not-false (is_free (symbol_at known.state name).content && is_without_positions (positions known.state name)) clean in
        let none = no-positions (positions known.state name) (and_parts (is_free (symbol_at known.state name).content) (is_without_positions (positions known.state name)) free).1 in
        subst (λ (ds : List (Option ℕ)). occurs_few count first ds [] ≡ true) (sym none ∙ positions-same count first assigned known above_is ground name there) refl

    keeps-answered : (c : Course) (left : List (Answer Number)) (solvers : List (List ℕ)) (model : ℕ) (equations : List ℕ) (objective : ℕ) (at : Place) (lp : Lp Number) → IsOver (occurs_key count first) lp → P c → P (answered v limit solvers model equations objective at (record c { left = left }) lp)
    keeps-answered c [] solvers model equations objective at lp over p = p
    keeps-answered c (answer ∷ left) solvers model equations objective at lp over p = kept-end count first assigned c.state model lp answer.end over p

    keeps-solve : (solvers : List (List ℕ)) (model objective : ℕ) (maximize : Bool) → occurs_key count first (record { symbol = objective; tuple = [] }) ≡ true → KeepsAct (solve v limit solvers world.program.statements.items model objective maximize)
    keeps-solve [] model objective maximize is at binding c fits p = p
    keeps-solve (solver ∷ solvers) model objective maximize is at binding c fits p =
        let statements = world.program.statements.items in
        has-keeps (IsOver (occurs_key count first)) (program_lp v limit c.state statements model objective maximize at) (answered v limit (solver ∷ solvers) model (equations_of statements model) objective at c) c
        (program-keyed (occurs_key count first) v limit c.state statements model objective maximize at (definitions_pass c.state (context-of count first assigned c.state p) model) is)
        (λ lp over. keeps-answered c c.left (solver ∷ solvers) model (equations_of statements model) objective at lp over p) p

    -- ---- a loop

    keeps-loop : (control : tree.Control F) (body : List OfStatement) (place : Place) (around : List ℕ) → AreClean known (control_uses place around control) → EachKeeps body → KeepsAct (over_elements v limit control body)
    keeps-loop control body place around clean each at binding c fits p =
        let context = context-of count first assigned c.state p in
        let Q : List ℕ → Type 0 = λ element. Fits count first assigned (controlled binding (sets_of control) element) in
        has-keeps (EachHas Q) (domain v limit c.state binding at control) (λ those. for_each (sets_of control) body those binding c) c
        (over-domain count first assigned known above_is ground v limit c.state context Q binding at control (λ element there. element-fits count first assigned known above_is ground v limit c.state context binding (sets_of control) element fits (control-simple count first assigned known above_is ground v limit c.state context control place around clean) there))
        (λ those all. each-keeps (sets_of control) body binding those all each c p) p

    nothing-kept : KeepsAct (λ at binding c. c)
    nothing-kept at binding c fits p = p

    -- ---- statements

    abbrev of_act : Act F → OfAct
    of_act = fold-Act F OfAct OfStatement (act_step v limit world) (statement_step v limit)

    abbrev uses_of : Act F → UsesOfAct F
    uses_of = fold-Act F (UsesOfAct F) (UsesOfStatement F) uses_step uses_statement

    abbrev labels_of : Act F → List ℕ
    labels_of = fold-Act F (List ℕ) (List ℕ) labels_step (λ statement. statement.act)

    abbrev names_of : Act F → List ℕ
    names_of = fold-Act F (List ℕ) (List ℕ) assigned_step (λ statement. statement.act)

    abbrev Own : List ℕ → Type 0
    Own = Each (λ l. nat_lt l count)

    abbrev May : List ℕ → Type 0
    May = Each may_be

    abbrev QAct : Act F → Type 0
    QAct act = (at : Place) (around : List ℕ) → AreClean known (uses_of act known.state at around) → Own (labels_of act) → May (names_of act) → KeepsAct (of_act act)

    abbrev Q : Stmt F → Type 0
    Q s = (around : List ℕ) → AreClean known (statement_uses s known.state around) → Own (statement_labels s) → May (assigned_by s) → Keeps (of_statement v limit world s)

    body-keeps : (around : List ℕ) (body : List ((s : Stmt F) × Q s)) → AreClean known (flat_map (λ (statement : UsesOfStatement F). statement known.state around) (map statement_uses (map (λ e. e.0) body))) → Own (flat_map (λ (labels : List ℕ). labels) (map statement_labels (map (λ e. e.0) body))) → May (flat_map (λ (names : List ℕ). names) (map assigned_by (map (λ e. e.0) body))) → EachKeeps (map (of_statement v limit world) (map (λ e. e.0) body))
    body-keeps around [] clean own may = tt
    body-keeps around (e ∷ body) clean own may =
        let uses = flat_map (λ (statement : UsesOfStatement F). statement known.state around) (map statement_uses (map (λ e. e.0) body)) in
        let labels = flat_map (λ (labels : List ℕ). labels) (map statement_labels (map (λ e. e.0) body)) in
        let names = flat_map (λ (names : List ℕ). names) (map assigned_by (map (λ e. e.0) body)) in
        (e.1 around (clean-left known (statement_uses e.0 known.state around) uses clean) (each-left (λ l. nat_lt l count) (statement_labels e.0) labels own) (each-left may_be (assigned_by e.0) names may), body-keeps around body (clean-right known (statement_uses e.0 known.state around) uses clean) (each-right (λ l. nat_lt l count) (statement_labels e.0) labels own) (each-right may_be (assigned_by e.0) names may))

    module _ (x : Act-F F (Act F) (Stmt F)) where
      does-is : of_act (roll-Act F x) ≡ act_step v limit world (map-Act F (Act F) (Stmt F) OfAct OfStatement of_act (of_statement v limit world) x)
      does-is = fold-roll-Act F OfAct OfStatement (act_step v limit world) (statement_step v limit) x

      uses-is : uses_of (roll-Act F x) ≡ uses_step (map-Act F (Act F) (Stmt F) (UsesOfAct F) (UsesOfStatement F) uses_of statement_uses x)
      uses-is = fold-roll-Act F (UsesOfAct F) (UsesOfStatement F) uses_step uses_statement x

      labels-is : labels_of (roll-Act F x) ≡ labels_step (map-Act F (Act F) (Stmt F) (List ℕ) (List ℕ) labels_of statement_labels x)
      labels-is = fold-roll-Act F (List ℕ) (List ℕ) labels_step (λ statement. statement.act) x

      names-is : names_of (roll-Act F x) ≡ assigned_step (map-Act F (Act F) (Stmt F) (List ℕ) (List ℕ) names_of assigned_by x)
      names-is = fold-roll-Act F (List ℕ) (List ℕ) assigned_step (λ statement. statement.act) x

      rolled : (f : OfAct) (u : UsesOfAct F) (labels names : List ℕ) → of_act (roll-Act F x) ≡ f → uses_of (roll-Act F x) ≡ u → labels_of (roll-Act F x) ≡ labels → names_of (roll-Act F x) ≡ names → ((place : Place) (around : List ℕ) → AreClean known (u known.state place around) → Own labels → May names → KeepsAct f) → QAct (roll-Act F x)
      rolled f u labels names does used written may_names keeps place around clean own may =
          subst KeepsAct (sym does) (keeps place around (subst (λ (g : UsesOfAct F). AreClean known (g known.state place around)) used clean) (subst Own written own) (subst May may_names may))

    by_layer : (y : Act-F F ((a : Act F) × QAct a) ((s : Stmt F) × Q s)) → QAct (roll-Act F (map-Act F ((a : Act F) × QAct a) ((s : Stmt F) × Q s) (Act F) (Stmt F) (λ e. e.0) (λ e. e.0) y))
    by_layer (Act-F.Declare kind items) = let x = Act-F.Declare kind items in rolled x _ _ _ _ (does-is x) (uses-is x) (labels-is x) (names-is x) (λ place around clean own may. nothing-kept)
    by_layer (Act-F.Alias one two) = let x = Act-F.Alias one two in rolled x _ _ _ _ (does-is x) (uses-is x) (labels-is x) (names-is x) (λ place around clean own may. nothing-kept)
    by_layer (Act-F.Model models) = let x = Act-F.Model models in rolled x _ _ _ _ (does-is x) (uses-is x) (labels-is x) (names-is x) (λ place around clean own may. nothing-kept)
    by_layer (Act-F.Define equation indices condition left_at left side right_at right) =
        let x = Act-F.Define equation indices condition left_at left side right_at right in
        rolled x _ _ _ _ (does-is x) (uses-is x) (labels-is x) (names-is x) (λ place around clean own may. nothing-kept)
    by_layer (Act-F.Display items) = let x = Act-F.Display items in rolled x _ _ _ _ (does-is x) (uses-is x) (labels-is x) (names-is x) (λ place around clean own may. keeps-display (labels_in world) items)
    by_layer (Act-F.Options settings) =
        let x = Act-F.Options settings in
        rolled x _ _ _ _ (does-is x) (uses-is x) (labels-is x) (names-is x) (λ place around clean own may. λ at binding c fits p. kept-options count first assigned v world.solvers c.state settings p)
    by_layer (Act-F.Abort condition items) =
        let x = Act-F.Abort condition items in
        rolled x _ _ _ _ (does-is x) (uses-is x) (labels-is x) (names-is x) (λ place around clean own may. keeps-abort_where (labels_in world) (option_map tree_of condition) items)
    by_layer (Act-F.Assign target condition right_at (Value right)) =
        let x = Act-F.Assign target condition right_at (Value right) in
        rolled x _ _ _ _ (does-is x) (uses-is x) (labels-is x) (names-is x) (λ place around clean own may.
        let used = sound-use known (assigning target.name target.suffix (index_list target.indices)) clean.0 in
        keeps-assign target condition right_at right used.0 used.2 (each-left (λ l. nat_lt l count) (index_labels (index_list target.indices)) (condition_labels (option_map tree_of condition) ++ tree_labels (tree_of right)) own) may.0)
    by_layer (Act-F.Solve model word objective maximize) =
        let x = Act-F.Solve model word objective maximize in
        rolled x _ _ _ _ (does-is x) (uses-is x) (labels-is x) (names-is x) (λ place around clean own may.
        keeps-solve world.solvers model.name objective.name maximize (objective-occurs objective.name (known-name objective.name (clean.1.1.0 UnknownName)) (clean.1.1.0 Objective)))
      where
        known-name : (name : ℕ) → (has_no_declaration known.state name || false) ≡ false → has_no_declaration known.state name ≡ false
        known-name name e = by (has_no_declaration known.state name) e
          where
            by : (b : Bool) → (b || false) ≡ false → b ≡ false
            by true e = absurd (cc)
            by false e = refl
    by_layer (Act-F.Loop control body) =
        let x = map-Act F ((a : Act F) × QAct a) ((s : Stmt F) × Q s) (Act F) (Stmt F) (λ e. e.0) (λ e. e.0) (Act-F.Loop control body) in
        let c = control_tree control in
        rolled x _ _ _ _ (does-is x) (uses-is x) (labels-is x) (names-is x) (λ place around clean own may.
        let inner = flat_map (λ (statement : UsesOfStatement F). statement known.state (around ++ checking.sets_of_control c)) (map statement_uses (map (λ e. e.0) body.items)) in
        keeps-loop c (map (of_statement v limit world) (map (λ e. e.0) body.items)) place around (clean-left known (control_uses place around c) inner clean)
        (body-keeps (around ++ checking.sets_of_control c) body.items (clean-right known (control_uses place around c) inner clean) (each-right (λ l. nat_lt l count) (control_labels c) (flat_map (λ (labels : List ℕ). labels) (map statement_labels (map (λ e. e.0) body.items))) own) may))

    by_statement : (y : Stmt-F F ((a : Act F) × QAct a) ((s : Stmt F) × Q s)) → Q (roll-Stmt F (map-Stmt F ((a : Act F) × QAct a) ((s : Stmt F) × Q s) (Act F) (Stmt F) (λ e. e.0) (λ e. e.0) y))
    by_statement y around clean own may =
        let z = map-Stmt F ((a : Act F) × QAct a) ((s : Stmt F) × Q s) (Act F) (Stmt F) (λ e. e.0) (λ e. e.0) y in
        let labels = fold-roll-Stmt F (List ℕ) (List ℕ) labels_step (λ statement. statement.act) z in
        let names = fold-roll-Stmt F (List ℕ) (List ℕ) assigned_step (λ statement. statement.act) z in
        subst Keeps (sym (fold-roll-Stmt F OfAct OfStatement (act_step v limit world) (statement_step v limit) z))
        (λ binding c fits p. y.act.1 y.at around (subst (λ (f : UsesOfStatement F). AreClean known (f known.state around)) (fold-roll-Stmt F (UsesOfAct F) (UsesOfStatement F) uses_step uses_statement z) clean) (subst Own labels own) (subst May names may) y.at binding c fits p)

    -- a statement without an error keeps it
    pub statement-keeps : (s : Stmt F) → Q s
    statement-keeps =
        ind-Stmt F QAct Q
        (λ x y is. subst (λ z. QAct (roll-Act F z)) is (by_layer y))
        (λ x y is. subst (λ z. Q (roll-Stmt F z)) is (by_statement y))
