-- What assignments, solves and options keep of a state is kept by each statement, loops too.
use Rattle.std.proofs.Common.{◌≡◌, ℕ, Bool, true, false, List, [], ◌∷◌, ◌++◌, map, Option, Some, None, option_map, Ok, Err, sym, subst}
use Rattle.std.specs.Prelude.{if◌then◌else◌, flat_map}
use Rattle.gq_number.specs.Number.{Number}
use Rattle.gms_labels.specs.declared.place.Place.{Place}
use Rattle.gms_ast.specs.declared.expression.Expr.{Expr}
use Rattle.gms_ast.specs.declared.expression.Suffix.{Suffix}
use Rattle.gms_ast.specs.declared.program.Act.{Act, roll-Act, map-Act}
use Rattle.gms_ast.specs.declared.program.Act.TheFolds.{fold-Act, fold-roll-Act, fold-roll-Stmt, ind-Stmt}
use Rattle.gms_ast.specs.declared.program.Act.TheOpen.{Act-F, Stmt-F}
use Rattle.gms_ast.specs.declared.program.Right.TheVariants.{Value}
use Rattle.gms_ast.specs.declared.program.Setting.{Setting}
use Rattle.gms_ast.specs.declared.program.Show.{Show}
use Rattle.gms_ast.specs.declared.program.Stmt.{Stmt, roll-Stmt, map-Stmt}
use Rattle.gms_ast.specs.declared.program.Target.{Target}
use Rattle.gms_ast.specs.declared.word.Word.{Word}
use Rattle.gms_ast.specs.Trees as tree
use Rattle.gms_ast.specs.TreeView.{tree_of, control_tree}
use Rattle.gms_store.specs.State.{State, with_settings}
use Rattle.gms_scope.specs.DynamicSets.{assigned_names, assigned_step}
use Rattle.gms_eval.specs.Bindings.{Pairs, controlled}
use Rattle.gms_eval.specs.Faults.{Answer as Evaluated, ◌and_then◌}
use Rattle.gms_eval.specs.Holds.{holds}
use Rattle.gms_eval.specs.Value.{domain, sets_of}
use Rattle.gms_rows.specs.ProgramLp.{program_lp}
use Rattle.gms_rows.specs.Rows.{equations_of}
use Rattle.lp_core.specs.declared.answer.Answer.{Answer}
use Rattle.lp_core.specs.declared.answer.End.{End}
use Rattle.lp_core.specs.declared.program.Lp.{Lp}
use Rattle.gms_exec.specs.Assignment.{given_by, target_of}
use Rattle.gms_exec.specs.Given.{AllGiven, after_given}
use Rattle.gms_exec.specs.Options.{after_options}
use Rattle.gms_exec.specs.Run.{Course, Halt, World, OfAct, OfStatement, in_state, while_it_runs, with_evaluated, in_sequence, for_each, display, abort, abort_where, over_elements, answered, solve, act_step, statement_step, of_statement, labels_in}
use Rattle.gms_exec.specs.Showing.{all_shown}
use Rattle.gms_exec.specs.Solved.{after_end}

-- ---- statements in sequence

module _ (P : State → Type 0) where
  -- a statement keeps it, and an act
  abbrev pub Keeps : OfStatement → Type 0
  Keeps s = (binding : Pairs) (c : Course) → P c.state → P (s binding c).state

  abbrev pub KeepsAct : OfAct → Type 0
  KeepsAct act = (at : Place) (binding : Pairs) (c : Course) → P c.state → P (act at binding c).state

  -- each of some statements does
  abbrev pub EachKeeps : List OfStatement → Type 0
  EachKeeps [] = Unit {0}
  EachKeeps (s ∷ ss) = Keeps s × EachKeeps ss

  while-keeps : (next : Course → Course) (c : Course) → (P c.state → P (next c).state) → P c.state → P (while_it_runs next c).state
  while-keeps next c keep p = by c.halted
    where
      by : (h : Option Halt) → P (elim h as (λ _. Course) [ None ↦ next c | Some halt ↦ c ]).state
      by None = keep p
      by (Some halt) = p

  pub all-keep : (ss : List OfStatement) → EachKeeps ss → Keeps (in_sequence ss)
  all-keep [] each binding c p = p
  all-keep (s ∷ ss) each binding c p = all-keep ss each.1 binding (while_it_runs (s binding) c) (while-keeps (s binding) c (each.0 binding c) p)

  each-keeps : (sets : List ℕ) (body : List OfStatement) (elements : List (List ℕ)) → EachKeeps body → Keeps (for_each sets body elements)
  each-keeps sets body [] each binding c p = p
  each-keeps sets body (element ∷ elements) each binding c p =
      each-keeps sets body elements each binding (in_sequence body (controlled binding sets element) c) (all-keep body each (controlled binding sets element) c p)

  value-keeps : {A : Type 0} (r : Evaluated A) (next : A → Course) (c : Course) → ((x : A) → P (next x).state) → P c.state → P (with_evaluated r next c).state
  value-keeps (Ok x) next c each p = each x
  value-keeps (Err fault) next c each p = p

-- ---- each statement

module _ {F : Type 0} (v : F → Number) (limit : ℕ) (world : World F) (P : State → Type 0) (Allowed : ℕ → Type 0) (givens : (s : State) (kind : Suffix) (name : ℕ) (all : AllGiven) → Allowed name → P s → P (after_given kind name all s)) (ends : (s : State) (model : ℕ) (lp : Lp Number) (end : End Number) → P s → P (after_end s model lp end)) (sets : (s : State) (settings : List (Word × Setting F)) → P s → P (with_settings s (after_options v world.solvers s.settings settings))) where
  -- the names that are assigned may be
  abbrev pub AreAllowed : List ℕ → Type 0
  AreAllowed [] = Unit {0}
  AreAllowed (n ∷ ns) = Allowed n × AreAllowed ns

  allowed-left : (ns ms : List ℕ) → AreAllowed (ns ++ ms) → AreAllowed ns
  allowed-left [] ms all = tt
  allowed-left (n ∷ ns) ms all = (all.0, allowed-left ns ms all.1)

  allowed-right : (ns ms : List ℕ) → AreAllowed (ns ++ ms) → AreAllowed ms
  allowed-right [] ms all = all
  allowed-right (n ∷ ns) ms all = allowed-right ns ms all.1

  abbrev of_act : Act F → OfAct
  of_act = fold-Act F OfAct OfStatement (act_step v limit world) (statement_step v limit)

  abbrev names_in : Act F → List ℕ
  names_in = fold-Act F (List ℕ) (List ℕ) assigned_step (λ statement. statement.act)

  abbrev QAct : Act F → Type 0
  QAct act = AreAllowed (names_in act) → KeepsAct P (of_act act)

  abbrev Q : Stmt F → Type 0
  Q s = AreAllowed (assigned_names s) → Keeps P (of_statement v limit world s)

  body_keeps : (body : List ((s : Stmt F) × Q s)) → AreAllowed (flat_map (λ (names : List ℕ). names) (map assigned_names (map (λ e. e.0) body))) → EachKeeps P (map (of_statement v limit world) (map (λ e. e.0) body))
  body_keeps [] all = tt
  body_keeps (e ∷ body) all =
      (e.1 (allowed-left (assigned_names e.0) (flat_map (λ (names : List ℕ). names) (map assigned_names (map (λ e. e.0) body))) all), body_keeps body (allowed-right (assigned_names e.0) (flat_map (λ (names : List ℕ). names) (map assigned_names (map (λ e. e.0) body))) all))

  -- the claim for an act, from that for its unrolled form
  rolled : (x : Act-F F (Act F) (Stmt F)) (f : OfAct) (names : List ℕ) → of_act (roll-Act F x) ≡ f → names_in (roll-Act F x) ≡ names → (AreAllowed names → KeepsAct P f) → QAct (roll-Act F x)
  rolled x f names e same keeps all = subst (KeepsAct P) (sym e) (keeps (subst AreAllowed same all))

  keeps-assign : (target : Target F) (condition : Option (Expr F)) (right_at : Place) (right : Expr F) (at : Place) (binding : Pairs) (c : Course) (given : Evaluated AllGiven) → Allowed target.name → P c.state → P (with_evaluated (given and_then λ given. Ok (after_given target.suffix target.name given c.state)) (in_state c) c).state
  keeps-assign target condition right_at right at binding c (Ok given) may p = givens c.state target.suffix target.name given may p
  keeps-assign target condition right_at right at binding c (Err fault) may p = p

  keeps-display : (labels : ℕ) (items : List Show) → KeepsAct P (display v limit labels items)
  keeps-display labels items at binding c p = value-keeps P (all_shown labels c.state binding items) _ c (λ shown. p) p

  keeps-abort : (labels : ℕ) (items : List Show) → KeepsAct P (abort v limit labels items)
  keeps-abort labels items at binding c p = value-keeps P (all_shown labels c.state binding items) _ c (λ shown. p) p

  keeps-abort_where : (labels : ℕ) (condition : Option (tree.Tree F)) (items : List Show) → KeepsAct P (abort_where v limit labels condition items)
  keeps-abort_where labels None items at binding c p = keeps-abort labels items at binding c p
  keeps-abort_where labels (Some condition) items at binding c p =
      value-keeps P (holds v limit c.state binding condition) (λ so. if so then abort v limit labels items at binding c else c) c by p
    where
      by : (so : Bool) → P (if so then abort v limit labels items at binding c else c).state
      by true = keeps-abort labels items at binding c p
      by false = p

  keeps-loop : (control : tree.Control F) (body : List OfStatement) → EachKeeps P body → KeepsAct P (over_elements v limit control body)
  keeps-loop control body each at binding c p =
      value-keeps P (domain v limit c.state binding at control) (λ elements. for_each (sets_of control) body elements binding c) c (λ elements. each-keeps P (sets_of control) body elements each binding c p) p

  keeps-answered : (c : Course) (left : List (Answer Number)) (solvers : List (List ℕ)) (model : ℕ) (equations : List ℕ) (objective : ℕ) (at : Place) (lp : Lp Number) → P c.state → P (answered v limit solvers model equations objective at (record c { left = left }) lp).state
  keeps-answered c [] solvers model equations objective at lp p = p
  keeps-answered c (answer ∷ left) solvers model equations objective at lp p = ends c.state model lp answer.end p

  keeps-solve : (solvers : List (List ℕ)) (statements : List (Stmt F)) (model objective : ℕ) (maximize : Bool) → KeepsAct P (solve v limit solvers statements model objective maximize)
  keeps-solve [] statements model objective maximize at binding c p = p
  keeps-solve (solver ∷ solvers) statements model objective maximize at binding c p =
      value-keeps P (program_lp v limit c.state statements model objective maximize at) (answered v limit (solver ∷ solvers) model (equations_of statements model) objective at c) c (λ lp. keeps-answered c c.left (solver ∷ solvers) model (equations_of statements model) objective at lp p) p

  nothing-kept : KeepsAct P (λ at binding c. c)
  nothing-kept at binding c p = p

  module _ (x : Act-F F (Act F) (Stmt F)) where
    names-is : names_in (roll-Act F x) ≡ assigned_step (map-Act F (Act F) (Stmt F) (List ℕ) (List ℕ) names_in assigned_names x)
    names-is = fold-roll-Act F (List ℕ) (List ℕ) assigned_step (λ statement. statement.act) x

    does-is : of_act (roll-Act F x) ≡ act_step v limit world (map-Act F (Act F) (Stmt F) OfAct OfStatement of_act (of_statement v limit world) x)
    does-is = fold-roll-Act F OfAct OfStatement (act_step v limit world) (statement_step v limit) x

  -- an act whose loop's statements keep it
  by_layer : (y : Act-F F ((a : Act F) × QAct a) ((s : Stmt F) × Q s)) → QAct (roll-Act F (map-Act F ((a : Act F) × QAct a) ((s : Stmt F) × Q s) (Act F) (Stmt F) (λ e. e.0) (λ e. e.0) y))
  by_layer (Act-F.Declare kind items) = rolled (Act-F.Declare kind items) _ _ (does-is (Act-F.Declare kind items)) (names-is (Act-F.Declare kind items)) (λ all. nothing-kept)
  by_layer (Act-F.Alias first second) = rolled (Act-F.Alias first second) _ _ (does-is (Act-F.Alias first second)) (names-is (Act-F.Alias first second)) (λ all. nothing-kept)
  by_layer (Act-F.Model models) = rolled (Act-F.Model models) _ _ (does-is (Act-F.Model models)) (names-is (Act-F.Model models)) (λ all. nothing-kept)
  by_layer (Act-F.Define equation indices condition left_at left side right_at right) =
      rolled (Act-F.Define equation indices condition left_at left side right_at right) _ _ (does-is (Act-F.Define equation indices condition left_at left side right_at right)) (names-is (Act-F.Define equation indices condition left_at left side right_at right)) (λ all. nothing-kept)
  by_layer (Act-F.Assign target condition right_at (Value right)) =
      rolled (Act-F.Assign target condition right_at (Value right)) _ _ (does-is (Act-F.Assign target condition right_at (Value right))) (names-is (Act-F.Assign target condition right_at (Value right)))
      (λ all at binding c p. keeps-assign target condition right_at right at binding c (given_by v limit c.state at binding (target_of target) (option_map tree_of condition) right_at (tree_of right)) all.0 p)
  by_layer (Act-F.Display items) = rolled (Act-F.Display items) _ _ (does-is (Act-F.Display items)) (names-is (Act-F.Display items)) (λ all. keeps-display (labels_in world) items)
  by_layer (Act-F.Options settings) =
      rolled (Act-F.Options settings) _ _ (does-is (Act-F.Options settings)) (names-is (Act-F.Options settings)) (λ all at binding c p. sets c.state settings p)
  by_layer (Act-F.Abort condition items) =
      rolled (Act-F.Abort condition items) _ _ (does-is (Act-F.Abort condition items)) (names-is (Act-F.Abort condition items)) (λ all. keeps-abort_where (labels_in world) (option_map tree_of condition) items)
  by_layer (Act-F.Solve model word objective maximize) =
      rolled (Act-F.Solve model word objective maximize) _ _ (does-is (Act-F.Solve model word objective maximize)) (names-is (Act-F.Solve model word objective maximize)) (λ all. keeps-solve world.solvers world.program.statements.items model.name objective.name maximize)
  by_layer (Act-F.Loop control body) =
      let x = map-Act F ((a : Act F) × QAct a) ((s : Stmt F) × Q s) (Act F) (Stmt F) (λ e. e.0) (λ e. e.0) (Act-F.Loop control body) in
      rolled x _ _ (does-is x) (names-is x) (λ all. keeps-loop (control_tree control) _ (body_keeps body.items all))

  -- a statement whose act does
  by_statement : (y : Stmt-F F ((a : Act F) × QAct a) ((s : Stmt F) × Q s)) → Q (roll-Stmt F (map-Stmt F ((a : Act F) × QAct a) ((s : Stmt F) × Q s) (Act F) (Stmt F) (λ e. e.0) (λ e. e.0) y))
  by_statement y all =
      let z = map-Stmt F ((a : Act F) × QAct a) ((s : Stmt F) × Q s) (Act F) (Stmt F) (λ e. e.0) (λ e. e.0) y in
      let names = fold-roll-Stmt F (List ℕ) (List ℕ) assigned_step (λ statement. statement.act) z in
      subst (Keeps P) (sym (fold-roll-Stmt F OfAct OfStatement (act_step v limit world) (statement_step v limit) z)) (λ binding c p. y.act.1 (subst AreAllowed names all) y.at binding c p)

  -- Each statement keeps it, where the names that it assigns may be assigned.
  pub keeps-statement : (s : Stmt F) → AreAllowed (assigned_names s) → Keeps P (of_statement v limit world s)
  keeps-statement =
      ind-Stmt F QAct Q
      (λ x y is. subst (λ z. QAct (roll-Act F z)) is (by_layer y))
      (λ x y is. subst (λ z. Q (roll-Stmt F z)) is (by_statement y))
