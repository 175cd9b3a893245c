-- Statements for which no answer remains: they take none, append what they show to what was shown
-- before, and show no solve.
use Rattle.std.proofs.Common.{◌≡◌, ℕ, Bool, true, false, List, [], ◌∷◌, ◌++◌, map, Option, Some, None, Ok, Err, refl, sym, ap, ◌∙◌, subst, append_assoc, append-nil}
use Rattle.std.specs.Prelude.{if◌then◌else◌, option_map}
use Rattle.std.specs.List.{All}
use Rattle.std.proofs.lemmas.List.Elements.{All-nil, All-cons, All-append}
use Rattle.gq_number.specs.Number.{Number}
use Rattle.gms_labels.specs.declared.place.Place.{Place}
use Rattle.gms_ast.specs.declared.program.Show.{Show}
use Rattle.gms_ast.specs.declared.program.Right.TheVariants.{Value}
use Rattle.gms_ast.specs.declared.program.Stmt.{Stmt, roll-Stmt, map-Stmt}
use Rattle.gms_ast.specs.declared.program.Act.{Act, roll-Act, map-Act}
use Rattle.gms_ast.specs.declared.program.Target.{Target}
use Rattle.gms_ast.specs.declared.expression.Expr.{Expr}
use Rattle.gms_ast.specs.declared.program.Act.TheOpen.{Act-F, Stmt-F}
use Rattle.gms_ast.specs.declared.program.Act.TheFolds.{fold-Act, fold-roll-Act, fold-roll-Stmt, ind-Stmt}
use Rattle.gms_ast.specs.Trees as tree
use Rattle.gms_ast.specs.TreeView.{tree_of, control_tree}
use Rattle.gms_store.specs.State.{State}
use Rattle.gms_eval.specs.Bindings.{Pairs, controlled}
use Rattle.gms_eval.specs.Faults.{Answer as Evaluated, Fault}
use Rattle.gms_eval.specs.Holds.{holds}
use Rattle.gms_eval.specs.Value.{domain, sets_of}
use Rattle.gms_event.specs.Events.{Event, displays, solves, aborts}
use Rattle.lp_core.specs.declared.program.Lp.{Lp}
use Rattle.gms_rows.specs.ProgramLp.{program_lp}
use Rattle.gms_rows.specs.Rows.{equations_of}
use Rattle.gms_exec.specs.Assignment.{target_of, after_assignment}
use Rattle.gms_exec.specs.Showing.{all_shown}
use Rattle.gms_exec.specs.Run.{Course, Halt, World, OfAct, OfStatement, in_state, with_event, stopped_by, while_it_runs, with_evaluated, in_sequence, for_each, display, abort, abort_where, over_elements, answered, solve, act_step, statement_step, of_statement, labels_in}

-- an event that is no solve
abbrev pub IsNoSolve : Event → Type 0
IsNoSolve (solves solved) = ⊥
IsNoSolve event = Unit {0}

-- A run continues without an answer: none remains then either, and no further event is a solve.
pub record Quiet (old new : Course) : Type 0 where
  pub left : new.left ≡ []
  pub more : List Event
  pub events : new.events ≡ old.events ++ more
  pub unsolved : All IsNoSolve more

-- nothing was shown
pub quiet_none : (old new : Course) → new.left ≡ [] → new.events ≡ old.events → Quiet old new
quiet_none old new left same = record { left = left; more = []; events = same ∙ sym (append-nil old.events); unsolved = All-nil IsNoSolve }

-- one step after another
pub quiet_more : {a b c : Course} → Quiet a b → Quiet b c → Quiet a c
quiet_more {a} {b} {c} p q =
    record {
      left = q.left;
      more = p.more ++ q.more;
      events = q.events ∙ ap (λ es. es ++ q.more) p.events ∙ append_assoc a.events p.more q.more;
      unsolved = All-append IsNoSolve p.more q.more p.unsolved q.unsolved;
    }

-- one event was shown
quiet_event : (c : Course) (e : Event) → c.left ≡ [] → IsNoSolve e → Quiet c (with_event c e)
quiet_event c e left is = record { left = left; more = e ∷ []; events = refl; unsolved = All-cons IsNoSolve e [] is (All-nil IsNoSolve) }

-- a fault stops a run
quiet_stop : (old c : Course) (fault : Fault) → Quiet old c → Quiet old (stopped_by c fault)
quiet_stop old c fault q = record { left = q.left; more = q.more; events = q.events; unsolved = q.unsolved }

-- a step with a value, or a stop by a fault
quiet_value : {A : Type 0} (r : Evaluated A) (next : A → Course) (c : Course) → c.left ≡ [] → ((x : A) → Quiet c (next x)) → Quiet c (with_evaluated r next c)
quiet_value (Ok x) next c left go = go x
quiet_value (Err fault) next c left go = quiet_stop c c fault (quiet_none c c left refl)

-- a step that is taken only where nothing halts the run
quiet_runs : (next : Course → Course) (c : Course) → c.left ≡ [] → Quiet c (next c) → Quiet c (while_it_runs next c)
quiet_runs next c left go = by_halt c.halted
  where
    by_halt : (h : Option Halt) → Quiet c (elim h [ None ↦ next c | Some halt ↦ c ])
    by_halt None = go
    by_halt (Some halt) = quiet_none c c left refl

-- what a statement does, and what an act does, without answers
abbrev pub IsQuiet : OfStatement → Type 0
IsQuiet s = (binding : Pairs) (c : Course) → c.left ≡ [] → Quiet c (s binding c)

abbrev IsQuietAct : OfAct → Type 0
IsQuietAct act = (at : Place) (binding : Pairs) (c : Course) → c.left ≡ [] → Quiet c (act at binding c)

-- each of some statements is quiet
abbrev pub AreQuiet : List OfStatement → Type 0
AreQuiet [] = Unit {0}
AreQuiet (s ∷ ss) = IsQuiet s × AreQuiet ss

-- statements in sequence
pub quiet_all : (ss : List OfStatement) → AreQuiet ss → IsQuiet (in_sequence ss)
quiet_all [] qs binding c left = quiet_none c c left refl
quiet_all (s ∷ ss) qs binding c left =
    let first = quiet_runs (s binding) c left (qs.0 binding c left) in
    quiet_more first (quiet_all ss qs.1 binding (while_it_runs (s binding) c) first.left)

-- the body of a loop, for each element
quiet_each : (sets : List ℕ) (body : List OfStatement) (elements : List (List ℕ)) → AreQuiet body → IsQuiet (for_each sets body elements)
quiet_each sets body [] qs binding c left = quiet_none c c left refl
quiet_each sets body (element ∷ elements) qs binding c left =
    let first = quiet_all body qs (controlled binding sets element) c left in
    quiet_more first (quiet_each sets body elements qs binding (in_sequence body (controlled binding sets element) c) first.left)

module _ {F : Type 0} (number_of : F → Number) (limit : ℕ) (world : World F) where
  quiet_display : (labels : ℕ) (items : List Show) → IsQuietAct (display number_of limit labels items)
  quiet_display labels items at binding c left =
      quiet_value (all_shown labels c.state binding items) (λ shown. with_event c (displays at.line shown)) c left (λ shown. quiet_event c (displays at.line shown) left tt)

  quiet_abort : (labels : ℕ) (items : List Show) → IsQuietAct (abort number_of limit labels items)
  quiet_abort labels items at binding c left =
      quiet_value (all_shown labels c.state binding items) _ c left (λ shown. quiet_stop c (with_event c (aborts at.line shown)) _ (quiet_event c (aborts at.line shown) left tt))

  quiet_abort_where : (labels : ℕ) (condition : Option (tree.Tree F)) (items : List Show) → IsQuietAct (abort_where number_of limit labels condition items)
  quiet_abort_where labels None items at binding c left = quiet_abort labels items at binding c left
  quiet_abort_where labels (Some condition) items at binding c left =
      quiet_value (holds number_of limit c.state binding condition) (λ so. if so then abort number_of limit labels items at binding c else c) c left by_truth
    where
      by_truth : (so : Bool) → Quiet c (if so then abort number_of limit labels items at binding c else c)
      by_truth true = quiet_abort labels items at binding c left
      by_truth false = quiet_none c c left refl

  quiet_answered : (solvers : List (List ℕ)) (model : ℕ) (equations : List ℕ) (objective : ℕ) (at : Place) (c : Course) (lp : Lp Number) → c.left ≡ [] → Quiet c (answered number_of limit solvers model equations objective at c lp)
  quiet_answered solvers model equations objective at c lp left =
      let waits : answered number_of limit solvers model equations objective at c lp ≡ record c { halted = Some Halt.waiting } = rw left refl in
      subst (λ d. Quiet c d) (sym waits) (record { left = left; more = []; events = sym (append-nil c.events); unsolved = All-nil IsNoSolve })

  quiet_solve : (solvers : List (List ℕ)) (statements : List (Stmt F)) (model objective : ℕ) (maximize : Bool) → IsQuietAct (solve number_of limit solvers statements model objective maximize)
  quiet_solve [] statements model objective maximize at binding c left = quiet_stop c c _ (quiet_none c c left refl)
  quiet_solve (solver ∷ solvers) statements model objective maximize at binding c left =
      quiet_value (program_lp number_of limit c.state statements model objective maximize at) (answered number_of limit (solver ∷ solvers) model (equations_of statements model) objective at c) c left
      (λ lp. quiet_answered (solver ∷ solvers) model (equations_of statements model) objective at c lp left)

  quiet_loop : (control : tree.Control F) (body : List OfStatement) → AreQuiet body → IsQuietAct (over_elements number_of limit control body)
  quiet_loop control body qs at binding c left =
      quiet_value (domain number_of limit c.state binding at control) (λ elements. for_each (sets_of control) body elements binding c) c left
      (λ elements. quiet_each (sets_of control) body elements qs binding c left)

  -- an act, and a statement, of the program
  abbrev of_act : Act F → OfAct
  of_act = fold-Act F OfAct OfStatement (act_step number_of limit world) (statement_step number_of limit)

  abbrev Q : Stmt F → Type 0
  Q s = IsQuiet (of_statement number_of limit world s)

  -- statements that are quiet, each with the proof of it
  body_quiet : (body : List ((s : Stmt F) × Q s)) → AreQuiet (map (of_statement number_of limit world) (map (λ e. e.0) body))
  body_quiet [] = tt
  body_quiet (e ∷ body) = (e.1, body_quiet body)

  -- the claim for an act, from that for its unrolled form
  rolled : (x : Act-F F (Act F) (Stmt F)) (f : OfAct) → of_act (roll-Act F x) ≡ f → IsQuietAct f → IsQuietAct (of_act (roll-Act F x))
  rolled x f e q = subst IsQuietAct (sym e) q

  -- an act that changes the state alone
  quiet_state : (next : Course → State) → IsQuietAct (λ at binding c. in_state c (next c))
  quiet_state next at binding c left = quiet_none c (in_state c (next c)) left refl

  -- an act that does nothing
  quiet_nothing : IsQuietAct (λ at binding c. c)
  quiet_nothing at binding c left = quiet_none c c left refl

  quiet_assign : (target : Target F) (condition : Option (Expr F)) (right_at : Place) (right : Expr F) → IsQuietAct (λ at binding c. with_evaluated (after_assignment number_of limit c.state at binding (target_of target) (option_map tree_of condition) right_at (tree_of right)) (in_state c) c)
  quiet_assign target condition right_at right at binding c left =
      quiet_value (after_assignment number_of limit c.state at binding (target_of target) (option_map tree_of condition) right_at (tree_of right)) (in_state c) c left (λ state. quiet_none c (in_state c state) left refl)

  -- an act whose loop's statements are quiet
  by_layer : (y : Act-F F ((a : Act F) × IsQuietAct (of_act a)) ((s : Stmt F) × Q s)) → IsQuietAct (of_act (roll-Act F (map-Act F ((a : Act F) × IsQuietAct (of_act a)) ((s : Stmt F) × Q s) (Act F) (Stmt F) (λ e. e.0) (λ e. e.0) y)))
  by_layer (Act-F.Declare kind items) = rolled (Act-F.Declare kind items) _ (fold-roll-Act F OfAct OfStatement (act_step number_of limit world) (statement_step number_of limit) (Act-F.Declare kind items)) quiet_nothing
  by_layer (Act-F.Alias first second) = rolled (Act-F.Alias first second) _ (fold-roll-Act F OfAct OfStatement (act_step number_of limit world) (statement_step number_of limit) (Act-F.Alias first second)) quiet_nothing
  by_layer (Act-F.Model models) = rolled (Act-F.Model models) _ (fold-roll-Act F OfAct OfStatement (act_step number_of limit world) (statement_step number_of limit) (Act-F.Model models)) quiet_nothing
  by_layer (Act-F.Define equation indices condition left_at left side right_at right) = rolled (Act-F.Define equation indices condition left_at left side right_at right) _ (fold-roll-Act F OfAct OfStatement (act_step number_of limit world) (statement_step number_of limit) (Act-F.Define equation indices condition left_at left side right_at right)) quiet_nothing
  by_layer (Act-F.Assign target condition right_at (Value right)) = rolled (Act-F.Assign target condition right_at (Value right)) _ (fold-roll-Act F OfAct OfStatement (act_step number_of limit world) (statement_step number_of limit) (Act-F.Assign target condition right_at (Value right))) (quiet_assign target condition right_at right)
  by_layer (Act-F.Display items) = rolled (Act-F.Display items) _ (fold-roll-Act F OfAct OfStatement (act_step number_of limit world) (statement_step number_of limit) (Act-F.Display items)) (quiet_display (labels_in world) items)
  by_layer (Act-F.Options settings) = rolled (Act-F.Options settings) _ (fold-roll-Act F OfAct OfStatement (act_step number_of limit world) (statement_step number_of limit) (Act-F.Options settings)) (λ at binding c left. quiet_none c _ left refl)
  by_layer (Act-F.Abort condition items) = rolled (Act-F.Abort condition items) _ (fold-roll-Act F OfAct OfStatement (act_step number_of limit world) (statement_step number_of limit) (Act-F.Abort condition items)) (quiet_abort_where (labels_in world) (option_map tree_of condition) items)
  by_layer (Act-F.Solve model word objective maximize) = rolled (Act-F.Solve model word objective maximize) _ (fold-roll-Act F OfAct OfStatement (act_step number_of limit world) (statement_step number_of limit) (Act-F.Solve model word objective maximize)) (quiet_solve world.solvers world.program.statements.items model.name objective.name maximize)
  by_layer (Act-F.Loop control body) = rolled (map-Act F ((a : Act F) × IsQuietAct (of_act a)) ((s : Stmt F) × Q s) (Act F) (Stmt F) (λ e. e.0) (λ e. e.0) (Act-F.Loop control body)) _ (fold-roll-Act F OfAct OfStatement (act_step number_of limit world) (statement_step number_of limit) (map-Act F ((a : Act F) × IsQuietAct (of_act a)) ((s : Stmt F) × Q s) (Act F) (Stmt F) (λ e. e.0) (λ e. e.0) (Act-F.Loop control body))) (quiet_loop (control_tree control) _ (body_quiet body.items))

  -- a statement whose act is quiet
  by_statement : (y : Stmt-F F ((a : Act F) × IsQuietAct (of_act a)) ((s : Stmt F) × Q s)) → Q (roll-Stmt F (map-Stmt F ((a : Act F) × IsQuietAct (of_act a)) ((s : Stmt F) × Q s) (Act F) (Stmt F) (λ e. e.0) (λ e. e.0) y))
  by_statement y =
      let z = map-Stmt F ((a : Act F) × IsQuietAct (of_act a)) ((s : Stmt F) × Q s) (Act F) (Stmt F) (λ e. e.0) (λ e. e.0) y in
      subst IsQuiet (sym (fold-roll-Stmt F OfAct OfStatement (act_step number_of limit world) (statement_step number_of limit) z)) (λ binding c left. y.act.1 y.at binding c left)

  -- Each statement is quiet where no answer remains.
  pub quiet_statement : (s : Stmt F) → Q s
  quiet_statement =
      ind-Stmt F (λ act. IsQuietAct (of_act act)) Q
      (λ x y is. subst (λ z. IsQuietAct (of_act (roll-Act F z))) is (by_layer y))
      (λ x y is. subst (λ z. Q (roll-Stmt F z)) is (by_statement y))
