-- The solves that a run shows take its answers in order: the first, then the second, and so on.
use Rattle.std.proofs.Common.{◌≡◌, ℕ, ◌+◌, Bool, true, false, List, [], ◌∷◌, ◌++◌, map, Option, Some, None, Ok, Err, refl, sym, ap, ◌∙◌, subst, append-nil, arith}
use Rattle.std.specs.Prelude.{if◌then◌else◌, option_map}
use Rattle.std.specs.List.{range_with_len}
use Rattle.std.proofs.lemmas.Grind.{flat_map-append}
use Rattle.std.proofs.lemmas.List.{map-append, map-id}
use Rattle.std.proofs.lemmas.List.FromFn.{map-range_with_len_more}
use Rattle.gq_number.specs.Number.{Number}
use Rattle.gq_frac.specs.declared.frac.Frac.{Frac}
use Rattle.gq_frac.specs.Frac.{frac_value, frac_limit}
use Rattle.gms_labels.specs.declared.place.Place.{Place}
use Rattle.gms_ast.specs.declared.program.Show.{Show}
use Rattle.gms_ast.specs.declared.program.Right.TheVariants.{Value}
use Rattle.gms_ast.specs.declared.program.Stmt.{Stmt, roll-Stmt, map-Stmt}
use Rattle.gms_ast.specs.declared.program.Act.{Act, roll-Act, map-Act}
use Rattle.gms_ast.specs.declared.program.Target.{Target}
use Rattle.gms_ast.specs.declared.expression.Expr.{Expr}
use Rattle.gms_ast.specs.declared.program.Act.TheOpen.{Act-F, Stmt-F}
use Rattle.gms_ast.specs.declared.program.Act.TheFolds.{fold-Act, fold-roll-Act, fold-roll-Stmt, ind-Stmt}
use Rattle.gms_ast.specs.Trees as tree
use Rattle.gms_ast.specs.TreeView.{tree_of, control_tree}
use Rattle.gms_eval.specs.Bindings.{Pairs, controlled}
use Rattle.gms_eval.specs.Faults.{Answer as Evaluated, faulted, nothing}
use Rattle.gms_eval.specs.declared.stop.StopKind.TheVariants.{Aborted}
use Rattle.gms_eval.specs.Holds.{holds}
use Rattle.gms_eval.specs.Value.{domain, sets_of}
use Rattle.gms_event.specs.Events.{Event, Solved, displays, aborts}
use Rattle.lp_core.specs.declared.answer.Answer.{Answer}
use Rattle.lp_core.specs.declared.program.Lp.{Lp}
use Rattle.gms_rows.specs.ProgramLp.{program_lp}
use Rattle.gms_rows.specs.Rows.{equations_of}
use Rattle.gms_exec.specs.Assignment.{target_of, after_assignment}
use Rattle.gms_exec.specs.Showing.{all_shown}
use Rattle.gms_exec.specs.Run.{Course, Halt, World, OfAct, OfStatement, in_state, with_event, stopped_by, while_it_runs, with_evaluated, in_sequence, for_each, display, abort, abort_where, over_elements, answered, solve, act_step, statement_step, of_statement, labels_in}
use Rattle.gms_run.specs.Solving.{Solving, numbers_of, places_of, solve_of, solves_in}
use Rattle.gms_run.specs.ProgramsToRun.{ProgramToRun, course_of}

-- the places at which the solves among events have their answers
abbrev pub places_in : List Event → List ℕ
places_in events = places_of (solves_in events)

-- The solves so far have the answers that were taken so far, in order.
abbrev pub IsNumbered : Course → Type 0
IsNumbered c = places_in c.events ≡ range_with_len 0 c.taken

-- the places of two lists of events
places-append : (events more : List Event) → places_in (events ++ more) ≡ places_in events ++ places_in more
places-append events more =
    ap (map (λ (solved : Solved). solved.answer)) (flat_map-append solve_of events more) ∙ map-append (λ (solved : Solved). solved.answer) (solves_in events) (solves_in more)

-- one more number
range-more : (n : ℕ) → range_with_len 0 n ++ n ∷ [] ≡ range_with_len 0 (n + 1)
range-more n = ap (λ xs. xs ++ n ∷ []) (sym (map-id (range_with_len 0 n))) ∙ sym (map-range_with_len_more (λ k. k) 0 n n (omega arith)) ∙ map-id (range_with_len 0 (n + 1))

-- an event that is no solve is shown
numbered_event : (c : Course) (e : Event) → places_in (e ∷ []) ≡ [] → IsNumbered c → IsNumbered (with_event c e)
numbered_event c e none is = places-append c.events (e ∷ []) ∙ ap (λ ps. places_in c.events ++ ps) none ∙ append-nil (places_in c.events) ∙ is

-- a step with a value, or a stop by a fault
numbered_value : {A : Type 0} (r : Evaluated A) (next : A → Course) (c : Course) → IsNumbered c → ((x : A) → IsNumbered (next x)) → IsNumbered (with_evaluated r next c)
numbered_value (Ok x) next c is go = go x
numbered_value (Err fault) next c is go = is

-- a step that is taken only where nothing halts the run
numbered_runs : (next : Course → Course) (c : Course) → IsNumbered c → IsNumbered (next c) → IsNumbered (while_it_runs next c)
numbered_runs next c is go = by_halt c.halted
  where
    by_halt : (h : Option Halt) → IsNumbered (elim h [ None ↦ next c | Some halt ↦ c ])
    by_halt None = go
    by_halt (Some halt) = is

-- a statement, and an act, keep the order
abbrev Keeps : OfStatement → Type 0
Keeps s = (binding : Pairs) (c : Course) → IsNumbered c → IsNumbered (s binding c)

abbrev KeepsAct : OfAct → Type 0
KeepsAct act = (at : Place) (binding : Pairs) (c : Course) → IsNumbered c → IsNumbered (act at binding c)

-- each of some statements does
abbrev AllKeep : List OfStatement → Type 0
AllKeep [] = Unit {0}
AllKeep (s ∷ ss) = Keeps s × AllKeep ss

-- statements in sequence
numbered_all : (ss : List OfStatement) → AllKeep ss → Keeps (in_sequence ss)
numbered_all [] ks binding c is = is
numbered_all (s ∷ ss) ks binding c is = numbered_all ss ks.1 binding (while_it_runs (s binding) c) (numbered_runs (s binding) c is (ks.0 binding c is))

-- the body of a loop, for each element
numbered_each : (sets : List ℕ) (body : List OfStatement) (elements : List (List ℕ)) → AllKeep body → Keeps (for_each sets body elements)
numbered_each sets body [] ks binding c is = is
numbered_each sets body (element ∷ elements) ks binding c is =
    numbered_each sets body elements ks binding (in_sequence body (controlled binding sets element) c) (numbered_all body ks (controlled binding sets element) c is)

module _ {F : Type 0} (number_of : F → Number) (limit : ℕ) (world : World F) where
  numbered_display : (labels : ℕ) (items : List Show) → KeepsAct (display number_of limit labels items)
  numbered_display labels items at binding c is =
      numbered_value (all_shown labels c.state binding items) (λ shown. with_event c (displays at.line shown)) c is (λ shown. numbered_event c (displays at.line shown) refl is)

  numbered_abort : (labels : ℕ) (items : List Show) → KeepsAct (abort number_of limit labels items)
  numbered_abort labels items at binding c is =
      numbered_value (all_shown labels c.state binding items) (λ shown. stopped_by (with_event c (aborts at.line shown)) (faulted Aborted at binding nothing nothing)) c is (λ shown. numbered_event c (aborts at.line shown) refl is)

  numbered_abort_where : (labels : ℕ) (condition : Option (tree.Tree F)) (items : List Show) → KeepsAct (abort_where number_of limit labels condition items)
  numbered_abort_where labels None items at binding c is = numbered_abort labels items at binding c is
  numbered_abort_where labels (Some condition) items at binding c is =
      numbered_value (holds number_of limit c.state binding condition) (λ so. if so then abort number_of limit labels items at binding c else c) c is by_truth
    where
      by_truth : (so : Bool) → IsNumbered (if so then abort number_of limit labels items at binding c else c)
      by_truth true = numbered_abort labels items at binding c is
      by_truth false = is

  numbered_answered : (solvers : List (List ℕ)) (model : ℕ) (equations : List ℕ) (objective : ℕ) (at : Place) (c : Course) (lp : Lp Number) → IsNumbered c → IsNumbered (answered number_of limit solvers model equations objective at c lp)
  numbered_answered solvers model equations objective at c lp is = by_left c.left refl
    where
      by_left : (left : List (Answer Number)) → c.left ≡ left → IsNumbered (answered number_of limit solvers model equations objective at c lp)
      by_left [] e = rw e is
      by_left (answer ∷ left) e = rw e (places-append c.events _ ∙ ap (λ ps. ps ++ c.taken ∷ []) is ∙ range-more c.taken)

  numbered_solve : (solvers : List (List ℕ)) (statements : List (Stmt F)) (model objective : ℕ) (maximize : Bool) → KeepsAct (solve number_of limit solvers statements model objective maximize)
  numbered_solve [] statements model objective maximize at binding c is = is
  numbered_solve (solver ∷ solvers) statements model objective maximize at binding c is =
      numbered_value (program_lp number_of limit c.state statements model objective maximize at) (answered number_of limit (solver ∷ solvers) model (equations_of statements model) objective at c) c is
      (λ lp. numbered_answered (solver ∷ solvers) model (equations_of statements model) objective at c lp is)

  numbered_loop : (control : tree.Control F) (body : List OfStatement) → AllKeep body → KeepsAct (over_elements number_of limit control body)
  numbered_loop control body ks at binding c is =
      numbered_value (domain number_of limit c.state binding at control) (λ elements. for_each (sets_of control) body elements binding c) c is
      (λ elements. numbered_each (sets_of control) body elements ks binding c is)

  -- an act, and a statement, of the program
  abbrev of_act : Act F → OfAct
  of_act = fold-Act F OfAct OfStatement (act_step number_of limit world) (statement_step number_of limit)

  abbrev Q : Stmt F → Type 0
  Q s = Keeps (of_statement number_of limit world s)

  -- the statements of a body keep the order, from a proof for each
  body_keeps : (body : List ((s : Stmt F) × Q s)) → AllKeep (map (of_statement number_of limit world) (map (λ e. e.0) body))
  body_keeps [] = tt
  body_keeps (e ∷ body) = (e.1, body_keeps body)

  -- an act keeps the order where its unrolled form does
  rolled : (x : Act-F F (Act F) (Stmt F)) (f : OfAct) → of_act (roll-Act F x) ≡ f → KeepsAct f → KeepsAct (of_act (roll-Act F x))
  rolled x f e q = subst KeepsAct (sym e) q

  numbered_assign : (target : Target F) (condition : Option (Expr F)) (right_at : Place) (right : Expr F) → KeepsAct (λ at binding c. with_evaluated (after_assignment number_of limit c.state at binding (target_of target) (option_map tree_of condition) right_at (tree_of right)) (in_state c) c)
  numbered_assign target condition right_at right at binding c is =
      numbered_value (after_assignment number_of limit c.state at binding (target_of target) (option_map tree_of condition) right_at (tree_of right)) (in_state c) c is (λ state. is)

  -- an act keeps the order, if the statements of its loop do
  by_layer : (y : Act-F F ((a : Act F) × KeepsAct (of_act a)) ((s : Stmt F) × Q s)) → KeepsAct (of_act (roll-Act F (map-Act F ((a : Act F) × KeepsAct (of_act a)) ((s : Stmt F) × Q s) (Act F) (Stmt F) (λ e. e.0) (λ e. e.0) y)))
  by_layer (Act-F.Declare kind items) = rolled (Act-F.Declare kind items) _ (fold-roll-Act F OfAct OfStatement (act_step number_of limit world) (statement_step number_of limit) (Act-F.Declare kind items)) (λ at binding c is. is)
  by_layer (Act-F.Alias first second) = rolled (Act-F.Alias first second) _ (fold-roll-Act F OfAct OfStatement (act_step number_of limit world) (statement_step number_of limit) (Act-F.Alias first second)) (λ at binding c is. is)
  by_layer (Act-F.Model models) = rolled (Act-F.Model models) _ (fold-roll-Act F OfAct OfStatement (act_step number_of limit world) (statement_step number_of limit) (Act-F.Model models)) (λ at binding c is. is)
  by_layer (Act-F.Define equation indices condition left_at left side right_at right) = rolled (Act-F.Define equation indices condition left_at left side right_at right) _ (fold-roll-Act F OfAct OfStatement (act_step number_of limit world) (statement_step number_of limit) (Act-F.Define equation indices condition left_at left side right_at right)) (λ at binding c is. is)
  by_layer (Act-F.Assign target condition right_at (Value right)) = rolled (Act-F.Assign target condition right_at (Value right)) _ (fold-roll-Act F OfAct OfStatement (act_step number_of limit world) (statement_step number_of limit) (Act-F.Assign target condition right_at (Value right))) (numbered_assign target condition right_at right)
  by_layer (Act-F.Display items) = rolled (Act-F.Display items) _ (fold-roll-Act F OfAct OfStatement (act_step number_of limit world) (statement_step number_of limit) (Act-F.Display items)) (numbered_display (labels_in world) items)
  by_layer (Act-F.Options settings) = rolled (Act-F.Options settings) _ (fold-roll-Act F OfAct OfStatement (act_step number_of limit world) (statement_step number_of limit) (Act-F.Options settings)) (λ at binding c is. is)
  by_layer (Act-F.Abort condition items) = rolled (Act-F.Abort condition items) _ (fold-roll-Act F OfAct OfStatement (act_step number_of limit world) (statement_step number_of limit) (Act-F.Abort condition items)) (numbered_abort_where (labels_in world) (option_map tree_of condition) items)
  by_layer (Act-F.Solve model word objective maximize) = rolled (Act-F.Solve model word objective maximize) _ (fold-roll-Act F OfAct OfStatement (act_step number_of limit world) (statement_step number_of limit) (Act-F.Solve model word objective maximize)) (numbered_solve world.solvers world.program.statements.items model.name objective.name maximize)
  by_layer (Act-F.Loop control body) = rolled (map-Act F ((a : Act F) × KeepsAct (of_act a)) ((s : Stmt F) × Q s) (Act F) (Stmt F) (λ e. e.0) (λ e. e.0) (Act-F.Loop control body)) _ (fold-roll-Act F OfAct OfStatement (act_step number_of limit world) (statement_step number_of limit) (map-Act F ((a : Act F) × KeepsAct (of_act a)) ((s : Stmt F) × Q s) (Act F) (Stmt F) (λ e. e.0) (λ e. e.0) (Act-F.Loop control body))) (numbered_loop (control_tree control) _ (body_keeps body.items))

  -- a statement keeps the order, if its act does
  by_statement : (y : Stmt-F F ((a : Act F) × KeepsAct (of_act a)) ((s : Stmt F) × Q s)) → Q (roll-Stmt F (map-Stmt F ((a : Act F) × KeepsAct (of_act a)) ((s : Stmt F) × Q s) (Act F) (Stmt F) (λ e. e.0) (λ e. e.0) y))
  by_statement y =
      let z = map-Stmt F ((a : Act F) × KeepsAct (of_act a)) ((s : Stmt F) × Q s) (Act F) (Stmt F) (λ e. e.0) (λ e. e.0) y in
      subst Keeps (sym (fold-roll-Stmt F OfAct OfStatement (act_step number_of limit world) (statement_step number_of limit) z)) (λ binding c is. y.act.1 y.at binding c is)

  -- Each statement keeps the order.
  pub numbered_statement : (s : Stmt F) → Q s
  numbered_statement =
      ind-Stmt F (λ act. KeepsAct (of_act act)) Q
      (λ x y is. subst (λ z. KeepsAct (of_act (roll-Act F z))) is (by_layer y))
      (λ x y is. subst (λ z. Q (roll-Stmt F z)) is (by_statement y))

  -- and so do all
  pub numbered_statements : (ss : List (Stmt F)) → AllKeep (map (of_statement number_of limit world) ss)
  numbered_statements [] = tt
  numbered_statements (s ∷ ss) = (numbered_statement s, numbered_statements ss)

-- The solves of a program to run take its answers in order.
pub numbered_program : (to_run : ProgramToRun) (solving : Solving) → IsNumbered (course_of to_run solving)
numbered_program to_run solving =
    let world : World Frac = record { program = to_run.program; solvers = solving.before.names } in
    numbered_all (map (of_statement frac_value frac_limit world) to_run.statements) (numbered_statements frac_value frac_limit world to_run.statements) []
    (record { state = to_run.state; events = []; left = numbers_of solving.answers; taken = 0; halted = None }) refl
