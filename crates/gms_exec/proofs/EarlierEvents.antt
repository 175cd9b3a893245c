-- What a run showed before has no effect on what statements do: they append what they show to it.
use Rattle.std.proofs.Common.{◌≡◌, ℕ, ◌+◌, Bool, true, false, List, [], ◌∷◌, ◌++◌, map, Option, Some, None, Ok, Err, refl, sym, ap, ◌∙◌, subst, append_assoc}
use Rattle.std.specs.Prelude.{if◌then◌else◌, option_map}
use Rattle.gq_number.specs.Number.{Number}
use Rattle.gms_labels.specs.declared.place.Place.{Place}
use Rattle.gms_ast.specs.declared.program.Show.{Show}
use Rattle.gms_ast.specs.declared.program.Right.TheVariants.{Value}
use Rattle.gms_ast.specs.declared.program.Stmt.{Stmt, roll-Stmt, map-Stmt}
use Rattle.gms_ast.specs.declared.program.Act.{Act, roll-Act, map-Act}
use Rattle.gms_ast.specs.declared.program.Target.{Target}
use Rattle.gms_ast.specs.declared.expression.Expr.{Expr}
use Rattle.gms_ast.specs.declared.program.Act.TheOpen.{Act-F, Stmt-F}
use Rattle.gms_ast.specs.declared.program.Act.TheFolds.{fold-Act, fold-roll-Act, fold-roll-Stmt, ind-Stmt}
use Rattle.gms_ast.specs.Trees as tree
use Rattle.gms_ast.specs.TreeView.{tree_of, control_tree}
use Rattle.gms_eval.specs.Bindings.{Pairs, controlled}
use Rattle.gms_eval.specs.Faults.{Answer as Evaluated, faulted, nothing}
use Rattle.gms_eval.specs.declared.stop.StopKind.TheVariants.{Aborted}
use Rattle.gms_eval.specs.Holds.{holds}
use Rattle.gms_eval.specs.Value.{domain, sets_of}
use Rattle.gms_event.specs.Events.{Event, displays, aborts}
use Rattle.lp_core.specs.declared.program.Lp.{Lp}
use Rattle.gms_rows.specs.ProgramLp.{program_lp}
use Rattle.gms_rows.specs.Rows.{equations_of}
use Rattle.gms_exec.specs.Assignment.{target_of, after_assignment}
use Rattle.gms_exec.specs.Showing.{all_shown}
use Rattle.gms_exec.specs.Solved.{after_end}
use Rattle.lp_core.specs.declared.answer.Answer.{Answer}
use Rattle.gms_exec.specs.Run.{Course, Halt, World, OfAct, OfStatement, in_state, with_event, stopped_by, while_it_runs, with_evaluated, in_sequence, for_each, display, abort, abort_where, over_elements, answered, solve, act_step, statement_step, of_statement, labels_in}

-- the run that showed these events before all others
abbrev pub following : List Event → Course → Course
following prefix c = record { state = c.state; events = prefix ++ c.events; left = c.left; taken = c.taken; halted = c.halted }

-- a statement, or an act, does the same after events that were shown before
abbrev pub IsAfter : OfStatement → Type 0
IsAfter s = (prefix : List Event) (binding : Pairs) (c : Course) → s binding (following prefix c) ≡ following prefix (s binding c)

abbrev IsAfterAct : OfAct → Type 0
IsAfterAct act = (prefix : List Event) (at : Place) (binding : Pairs) (c : Course) → act at binding (following prefix c) ≡ following prefix (act at binding c)

-- one event is shown
after_event : (prefix : List Event) (c : Course) (e : Event) → with_event (following prefix c) e ≡ following prefix (with_event c e)
after_event prefix c e = ap (λ (es : List Event). record { state = c.state; events = es; left = c.left; taken = c.taken; halted = c.halted }) (append_assoc prefix c.events (e ∷ []))

-- a step with a value, or a stop by a fault
after_value : {A : Type 0} (prefix : List Event) (r : Evaluated A) (next other : A → Course) (c : Course) → ((x : A) → other x ≡ following prefix (next x)) → with_evaluated r other (following prefix c) ≡ following prefix (with_evaluated r next c)
after_value prefix (Ok x) next other c same = same x
after_value prefix (Err fault) next other c same = refl

-- a step that is taken only where nothing halts the run
after_runs : (prefix : List Event) (next : Course → Course) (c : Course) → next (following prefix c) ≡ following prefix (next c) → while_it_runs next (following prefix c) ≡ following prefix (while_it_runs next c)
after_runs prefix next c same = by_halt c.halted
  where
    by_halt : (h : Option Halt) → elim h [ None ↦ next (following prefix c) | Some halt ↦ following prefix c ] ≡ following prefix (elim h [ None ↦ next c | Some halt ↦ c ])
    by_halt None = same
    by_halt (Some halt) = refl

-- each of some statements does the same
abbrev pub AreAfter : List OfStatement → Type 0
AreAfter [] = Unit {0}
AreAfter (s ∷ ss) = IsAfter s × AreAfter ss

-- statements in sequence
pub after_all : (ss : List OfStatement) → AreAfter ss → IsAfter (in_sequence ss)
after_all [] are prefix binding c = refl
after_all (s ∷ ss) are prefix binding c =
    ap (in_sequence ss binding) (after_runs prefix (s binding) c (are.0 prefix binding c)) ∙ after_all ss are.1 prefix binding (while_it_runs (s binding) c)

-- the body of a loop, for each element
after_each : (sets : List ℕ) (body : List OfStatement) (elements : List (List ℕ)) → AreAfter body → IsAfter (for_each sets body elements)
after_each sets body [] are prefix binding c = refl
after_each sets body (element ∷ elements) are prefix binding c =
    ap (for_each sets body elements binding) (after_all body are prefix (controlled binding sets element) c) ∙ after_each sets body elements are prefix binding (in_sequence body (controlled binding sets element) c)

module _ {F : Type 0} (number_of : F → Number) (limit : ℕ) (world : World F) where
  after_display : (labels : ℕ) (items : List Show) → IsAfterAct (display number_of limit labels items)
  after_display labels items prefix at binding c =
      after_value prefix (all_shown labels c.state binding items) (λ shown. with_event c (displays at.line shown)) (λ shown. with_event (following prefix c) (displays at.line shown)) c (λ shown. after_event prefix c (displays at.line shown))

  after_abort : (labels : ℕ) (items : List Show) → IsAfterAct (abort number_of limit labels items)
  after_abort labels items prefix at binding c =
      after_value prefix (all_shown labels c.state binding items) (λ shown. stopped_by (with_event c (aborts at.line shown)) (faulted Aborted at binding nothing nothing)) (λ shown. stopped_by (with_event (following prefix c) (aborts at.line shown)) (faulted Aborted at binding nothing nothing)) c
      (λ shown. ap (λ d. stopped_by d (faulted Aborted at binding nothing nothing)) (after_event prefix c (aborts at.line shown)))

  after_abort_where : (labels : ℕ) (condition : Option (tree.Tree F)) (items : List Show) → IsAfterAct (abort_where number_of limit labels condition items)
  after_abort_where labels None items prefix at binding c = after_abort labels items prefix at binding c
  after_abort_where labels (Some condition) items prefix at binding c =
      after_value prefix (holds number_of limit c.state binding condition) (λ so. if so then abort number_of limit labels items at binding c else c) (λ so. if so then abort number_of limit labels items at binding (following prefix c) else following prefix c) c by_truth
    where
      by_truth : (so : Bool) → (if so then abort number_of limit labels items at binding (following prefix c) else following prefix c) ≡ following prefix (if so then abort number_of limit labels items at binding c else c)
      by_truth true = after_abort labels items prefix at binding c
      by_truth false = refl

  after_answered : (prefix : List Event) (solvers : List (List ℕ)) (model : ℕ) (equations : List ℕ) (objective : ℕ) (at : Place) (c : Course) (lp : Lp Number) → answered number_of limit solvers model equations objective at (following prefix c) lp ≡ following prefix (answered number_of limit solvers model equations objective at c lp)
  after_answered prefix solvers model equations objective at c lp = by_left c.left refl
    where
      by_left : (left : List (Answer Number)) → c.left ≡ left → answered number_of limit solvers model equations objective at (following prefix c) lp ≡ following prefix (answered number_of limit solvers model equations objective at c lp)
      by_left [] e = rw e refl
      by_left (answer ∷ left) e = rw e (ap (λ (es : List Event). record { state = after_end c.state model lp answer.end; events = es; left = left; taken = c.taken + 1; halted = c.halted }) (append_assoc prefix c.events _))

  after_solve : (solvers : List (List ℕ)) (statements : List (Stmt F)) (model objective : ℕ) (maximize : Bool) → IsAfterAct (solve number_of limit solvers statements model objective maximize)
  after_solve [] statements model objective maximize prefix at binding c = refl
  after_solve (solver ∷ solvers) statements model objective maximize prefix at binding c =
      after_value prefix (program_lp number_of limit c.state statements model objective maximize at) (answered number_of limit (solver ∷ solvers) model (equations_of statements model) objective at c) (answered number_of limit (solver ∷ solvers) model (equations_of statements model) objective at (following prefix c)) c
      (λ lp. after_answered prefix (solver ∷ solvers) model (equations_of statements model) objective at c lp)

  after_loop : (control : tree.Control F) (body : List OfStatement) → AreAfter body → IsAfterAct (over_elements number_of limit control body)
  after_loop control body are prefix at binding c =
      after_value prefix (domain number_of limit c.state binding at control) (λ elements. for_each (sets_of control) body elements binding c) (λ elements. for_each (sets_of control) body elements binding (following prefix c)) c
      (λ elements. after_each (sets_of control) body elements are prefix binding c)

  -- an act, and a statement, of the program
  abbrev of_act : Act F → OfAct
  of_act = fold-Act F OfAct OfStatement (act_step number_of limit world) (statement_step number_of limit)

  abbrev Q : Stmt F → Type 0
  Q s = IsAfter (of_statement number_of limit world s)

  -- the statements of a body do, from a proof for each
  body_after : (body : List ((s : Stmt F) × Q s)) → AreAfter (map (of_statement number_of limit world) (map (λ e. e.0) body))
  body_after [] = tt
  body_after (e ∷ body) = (e.1, body_after body)

  -- the claim for an act, from that for its unrolled form
  rolled : (x : Act-F F (Act F) (Stmt F)) (f : OfAct) → of_act (roll-Act F x) ≡ f → IsAfterAct f → IsAfterAct (of_act (roll-Act F x))
  rolled x f e q = subst IsAfterAct (sym e) q

  -- an act that does nothing
  after_nothing : IsAfterAct (λ at binding c. c)
  after_nothing prefix at binding c = refl

  after_assign : (target : Target F) (condition : Option (Expr F)) (right_at : Place) (right : Expr F) → IsAfterAct (λ at binding c. with_evaluated (after_assignment number_of limit c.state at binding (target_of target) (option_map tree_of condition) right_at (tree_of right)) (in_state c) c)
  after_assign target condition right_at right prefix at binding c =
      after_value prefix (after_assignment number_of limit c.state at binding (target_of target) (option_map tree_of condition) right_at (tree_of right)) (in_state c) (in_state (following prefix c)) c (λ state. refl)

  -- an act does, if the statements of its loop do
  by_layer : (y : Act-F F ((a : Act F) × IsAfterAct (of_act a)) ((s : Stmt F) × Q s)) → IsAfterAct (of_act (roll-Act F (map-Act F ((a : Act F) × IsAfterAct (of_act a)) ((s : Stmt F) × Q s) (Act F) (Stmt F) (λ e. e.0) (λ e. e.0) y)))
  by_layer (Act-F.Declare kind items) = rolled (Act-F.Declare kind items) _ (fold-roll-Act F OfAct OfStatement (act_step number_of limit world) (statement_step number_of limit) (Act-F.Declare kind items)) after_nothing
  by_layer (Act-F.Alias first second) = rolled (Act-F.Alias first second) _ (fold-roll-Act F OfAct OfStatement (act_step number_of limit world) (statement_step number_of limit) (Act-F.Alias first second)) after_nothing
  by_layer (Act-F.Model models) = rolled (Act-F.Model models) _ (fold-roll-Act F OfAct OfStatement (act_step number_of limit world) (statement_step number_of limit) (Act-F.Model models)) after_nothing
  by_layer (Act-F.Define equation indices condition left_at left side right_at right) = rolled (Act-F.Define equation indices condition left_at left side right_at right) _ (fold-roll-Act F OfAct OfStatement (act_step number_of limit world) (statement_step number_of limit) (Act-F.Define equation indices condition left_at left side right_at right)) after_nothing
  by_layer (Act-F.Assign target condition right_at (Value right)) = rolled (Act-F.Assign target condition right_at (Value right)) _ (fold-roll-Act F OfAct OfStatement (act_step number_of limit world) (statement_step number_of limit) (Act-F.Assign target condition right_at (Value right))) (after_assign target condition right_at right)
  by_layer (Act-F.Display items) = rolled (Act-F.Display items) _ (fold-roll-Act F OfAct OfStatement (act_step number_of limit world) (statement_step number_of limit) (Act-F.Display items)) (after_display (labels_in world) items)
  by_layer (Act-F.Options settings) = rolled (Act-F.Options settings) _ (fold-roll-Act F OfAct OfStatement (act_step number_of limit world) (statement_step number_of limit) (Act-F.Options settings)) (λ prefix at binding c. refl)
  by_layer (Act-F.Abort condition items) = rolled (Act-F.Abort condition items) _ (fold-roll-Act F OfAct OfStatement (act_step number_of limit world) (statement_step number_of limit) (Act-F.Abort condition items)) (after_abort_where (labels_in world) (option_map tree_of condition) items)
  by_layer (Act-F.Solve model word objective maximize) = rolled (Act-F.Solve model word objective maximize) _ (fold-roll-Act F OfAct OfStatement (act_step number_of limit world) (statement_step number_of limit) (Act-F.Solve model word objective maximize)) (after_solve world.solvers world.program.statements.items model.name objective.name maximize)
  by_layer (Act-F.Loop control body) = rolled (map-Act F ((a : Act F) × IsAfterAct (of_act a)) ((s : Stmt F) × Q s) (Act F) (Stmt F) (λ e. e.0) (λ e. e.0) (Act-F.Loop control body)) _ (fold-roll-Act F OfAct OfStatement (act_step number_of limit world) (statement_step number_of limit) (map-Act F ((a : Act F) × IsAfterAct (of_act a)) ((s : Stmt F) × Q s) (Act F) (Stmt F) (λ e. e.0) (λ e. e.0) (Act-F.Loop control body))) (after_loop (control_tree control) _ (body_after body.items))

  -- a statement does, if its act does
  by_statement : (y : Stmt-F F ((a : Act F) × IsAfterAct (of_act a)) ((s : Stmt F) × Q s)) → Q (roll-Stmt F (map-Stmt F ((a : Act F) × IsAfterAct (of_act a)) ((s : Stmt F) × Q s) (Act F) (Stmt F) (λ e. e.0) (λ e. e.0) y))
  by_statement y =
      let z = map-Stmt F ((a : Act F) × IsAfterAct (of_act a)) ((s : Stmt F) × Q s) (Act F) (Stmt F) (λ e. e.0) (λ e. e.0) y in
      subst IsAfter (sym (fold-roll-Stmt F OfAct OfStatement (act_step number_of limit world) (statement_step number_of limit) z)) (λ prefix binding c. y.act.1 prefix y.at binding c)

  -- Each statement does the same after what was shown before.
  pub after_statement : (s : Stmt F) → Q s
  after_statement =
      ind-Stmt F (λ act. IsAfterAct (of_act act)) Q
      (λ x y is. subst (λ z. IsAfterAct (of_act (roll-Act F z))) is (by_layer y))
      (λ x y is. subst (λ z. Q (roll-Stmt F z)) is (by_statement y))
