-- What a run showed before, and how many answers it took, has no effect on what statements do: they
-- append what they show, and take the next answers.
use Rattle.std.proofs.Common.{◌≡◌, ℕ, ◌+◌, Bool, true, false, List, [], ◌∷◌, ◌++◌, map, Option, Some, None, Ok, Err, refl, sym, ap, ap₂, ◌∙◌, subst, append_assoc, append-nil, arith}
use Rattle.std.proofs.lemmas.List.{map-append}
use Rattle.std.specs.Prelude.{if◌then◌else◌, option_map, slice_index_or}
use Rattle.gq_number.specs.Number.{Number}
use Rattle.gms_labels.specs.declared.place.Place.{Place}
use Rattle.gms_ast.specs.declared.program.Show.{Show}
use Rattle.gms_ast.specs.declared.program.Right.TheVariants.{Value}
use Rattle.gms_ast.specs.declared.program.Stmt.{Stmt, roll-Stmt, map-Stmt}
use Rattle.gms_ast.specs.declared.program.Act.{Act, roll-Act, map-Act}
use Rattle.gms_ast.specs.declared.program.Target.{Target}
use Rattle.gms_ast.specs.declared.expression.Expr.{Expr}
use Rattle.gms_ast.specs.declared.program.Act.TheOpen.{Act-F, Stmt-F}
use Rattle.gms_ast.specs.declared.program.Act.TheFolds.{fold-Act, fold-roll-Act, fold-roll-Stmt, ind-Stmt}
use Rattle.gms_ast.specs.Trees as tree
use Rattle.gms_ast.specs.TreeView.{tree_of, control_tree}
use Rattle.gms_store.specs.State.{State, attributes_of}
use Rattle.gms_eval.specs.Bindings.{Pairs, controlled}
use Rattle.gms_eval.specs.Faults.{Answer as Evaluated, faulted, nothing}
use Rattle.gms_eval.specs.declared.stop.StopKind.TheVariants.{Aborted}
use Rattle.gms_eval.specs.Holds.{holds}
use Rattle.gms_eval.specs.Value.{domain, sets_of}
use Rattle.gms_event.specs.Events.{Event, displays, solves, aborts}
use Rattle.lp_core.specs.declared.program.Lp.{Lp}
use Rattle.gms_rows.specs.ProgramLp.{program_lp}
use Rattle.gms_rows.specs.Rows.{equations_of}
use Rattle.gms_exec.specs.Assignment.{target_of, after_assignment}
use Rattle.gms_exec.specs.Showing.{all_shown}
use Rattle.gms_exec.specs.Solved.{after_end}
use Rattle.lp_core.specs.declared.answer.Answer.{Answer}
use Rattle.gms_exec.specs.Run.{Course, Halt, World, OfAct, OfStatement, in_state, with_event, stopped_by, while_it_runs, with_evaluated, in_sequence, for_each, display, abort, abort_where, over_elements, answered, solve, act_step, statement_step, of_statement, labels_in, run_from}
use Rattle.gms_run_laws.specs.JointRun.{later_event, preceded_by, run_after}

-- a statement, or an act, does the same after events that were shown before
abbrev pub IsLater : OfStatement → Type 0
IsLater s = (k : ℕ) (prefix : List Event) (binding : Pairs) (c : Course) → s binding (preceded_by k prefix c) ≡ preceded_by k prefix (s binding c)

abbrev IsLaterAct : OfAct → Type 0
IsLaterAct act = (k : ℕ) (prefix : List Event) (at : Place) (binding : Pairs) (c : Course) → act at binding (preceded_by k prefix c) ≡ preceded_by k prefix (act at binding c)

-- one event is shown
shows_later : (k : ℕ) (prefix : List Event) (c : Course) (e : Event) → with_event (preceded_by k prefix c) (later_event k e) ≡ preceded_by k prefix (with_event c e)
shows_later k prefix c e =
    ap (λ (es : List Event). record { state = c.state; events = es; left = c.left; taken = k + c.taken; halted = c.halted })
    (append_assoc prefix (map (later_event k) c.events) (later_event k e ∷ []) ∙ ap (λ (es : List Event). prefix ++ es) (sym (map-append (later_event k) c.events (e ∷ []))))

-- a step with a value, or a stop by a fault
later_value : {A : Type 0} (k : ℕ) (prefix : List Event) (r : Evaluated A) (next other : A → Course) (c : Course) → ((x : A) → other x ≡ preceded_by k prefix (next x)) → with_evaluated r other (preceded_by k prefix c) ≡ preceded_by k prefix (with_evaluated r next c)
later_value k prefix (Ok x) next other c same = same x
later_value k prefix (Err fault) next other c same = refl

-- a step that is taken only where nothing halts the run
later_runs : (k : ℕ) (prefix : List Event) (next : Course → Course) (c : Course) → next (preceded_by k prefix c) ≡ preceded_by k prefix (next c) → while_it_runs next (preceded_by k prefix c) ≡ preceded_by k prefix (while_it_runs next c)
later_runs k prefix next c same = by_halt c.halted
  where
    by_halt : (h : Option Halt) → elim h [ None ↦ next (preceded_by k prefix c) | Some halt ↦ preceded_by k prefix c ] ≡ preceded_by k prefix (elim h [ None ↦ next c | Some halt ↦ c ])
    by_halt None = same
    by_halt (Some halt) = refl

-- each of some statements does the same
abbrev pub AreLater : List OfStatement → Type 0
AreLater [] = Unit {0}
AreLater (s ∷ ss) = IsLater s × AreLater ss

-- statements in sequence
pub later_all : (ss : List OfStatement) → AreLater ss → IsLater (in_sequence ss)
later_all [] are k prefix binding c = refl
later_all (s ∷ ss) are k prefix binding c =
    ap (in_sequence ss binding) (later_runs k prefix (s binding) c (are.0 k prefix binding c)) ∙ later_all ss are.1 k prefix binding (while_it_runs (s binding) c)

-- the body of a loop, for each element
later_each : (sets : List ℕ) (body : List OfStatement) (elements : List (List ℕ)) → AreLater body → IsLater (for_each sets body elements)
later_each sets body [] are k prefix binding c = refl
later_each sets body (element ∷ elements) are k prefix binding c =
    ap (for_each sets body elements binding) (later_all body are k prefix (controlled binding sets element) c) ∙ later_each sets body elements are k prefix binding (in_sequence body (controlled binding sets element) c)

module _ {F : Type 0} (number_of : F → Number) (limit : ℕ) (world : World F) where
  later_display : (labels : ℕ) (items : List Show) → IsLaterAct (display number_of limit labels items)
  later_display labels items k prefix at binding c =
      later_value k prefix (all_shown labels c.state binding items) (λ shown. with_event c (displays at.line shown)) (λ shown. with_event (preceded_by k prefix c) (displays at.line shown)) c (λ shown. shows_later k prefix c (displays at.line shown))

  later_abort : (labels : ℕ) (items : List Show) → IsLaterAct (abort number_of limit labels items)
  later_abort labels items k prefix at binding c =
      later_value k prefix (all_shown labels c.state binding items) (λ shown. stopped_by (with_event c (aborts at.line shown)) (faulted Aborted at binding nothing nothing)) (λ shown. stopped_by (with_event (preceded_by k prefix c) (aborts at.line shown)) (faulted Aborted at binding nothing nothing)) c
      (λ shown. ap (λ d. stopped_by d (faulted Aborted at binding nothing nothing)) (shows_later k prefix c (aborts at.line shown)))

  later_abort_where : (labels : ℕ) (condition : Option (tree.Tree F)) (items : List Show) → IsLaterAct (abort_where number_of limit labels condition items)
  later_abort_where labels None items k prefix at binding c = later_abort labels items k prefix at binding c
  later_abort_where labels (Some condition) items k prefix at binding c =
      later_value k prefix (holds number_of limit c.state binding condition) (λ so. if so then abort number_of limit labels items at binding c else c) (λ so. if so then abort number_of limit labels items at binding (preceded_by k prefix c) else preceded_by k prefix c) c by_truth
    where
      by_truth : (so : Bool) → (if so then abort number_of limit labels items at binding (preceded_by k prefix c) else preceded_by k prefix c) ≡ preceded_by k prefix (if so then abort number_of limit labels items at binding c else c)
      by_truth true = later_abort labels items k prefix at binding c
      by_truth false = refl

  later_answered : (k : ℕ) (prefix : List Event) (solvers : List (List ℕ)) (model : ℕ) (equations : List ℕ) (objective : ℕ) (at : Place) (c : Course) (lp : Lp Number) → answered number_of limit solvers model equations objective at (preceded_by k prefix c) lp ≡ preceded_by k prefix (answered number_of limit solvers model equations objective at c lp)
  later_answered k prefix solvers model equations objective at c lp = by_left c.left refl
    where
      by_left : (left : List (Answer Number)) → c.left ≡ left → answered number_of limit solvers model equations objective at (preceded_by k prefix c) lp ≡ preceded_by k prefix (answered number_of limit solvers model equations objective at c lp)
      by_left [] e = rw e refl
      by_left (answer ∷ left) e =
          let state = after_end c.state model lp answer.end in
          let solved : ℕ → Event = λ place. solves (record { line = at.line; model = model; equations = equations; lp = lp; answer = place; solver = slice_index_or solvers c.state.settings.solver []; settings = c.state.settings; objective_level = (attributes_of state objective []).level }) in
          rw e (ap₂ (λ (es : List Event) (n : ℕ). record { state = state; events = es; left = left; taken = n; halted = c.halted })
          (append_assoc prefix (map (later_event k) c.events) (solved (k + c.taken) ∷ []) ∙ ap (λ (es : List Event). prefix ++ es) (sym (map-append (later_event k) c.events (solved c.taken ∷ []))))
          (omega arith))

  later_solve : (solvers : List (List ℕ)) (statements : List (Stmt F)) (model objective : ℕ) (maximize : Bool) → IsLaterAct (solve number_of limit solvers statements model objective maximize)
  later_solve [] statements model objective maximize k prefix at binding c = refl
  later_solve (solver ∷ solvers) statements model objective maximize k prefix at binding c =
      later_value k prefix (program_lp number_of limit c.state statements model objective maximize at) (answered number_of limit (solver ∷ solvers) model (equations_of statements model) objective at c) (answered number_of limit (solver ∷ solvers) model (equations_of statements model) objective at (preceded_by k prefix c)) c
      (λ lp. later_answered k prefix (solver ∷ solvers) model (equations_of statements model) objective at c lp)

  later_loop : (control : tree.Control F) (body : List OfStatement) → AreLater body → IsLaterAct (over_elements number_of limit control body)
  later_loop control body are k prefix at binding c =
      later_value k prefix (domain number_of limit c.state binding at control) (λ elements. for_each (sets_of control) body elements binding c) (λ elements. for_each (sets_of control) body elements binding (preceded_by k prefix c)) c
      (λ elements. later_each (sets_of control) body elements are k prefix binding c)

  -- an act, and a statement, of the program
  abbrev of_act : Act F → OfAct
  of_act = fold-Act F OfAct OfStatement (act_step number_of limit world) (statement_step number_of limit)

  abbrev Q : Stmt F → Type 0
  Q s = IsLater (of_statement number_of limit world s)

  -- the statements of a body do, from a proof for each
  body_after : (body : List ((s : Stmt F) × Q s)) → AreLater (map (of_statement number_of limit world) (map (λ e. e.0) body))
  body_after [] = tt
  body_after (e ∷ body) = (e.1, body_after body)

  -- the claim for an act, from that for its unrolled form
  rolled : (x : Act-F F (Act F) (Stmt F)) (f : OfAct) → of_act (roll-Act F x) ≡ f → IsLaterAct f → IsLaterAct (of_act (roll-Act F x))
  rolled x f e q = subst IsLaterAct (sym e) q

  -- an act that does nothing
  later_nothing : IsLaterAct (λ at binding c. c)
  later_nothing k prefix at binding c = refl

  later_assign : (target : Target F) (condition : Option (Expr F)) (right_at : Place) (right : Expr F) → IsLaterAct (λ at binding c. with_evaluated (after_assignment number_of limit c.state at binding (target_of target) (option_map tree_of condition) right_at (tree_of right)) (in_state c) c)
  later_assign target condition right_at right k prefix at binding c =
      later_value k prefix (after_assignment number_of limit c.state at binding (target_of target) (option_map tree_of condition) right_at (tree_of right)) (in_state c) (in_state (preceded_by k prefix c)) c (λ state. refl)

  -- an act does, if the statements of its loop do
  by_layer : (y : Act-F F ((a : Act F) × IsLaterAct (of_act a)) ((s : Stmt F) × Q s)) → IsLaterAct (of_act (roll-Act F (map-Act F ((a : Act F) × IsLaterAct (of_act a)) ((s : Stmt F) × Q s) (Act F) (Stmt F) (λ e. e.0) (λ e. e.0) y)))
  by_layer (Act-F.Declare kind items) = rolled (Act-F.Declare kind items) _ (fold-roll-Act F OfAct OfStatement (act_step number_of limit world) (statement_step number_of limit) (Act-F.Declare kind items)) later_nothing
  by_layer (Act-F.Alias first second) = rolled (Act-F.Alias first second) _ (fold-roll-Act F OfAct OfStatement (act_step number_of limit world) (statement_step number_of limit) (Act-F.Alias first second)) later_nothing
  by_layer (Act-F.Model models) = rolled (Act-F.Model models) _ (fold-roll-Act F OfAct OfStatement (act_step number_of limit world) (statement_step number_of limit) (Act-F.Model models)) later_nothing
  by_layer (Act-F.Define equation indices condition left_at left side right_at right) = rolled (Act-F.Define equation indices condition left_at left side right_at right) _ (fold-roll-Act F OfAct OfStatement (act_step number_of limit world) (statement_step number_of limit) (Act-F.Define equation indices condition left_at left side right_at right)) later_nothing
  by_layer (Act-F.Assign target condition right_at (Value right)) = rolled (Act-F.Assign target condition right_at (Value right)) _ (fold-roll-Act F OfAct OfStatement (act_step number_of limit world) (statement_step number_of limit) (Act-F.Assign target condition right_at (Value right))) (later_assign target condition right_at right)
  by_layer (Act-F.Display items) = rolled (Act-F.Display items) _ (fold-roll-Act F OfAct OfStatement (act_step number_of limit world) (statement_step number_of limit) (Act-F.Display items)) (later_display (labels_in world) items)
  by_layer (Act-F.Options settings) = rolled (Act-F.Options settings) _ (fold-roll-Act F OfAct OfStatement (act_step number_of limit world) (statement_step number_of limit) (Act-F.Options settings)) (λ k prefix at binding c. refl)
  by_layer (Act-F.Abort condition items) = rolled (Act-F.Abort condition items) _ (fold-roll-Act F OfAct OfStatement (act_step number_of limit world) (statement_step number_of limit) (Act-F.Abort condition items)) (later_abort_where (labels_in world) (option_map tree_of condition) items)
  by_layer (Act-F.Solve model word objective maximize) = rolled (Act-F.Solve model word objective maximize) _ (fold-roll-Act F OfAct OfStatement (act_step number_of limit world) (statement_step number_of limit) (Act-F.Solve model word objective maximize)) (later_solve world.solvers world.program.statements.items model.name objective.name maximize)
  by_layer (Act-F.Loop control body) = rolled (map-Act F ((a : Act F) × IsLaterAct (of_act a)) ((s : Stmt F) × Q s) (Act F) (Stmt F) (λ e. e.0) (λ e. e.0) (Act-F.Loop control body)) _ (fold-roll-Act F OfAct OfStatement (act_step number_of limit world) (statement_step number_of limit) (map-Act F ((a : Act F) × IsLaterAct (of_act a)) ((s : Stmt F) × Q s) (Act F) (Stmt F) (λ e. e.0) (λ e. e.0) (Act-F.Loop control body))) (later_loop (control_tree control) _ (body_after body.items))

  -- a statement does, if its act does
  by_statement : (y : Stmt-F F ((a : Act F) × IsLaterAct (of_act a)) ((s : Stmt F) × Q s)) → Q (roll-Stmt F (map-Stmt F ((a : Act F) × IsLaterAct (of_act a)) ((s : Stmt F) × Q s) (Act F) (Stmt F) (λ e. e.0) (λ e. e.0) y))
  by_statement y =
      let z = map-Stmt F ((a : Act F) × IsLaterAct (of_act a)) ((s : Stmt F) × Q s) (Act F) (Stmt F) (λ e. e.0) (λ e. e.0) y in
      subst IsLater (sym (fold-roll-Stmt F OfAct OfStatement (act_step number_of limit world) (statement_step number_of limit) z)) (λ k prefix binding c. y.act.1 k prefix y.at binding c)

  -- Each statement does the same after what was shown before.
  pub later_statement : (s : Stmt F) → Q s
  later_statement =
      ind-Stmt F (λ act. IsLaterAct (of_act act)) Q
      (λ x y is. subst (λ z. IsLaterAct (of_act (roll-Act F z))) is (by_layer y))
      (λ x y is. subst (λ z. Q (roll-Stmt F z)) is (by_statement y))

  -- and so do statements in sequence
  are_later : (statements : List (Stmt F)) → AreLater (map (of_statement number_of limit world) statements)
  are_later [] = tt
  are_later (s ∷ ss) = (later_statement s, are_later ss)

  -- the point that a run has reached, unless halted, is the beginning of a run after it
  begins_there : (c : Course) → c.halted ≡ None → c ≡ preceded_by c.taken c.events (record { state = c.state; events = []; left = c.left; taken = 0; halted = None })
  begins_there c none =
      ap (λ (h : Option Halt). record { state = c.state; events = c.events; left = c.left; taken = c.taken; halted = h }) none
      ∙ ap₂ (λ (es : List Event) (n : ℕ). record { state = c.state; events = es; left = c.left; taken = n; halted = None }) (sym (append-nil c.events)) (omega arith)

  fold-append : (first others : List OfStatement) (binding : Pairs) (c : Course) → in_sequence (first ++ others) binding c ≡ in_sequence others binding (in_sequence first binding c)
  fold-append [] others binding c = refl
  fold-append (s ∷ first) others binding c = fold-append first others binding (while_it_runs (s binding) c)

  -- The run of statements followed by others continues where that of the first ended.
  pub joined : (state : State) (answers : List (Answer Number)) (first others : List (Stmt F)) → (run_from number_of limit world state answers first).halted ≡ None → run_from number_of limit world state answers (first ++ others) ≡ run_after (run_from number_of limit world state answers first) (run_from number_of limit world (run_from number_of limit world state answers first).state (run_from number_of limit world state answers first).left others)
  joined state answers first others none =
      let of = of_statement number_of limit world in
      let c = run_from number_of limit world state answers first in
      let start : Course = record { state = state; events = []; left = answers; taken = 0; halted = None } in
      ap (λ ss. in_sequence ss [] start) (map-append of first others)
      ∙ fold-append (map of first) (map of others) [] start
      ∙ ap (in_sequence (map of others) []) (begins_there c none)
      ∙ later_all (map of others) (are_later others) c.taken c.events [] (record { state = c.state; events = []; left = c.left; taken = 0; halted = None })
