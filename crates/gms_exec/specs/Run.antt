-- The run of a program: statement by statement, what each shows and the state after it (GAMS User's
-- Guide, "GAMS Programs", "Programming Flow Control Features", "The Display Statement", "The Option
-- Statement", "Model and Solve Statements").
use Rattle.std.specs.Prelude.{ℕ, ◌+◌, Bool, List, [], ◌∷◌, ◌++◌, length, map, slice_index_or, Option, Some, None, option_map, Ok, Err, if◌then◌else◌}
use Rattle.std.specs.List.{fold}
use Rattle.gms_labels.specs.declared.place.Place.{Place}
use Rattle.gq_number.specs.Number.{Number}
use Rattle.gms_ast.specs.declared.program.Show.{Show}
use Rattle.gms_ast.specs.declared.program.Right.TheVariants.{Value}
use Rattle.gms_ast.specs.declared.program.Stmt.{Stmt}
use Rattle.gms_ast.specs.declared.program.Program.{Program}
use Rattle.gms_ast.specs.declared.program.Act.TheOpen.{Act-F, Stmt-F}
use Rattle.gms_ast.specs.declared.program.Act.TheFolds.{fold-Stmt}
use Rattle.gms_ast.specs.TreeView.{tree_of, control_tree}
use Rattle.gms_ast.specs.Trees as tree
use Rattle.gms_store.specs.State.{State, attributes_of, with_settings}
use Rattle.gms_eval.specs.Bindings.{Pairs, controlled}
use Rattle.gms_eval.specs.Faults.{Answer as Evaluated, Fault, nothing, faulted}
use Rattle.gms_eval.specs.Holds.{holds}
use Rattle.gms_eval.specs.Value.{domain, sets_of}
use Rattle.gms_eval.specs.declared.stop.StopKind.TheVariants.{NoSolver, Aborted}
use Rattle.gms_event.specs.Events.{Event, displays, solves, aborts, stops}
use Rattle.gms_rows.specs.Rows.{equations_of}
use Rattle.gms_rows.specs.ProgramLp.{program_lp}
use Rattle.lp_core.specs.declared.answer.Answer.{Answer}
use Rattle.lp_core.specs.declared.program.Lp.{Lp}
use Rattle.gms_exec.specs.Assignment.{target_of, after_assignment}
use Rattle.gms_exec.specs.Options.{after_options}
use Rattle.gms_exec.specs.Showing.{all_shown}
use Rattle.gms_exec.specs.Solved.{after_end}

-- ---- the course of a run

-- Why a run halts.
pub data Halt : Type 0 where
  -- a fault stops the run
  stopped : Fault → Halt
  -- no answer remains for a solve
  waiting : Halt

-- How far a run has come: the state, the events shown so far, the answers that remain for its
-- further solves, how many answers its solves have used, and why the run has halted, if it has.
pub record Course : Type 0 where
  pub state : State
  pub events : List Event
  pub left : List (Answer Number)
  pub taken : ℕ
  pub halted : Option Halt

-- the course with this state
abbrev pub in_state : Course → State → Course
in_state course state = record course { state = state }

-- the course with one more event
abbrev pub with_event : Course → Event → Course
with_event course event = record course { events = course.events ++ event ∷ [] }

-- the course that this fault halts
abbrev pub stopped_by : Course → Fault → Course
stopped_by course fault = record course { halted = Some (stopped fault) }

-- the course after `next`, unless it has halted: then it is unchanged
abbrev pub while_it_runs : (Course → Course) → Course → Course
while_it_runs next course = elim course.halted [ None ↦ next course | Some halt ↦ course ]

-- the course after `next` with the value of an evaluation, or halted by its fault
abbrev pub with_evaluated : {A : Type 0} → Evaluated A → (A → Course) → Course → Course
with_evaluated (Ok x) next course = next x
with_evaluated (Err fault) next course = stopped_by course fault

-- ---- statements

-- What stays the same in a run: the program, and the names of the solvers.
pub record World (F : Type 0) : Type 0 where
  pub program : Program F
  pub solvers : List (List ℕ)

-- how many labels the program of a world has
abbrev pub labels_in : {F : Type 0} → World F → ℕ
labels_in world = length world.program.labels

-- the effect of a statement on a course, that is, on how far a run has come; the pairs give a label
-- to each set that the loops around the statement control
abbrev pub OfStatement : Type 0
OfStatement = Pairs → Course → Course

-- the effect of an act (a statement without its place) on a course (how far a run has come): from
-- the statement's place, the pairs and the course before the act to the course after the act. The
-- pairs give a label to each set that the loops around the act control
abbrev pub OfAct : Type 0
OfAct = Place → Pairs → Course → Course

-- the course after statements in sequence; once it has halted it is unchanged
abbrev pub in_sequence : List OfStatement → OfStatement
in_sequence statements binding course =
    fold (λ course statement. while_it_runs (statement binding) course) course statements

-- the course after the body of a loop for each element in sequence, under the binding in which the
-- loop's sets, `sets`, have the labels of the element; once it has halted it is unchanged
abbrev pub for_each : List ℕ → List OfStatement → List (List ℕ) → OfStatement
for_each sets body elements binding course =
    fold (λ course element. in_sequence body (controlled binding sets element) course) course elements

module _ {F : Type 0} (number_of : F → Number) (limit : ℕ) where
  -- the course after a display in a program with `labels` labels: its items are shown as they are
  -- at that point; the first fault of an item halts the run
  abbrev pub display : ℕ → List Show → OfAct
  display labels items at binding course =
      with_evaluated (all_shown labels course.state binding items) (λ shown. with_event course (displays at.line shown)) course

  -- the course after an abort that acts, in a program with `labels` labels: it shows its items and
  -- halts the run with the fault Aborted; if an item has a fault, this halts the run, and no item
  -- is shown
  abbrev pub abort : ℕ → List Show → OfAct
  abort labels items at binding course =
      with_evaluated (all_shown labels course.state binding items)
      (λ shown. stopped_by (with_event course (aborts at.line shown)) (faulted Aborted at binding nothing nothing)) course

  -- the course after an abort in a program with `labels` labels. Without a condition, or if its
  -- condition holds, the abort shows its items and halts the run (`abort`); otherwise it changes
  -- nothing. A fault of the condition or of an item halts the run, and nothing is shown
  abbrev pub abort_where : ℕ → Option (tree.Tree F) → List Show → OfAct
  abort_where labels None items at binding course = abort labels items at binding course
  abort_where labels (Some condition) items at binding course =
      with_evaluated (holds number_of limit course.state binding condition) (λ so. if so then abort labels items at binding course else course) course

  -- the course after a loop: its body is executed for each element that its control has at the
  -- beginning; a fault of the control halts the run
  abbrev pub over_elements : tree.Control F → List OfStatement → OfAct
  over_elements control body at binding course =
      with_evaluated (domain number_of limit course.state binding at control) (λ elements. for_each (sets_of control) body elements binding course) course

  -- the course after a solve of this linear program: the next answer is written into the state, and
  -- the event of the solve is appended, with the index of the answer and the objective's level
  -- after the solve; if no answer remains the run halts. `solvers` has the names of the solvers,
  -- and `equations` the numbers of the names of the model's equations.
  abbrev pub answered : List (List ℕ) → ℕ → List ℕ → ℕ → Place → Course → Lp Number → Course
  answered solvers model equations objective at course lp =
      elim course.left [
        | [] ↦ record course { halted = Some waiting }
        | answer ∷ left ↦
            let state = after_end course.state model lp answer.end in
            record {
              state = state;
              events = course.events ++ solves (record {
                line = at.line;
                model = model;
                equations = equations;
                lp = lp;
                answer = course.taken;
                solver = slice_index_or solvers course.state.settings.solver [];
                settings = course.state.settings;
                objective_level = (attributes_of state objective []).level;
              }) ∷ [];
              left = left;
              taken = course.taken + 1;
              halted = course.halted;
            }
      ]

  -- the course after a solve of the linear program that the model means in the present state; or
  -- halted by the first fault, which is NoSolver if there is no solver
  abbrev pub solve : List (List ℕ) → List (Stmt F) → ℕ → ℕ → Bool → OfAct
  solve [] statements model objective maximize at binding course = stopped_by course (faulted NoSolver at binding nothing nothing)
  solve (solver ∷ solvers) statements model objective maximize at binding course =
      with_evaluated (program_lp number_of limit course.state statements model objective maximize at) (answered (solver ∷ solvers) model (equations_of statements model) objective at course) course

  -- the course after an act, where each statement of a loop's body is replaced by what it makes of
  -- a course; an act that is none of the six kinds listed first leaves the course unchanged
  abbrev pub act_step : World F → Act-F F OfAct OfStatement → OfAct
  act_step world (Act-F.Assign target condition right_at (Value right)) at binding course =
      with_evaluated (after_assignment number_of limit course.state at binding (target_of target) (option_map tree_of condition) right_at (tree_of right)) (in_state course) course
  act_step world (Act-F.Display items) at binding course = display (labels_in world) items at binding course
  act_step world (Act-F.Loop control body) at binding course =
      over_elements (control_tree control) body.items at binding course
  act_step world (Act-F.Options settings) at binding course =
      in_state course (with_settings course.state (after_options number_of world.solvers course.state.settings settings))
  act_step world (Act-F.Abort condition items) at binding course =
      abort_where (labels_in world) (option_map tree_of condition) items at binding course
  act_step world (Act-F.Solve model method objective maximize) at binding course =
      solve world.solvers world.program.statements.items model.name objective.name maximize at binding course
  act_step world other at binding course = course

  -- the course after a statement: that after its act, at its place
  abbrev pub statement_step : Stmt-F F OfAct OfStatement → OfStatement
  statement_step statement binding course = statement.act statement.at binding course

  -- the course after a statement
  abbrev pub of_statement : World F → Stmt F → OfStatement
  of_statement world = fold-Stmt F OfAct OfStatement (act_step world) statement_step

  -- the course after these statements, which begin in `state` and have `answers` for their solves
  abbrev pub run_from : World F → State → List (Answer Number) → List (Stmt F) → Course
  run_from world state answers statements =
      in_sequence (map (of_statement world) statements) [] (record { state = state; events = []; left = answers; taken = 0; halted = None })

-- the event that a run shows last, by why it halted, as a list of one: the fault that stopped it;
-- empty if no fault did
abbrev pub last_event : Option Halt → List Event
last_event (Some (stopped fault)) = stops fault ∷ []
last_event halt = []

-- all that a run shows: its events, followed by the fault that stopped it, if any
abbrev pub all_events : Course → List Event
all_events course = course.events ++ last_event course.halted
