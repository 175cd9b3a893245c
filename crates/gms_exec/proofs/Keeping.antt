-- What statements other than loops keep: settings within their ranges, and definitions over sets of
-- one dimension.
use Rattle.gms_exec.proofs.AfterSolve.{settings-after}
use Rattle.std.proofs.Common.{◌≡◌, ℕ, Bool, true, false, List, [], ◌∷◌, length, get_or, refl, sym, ap, subst, ◌∙◌, Option, Some, None, option_map, Result, Ok, Err, if◌then◌else◌}
use Rattle.gms_labels.specs.declared.place.Place.{Place}
use Rattle.gq_number.specs.Number.{Number}
use Rattle.gms_ast.specs.declared.expression.Suffix.{Suffix}
use Rattle.gms_ast.specs.declared.program.Stmt.{Stmt}
use Rattle.gms_ast.specs.declared.program.Show.{Show}
use Rattle.gms_ast.specs.declared.program.Act.{Act, out-Act, roll-Act, roll-out-Act}
use Rattle.gms_ast.specs.declared.program.Act.TheOpen.{Act-F}
use Rattle.gms_ast.specs.declared.program.Act.TheVariants.{rolls-Declare, rolls-Alias, rolls-Assign, rolls-Define, rolls-Model, rolls-Solve, rolls-Display, rolls-Loop, rolls-Options, rolls-Abort}
use Rattle.gms_ast.specs.declared.program.Right.TheVariants.{Value}
use Rattle.gms_ast.specs.TreeView.{tree_of}
use Rattle.gms_ast.specs.Trees as tree
use Rattle.gms_store.specs.State.{State, with_settings}
use Rattle.gms_eval.specs.Bindings.{Pairs}
use Rattle.gms_eval.specs.Faults.{Answer as Evaluated, ◌and_then◌}
use Rattle.gms_eval.specs.Holds.{holds}
use Rattle.gms_eval.specs.declared.stop.ExecStopOrMemory.{ExecStopOrMemory}
use Rattle.gms_eval.specs.declared.stop.ExecStopOrMemory.TheVariants.{Memory, Fault as Stop}
use Rattle.gms_event.specs.Events.{Shown}
use Rattle.gms_rows.specs.Rows.{definitions, equations_of}
use Rattle.gms_rows.specs.Plain.{ArePlain}
use Rattle.gms_rows.specs.ProgramLp.{program_lp}
use Rattle.lp_core.specs.declared.answer.Answer.{Answer}
use Rattle.lp_core.specs.declared.program.Lp.{Lp}
use Rattle.gms_exec.specs.Assignment.{given_by, target_of}
use Rattle.gms_exec.specs.Dimensions.{AreOverOne, AreOneDimensional}
use Rattle.gms_exec.specs.Executing.{CanExecute}
use Rattle.gms_exec.specs.Given.{AllGiven, after_given}
use Rattle.gms_exec.specs.Options.{after_options}
use Rattle.gms_exec.specs.Showing.{all_shown}
use Rattle.gms_exec.specs.Run.{Course, World, with_evaluated, in_state, abort, abort_where, answered, solve, of_statement, labels_in}
use Rattle.gms_exec.specs.InnerContracts.{IsOnce}
use Rattle.gms_exec.specs.Stepping.{RunView, course_from_view, Runs, AreValidSettings, UnlessMemory}
use Rattle.gms_exec.proofs.ActSteps.{on-Assign, on-Display, on-Options, on-Abort, on-Solve, on-Declare, on-Alias, on-Define, on-Model}
use Rattle.gms_exec.proofs.KeptSettings.{kept-options}
use Rattle.gms_exec.proofs.Staying.{Stays, follows-of, stays-itself, stays-given, stays-end}

-- ---- definitions over sets of one dimension

module _ {F : Type 0} (old new : State) (stays : Stays old new) where
  over-one : (indices : tree.Indices F) → AreOverOne old indices → AreOverOne new indices
  over-one tree.no_index are = tt
  over-one (tree.label label rest) are = over-one rest are
  over-one (tree.set set rest) are = (ap length (follows-of old new stays set).domain ∙ are.0, over-one rest are.1)
  over-one (tree.lagged set op at amount rest) are = (ap length (follows-of old new stays set).domain ∙ are.0, over-one rest are.1)

  still-plain : (indices : tree.Indices F) → AreOverOne old indices → ArePlain old indices → ArePlain new indices
  still-plain tree.no_index are plain = tt
  still-plain (tree.label label rest) are plain = still-plain rest are plain
  still-plain (tree.set set rest) are plain = ((follows-of old new stays set).singles are.0 plain.0, still-plain rest are.1 plain.1)
  still-plain (tree.lagged set op at amount rest) are plain = absurd plain

  -- the definitions of a program stay so
  pub stay-one : (statements : List (Stmt F)) → AreOneDimensional old statements → AreOneDimensional new statements
  stay-one statements are =
      record {
        plain = λ k d within. still-plain (get_or (definitions statements) k d).indices (are.declared k d within) (are.plain k d within);
        declared = λ k d within. over-one (get_or (definitions statements) k d).indices (are.declared k d within);
      }

module _ {F : Type 0} (value : F → Number) (limit : ℕ) (world : World F) where
  abbrev Kept : State → Type 0
  Kept state = CanExecute (length world.solvers) world.program.statements.items state

  kept-stays : (old new : State) → Stays old new → new.settings ≡ old.settings → Kept old → Kept new
  kept-stays old new stays same kept =
      record { settings = subst (AreValidSettings (length world.solvers)) (sym same) kept.settings; plain = stay-one old new stays world.program.statements.items kept.plain }

  keeps-given : (course : Course) (suffix : Suffix) (name : ℕ) (given : Evaluated AllGiven) → Kept course.state → Kept (with_evaluated (given and_then λ given. Ok (after_given suffix name given course.state)) (in_state course) course).state
  keeps-given course suffix name (Ok given) kept = kept-stays course.state (after_given suffix name given course.state) (stays-given suffix name given course.state) refl kept
  keeps-given course suffix name (Err fault) kept = kept

  keeps-shown : (course : Course) (shown : Evaluated (List Shown)) (next : List Shown → Course) → ((shown : List Shown) → (next shown).state ≡ course.state) → Kept course.state → Kept (with_evaluated shown next course).state
  keeps-shown course (Ok shown) next same kept = subst Kept (sym (same shown)) kept
  keeps-shown course (Err fault) next same kept = kept

  keeps-abort : (course : Course) (labels : ℕ) (items : List Show) (at : Place) (binding : Pairs) → Kept course.state → Kept (abort value limit labels items at binding course).state
  keeps-abort course labels items at binding kept = keeps-shown course (all_shown labels course.state binding items) _ (λ shown. refl) kept

  keeps-so : (course : Course) (labels : ℕ) (items : List Show) (at : Place) (binding : Pairs) (so : Evaluated Bool) → Kept course.state → Kept (with_evaluated so (λ so. if so then abort value limit labels items at binding course else course) course).state
  keeps-so course labels items at binding (Ok true) kept = keeps-abort course labels items at binding kept
  keeps-so course labels items at binding (Ok false) kept = kept
  keeps-so course labels items at binding (Err fault) kept = kept

  keeps-abort_where : (course : Course) (labels : ℕ) (condition : Option (tree.Tree F)) (items : List Show) (at : Place) (binding : Pairs) → Kept course.state → Kept (abort_where value limit labels condition items at binding course).state
  keeps-abort_where course labels None items at binding kept = keeps-abort course labels items at binding kept
  keeps-abort_where course labels (Some condition) items at binding kept = keeps-so course labels items at binding (holds value limit course.state binding condition) kept

  keeps-answered : (course : Course) (left : List (Answer Number)) (solvers : List (List ℕ)) (model : ℕ) (equations : List ℕ) (objective : ℕ) (at : Place) (lp : Lp Number) → Kept course.state → Kept (answered value limit solvers model equations objective at (record course { left = left }) lp).state
  keeps-answered course [] solvers model equations objective at lp kept = kept
  keeps-answered course (answer ∷ left) solvers model equations objective at lp kept =
      kept-stays course.state _ (stays-end course.state model lp answer.end) (settings-after course.state model lp answer.end) kept

  keeps-program : (course : Course) (program : Evaluated (Lp Number)) (solvers : List (List ℕ)) (model : ℕ) (equations : List ℕ) (objective : ℕ) (at : Place) → Kept course.state → Kept (with_evaluated program (answered value limit solvers model equations objective at course) course).state
  keeps-program course (Ok lp) solvers model equations objective at kept = keeps-answered course course.left solvers model equations objective at lp kept
  keeps-program course (Err fault) solvers model equations objective at kept = kept

  keeps-solve : (course : Course) (solvers : List (List ℕ)) (statements : List (Stmt F)) (model objective : ℕ) (maximize : Bool) (at : Place) (binding : Pairs) → Kept course.state → Kept (solve value limit solvers statements model objective maximize at binding course).state
  keeps-solve course [] statements model objective maximize at binding kept = kept
  keeps-solve course (solver ∷ solvers) statements model objective maximize at binding kept =
      keeps-program course (program_lp value limit course.state statements model objective maximize at) (solver ∷ solvers) model (equations_of statements model) objective at kept

  module _ (s : Stmt F) (binding : Pairs) (course : Course) (kept : Kept course.state) where
    moved : (next : Course) → of_statement value limit world s binding course ≡ next → Kept next.state → Kept (of_statement value limit world s binding course).state
    moved next e k = subst (λ (c : Course). Kept c.state) (sym e) k

    keeps-act : (layer : Act-F F (Act F) (Stmt F)) → s.act ≡ roll-Act F layer → IsOnce s.act → Kept (of_statement value limit world s binding course).state
    keeps-act (Act-F.Declare kind items) e once = moved _ (on-Declare value limit world s binding course kind items (e ∙ rolls-Declare kind items)) kept
    keeps-act (Act-F.Alias first second) e once = moved _ (on-Alias value limit world s binding course first second (e ∙ rolls-Alias first second)) kept
    keeps-act (Act-F.Assign target condition right_at (Value right)) e once =
        moved _ (on-Assign value limit world s binding course target condition right_at right (e ∙ rolls-Assign target condition right_at (Value right))) (keeps-given course target.suffix target.name (given_by value limit course.state s.at binding (target_of target) (option_map tree_of condition) right_at (tree_of right)) kept)
    keeps-act (Act-F.Define equation indices condition left_at left side right_at right) e once =
        moved _ (on-Define value limit world s binding course equation indices condition left_at left side right_at right (e ∙ rolls-Define equation indices condition left_at left side right_at right)) kept
    keeps-act (Act-F.Model models) e once = moved _ (on-Model value limit world s binding course models (e ∙ rolls-Model models)) kept
    keeps-act (Act-F.Solve model word objective maximize) e once =
        moved _ (on-Solve value limit world s binding course model word objective maximize (e ∙ rolls-Solve model word objective maximize)) (keeps-solve course world.solvers world.program.statements.items model.name objective.name maximize s.at binding kept)
    keeps-act (Act-F.Display items) e once =
        moved _ (on-Display value limit world s binding course items (e ∙ rolls-Display items)) (keeps-shown course (all_shown (labels_in world) course.state binding items) _ (λ shown. refl) kept)
    keeps-act (Act-F.Loop control body) e once = absurd (once control body (e ∙ rolls-Loop control body))
    keeps-act (Act-F.Options settings) e once =
        moved _ (on-Options value limit world s binding course settings (e ∙ rolls-Options settings)) (record {
          settings = kept-options value world.solvers settings course.state.settings kept.settings;
          plain = stay-one course.state (with_settings course.state (after_options value world.solvers course.state.settings settings)) (λ n. stays-itself course.state n) world.program.statements.items kept.plain;
        })
    keeps-act (Act-F.Abort condition items) e once =
        moved _ (on-Abort value limit world s binding course condition items (e ∙ rolls-Abort condition items)) (keeps-abort_where course (labels_in world) (option_map tree_of condition) items s.at binding kept)

  -- what a call that did what a statement does has kept, unless memory ran out
  pub run-keeps : {A : Type 0} (result : Result A (ExecStopOrMemory F)) (s : Stmt F) (binding : Pairs) (old new : RunView F) → IsOnce s.act → Runs value result (of_statement value limit world s binding) old new → Kept old.state → UnlessMemory result (Kept new.state)
  run-keeps (Ok x) s binding old new once runs kept =
      subst (λ (c : Course). Kept c.state) (runs.comes []) (keeps-act s binding (course_from_view value old _) kept (out-Act F s.act) (sym (roll-out-Act F s.act)) once)
  run-keeps (Err Memory) s binding old new once runs kept = tt
  run-keeps (Err (Stop stop)) s binding old new once runs kept =
      subst (λ (c : Course). Kept c.state) (runs.comes []) (keeps-act s binding (course_from_view value old _) kept (out-Act F s.act) (sym (roll-out-Act F s.act)) once)
