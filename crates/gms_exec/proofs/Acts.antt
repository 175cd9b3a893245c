-- What a statement that is no loop did, by its act, and what it kept.
use Rattle.std.proofs.Common.{◌≡◌, ℕ, Bool, List, length, map, refl, sym, ap, subst, ◌∙◌, Option, option_map, Result, Ok}
use Rattle.gms_labels.specs.declared.place.Place.{Place}
use Rattle.gq_number.specs.Number.{Number}
use Rattle.gms_ast.specs.declared.word.Word.{Word}
use Rattle.gms_ast.specs.declared.expression.Expr.{Expr}
use Rattle.gms_ast.specs.declared.program.Act.{Act, out-Act, roll-Act, roll-out-Act}
use Rattle.gms_ast.specs.declared.program.Act.TheOpen.{Act-F}
use Rattle.gms_ast.specs.declared.program.Act.TheVariants.{Assign, Solve, Display, Options, Abort, rolls-Declare, rolls-Alias, rolls-Assign, rolls-Define, rolls-Model, rolls-Solve, rolls-Display, rolls-Loop, rolls-Options, rolls-Abort}
use Rattle.gms_ast.specs.declared.program.Program.{Program}
use Rattle.gms_ast.specs.declared.program.Right.{Right}
use Rattle.gms_ast.specs.declared.program.Right.TheVariants.{Value}
use Rattle.gms_ast.specs.declared.program.Setting.{Setting}
use Rattle.gms_ast.specs.declared.program.Show.{Show}
use Rattle.gms_ast.specs.declared.program.Stmt.{Stmt}
use Rattle.gms_ast.specs.declared.program.Target.{Target}
use Rattle.gms_ast.specs.declared.word.Named.{Named}
use Rattle.gms_ast.specs.TreeView.{tree_of}
use Rattle.gms_store.specs.State.{State, with_settings}
use Rattle.gms_eval.specs.Bindings.{Pairs}
use Rattle.gms_eval.specs.declared.stop.ExecStopOrMemory.{ExecStopOrMemory}
use Rattle.gms_event.specs.declared.event.Event.{Event}
use Rattle.lp_core.specs.declared.answer.Answer.{Answer}
use Rattle.gms_exec.specs.Assignment.{target_of, after_assignment}
use Rattle.gms_exec.specs.Options.{after_options}
use Rattle.gms_exec.specs.Run.{Course, World, labels_in, in_state, with_evaluated, display, abort_where, solve, of_statement}
use Rattle.gms_exec.specs.InnerContracts.{Assigns, IsOnce, AsksNoSolver}
use Rattle.gms_exec.specs.Stepping.{RunView, course_from_view, Runs, UnlessMemory}
use Rattle.gms_exec.proofs.ActSteps.{on-Assign, on-Display, on-Options, on-Abort, on-Solve, on-Declare, on-Alias, on-Define, on-Model}
use Rattle.gms_exec.proofs.Arms.{runs-alike, runs-assigned, runs-nothing, runs-state}
use Rattle.gms_exec.specs.Executing.{CanExecute}
use Rattle.gms_exec.proofs.Keeping.{run-keeps}
use Rattle.gms_exec.proofs.SolveRuns.{as-long}

module _ {F : Type 0} (value : F → Number) (limit : ℕ) (world : World F) (s : Stmt F) (binding : Pairs) where
  -- what the statement does to a run
  abbrev does : Course → Course
  does = of_statement value limit world s binding

  -- ---- by its act

  pub ran-Assign : {A : Type 0} (result : Result A (ExecStopOrMemory F)) (target : Target F) (condition own : Option (Expr F)) (right_at : Place) (right : Right F) (old new : State) (events : List (Event F)) (answers : List (Answer F)) → s.act ≡ Assign target condition right_at right → own ≡ condition → ((e : Expr F) → right ≡ Value e → Assigns value result old new (after_assignment value limit old s.at binding (target_of target) (option_map tree_of own) right_at (tree_of e))) → Runs value result does (record { state = old; events = events; answers = answers }) (record { state = new; events = events; answers = answers })
  ran-Assign result target condition own right_at (Value e) old new events answers is same assigns =
      runs-assigned value result does old new events answers (after_assignment value limit old s.at binding (target_of target) (option_map tree_of own) right_at (tree_of e))
      (λ left.
      let course = course_from_view value (record { state = old; events = events; answers = answers }) left in
      on-Assign value limit world s binding course target condition right_at e is
      ∙ ap (λ (c : Option (Expr F)). with_evaluated (after_assignment value limit old s.at binding (target_of target) (option_map tree_of c) right_at (tree_of e)) (in_state course) course) (sym same))
      (assigns e refl)

  pub ran-Display : {A : Type 0} (result : Result A (ExecStopOrMemory F)) (items shown : List Show) (labels : ℕ) (old new : RunView F) → s.act ≡ Display items → shown ≡ items → labels ≡ labels_in world → Runs value result (display value limit labels shown s.at binding) old new → Runs value result does old new
  ran-Display result items shown labels old new is same counted runs =
      runs-alike value result does (display value limit labels shown s.at binding) old new
      (λ left.
      let course = course_from_view value old left in
      on-Display value limit world s binding course items is
      ∙ ap (λ (n : ℕ). display value limit n items s.at binding course) (sym counted)
      ∙ ap (λ (xs : List Show). display value limit labels xs s.at binding course) (sym same))
      runs

  pub ran-Options : {A : Type 0} (x : A) (settings options : List (Word × Setting F)) (old new : State) (events : List (Event F)) (answers : List (Answer F)) → s.act ≡ Options settings → options ≡ settings → new ≡ with_settings old (after_options value world.solvers old.settings options) → Runs value {A = A} (Ok x) does (record { state = old; events = events; answers = answers }) (record { state = new; events = events; answers = answers })
  ran-Options x settings options old new events answers is same put =
      runs-state value x does old new events answers
      (λ left.
      let course = course_from_view value (record { state = old; events = events; answers = answers }) left in
      on-Options value limit world s binding course settings is
      ∙ ap (λ (xs : List (Word × Setting F)). in_state course (with_settings old (after_options value world.solvers old.settings xs))) (sym same)
      ∙ ap (in_state course) (sym put))

  pub ran-Abort : {A : Type 0} (result : Result A (ExecStopOrMemory F)) (condition own : Option (Expr F)) (items shown : List Show) (labels : ℕ) (old new : RunView F) → s.act ≡ Abort condition items → own ≡ condition → shown ≡ items → labels ≡ labels_in world → Runs value result (abort_where value limit labels (option_map tree_of own) shown s.at binding) old new → Runs value result does old new
  ran-Abort result condition own items shown labels old new is same_condition same counted runs =
      runs-alike value result does (abort_where value limit labels (option_map tree_of own) shown s.at binding) old new
      (λ left.
      let course = course_from_view value old left in
      on-Abort value limit world s binding course condition items is
      ∙ ap (λ (n : ℕ). abort_where value limit n (option_map tree_of condition) items s.at binding course) (sym counted)
      ∙ ap (λ (c : Option (Expr F)). abort_where value limit labels (option_map tree_of c) items s.at binding course) (sym same_condition)
      ∙ ap (λ (xs : List Show). abort_where value limit labels (option_map tree_of own) xs s.at binding course) (sym same))
      runs

  pub ran-Solve : {A : Type 0} (result : Result A (ExecStopOrMemory F)) (model : Named) (method : Word) (objective : Named) (maximize : Bool) (old new : RunView F) → s.act ≡ Solve model method objective maximize → Runs value result (solve value limit world.solvers world.program.statements.items model.name objective.name maximize s.at binding) old new → Runs value result does old new
  ran-Solve result model method objective maximize old new is runs =
      runs-alike value result does (solve value limit world.solvers world.program.statements.items model.name objective.name maximize s.at binding) old new (λ left. on-Solve value limit world s binding (course_from_view value old left) model method objective maximize is) runs

  -- ---- other acts do nothing

  module _ (once : IsOnce s.act) (no_solve : AsksNoSolver s.act) (no_assign : (target : Target F) (condition : Option (Expr F)) (right_at : Place) (right : Right F) → s.act ≡ Assign target condition right_at right → ⊥) (no_display : (items : List Show) → s.act ≡ Display items → ⊥) (no_options : (settings : List (Word × Setting F)) → s.act ≡ Options settings → ⊥) (no_abort : (condition : Option (Expr F)) (items : List Show) → s.act ≡ Abort condition items → ⊥) where
    other-act : (course : Course) (layer : Act-F F (Act F) (Stmt F)) → s.act ≡ roll-Act F layer → does course ≡ course
    other-act course (Act-F.Declare kind items) e = on-Declare value limit world s binding course kind items (e ∙ rolls-Declare kind items)
    other-act course (Act-F.Alias first second) e = on-Alias value limit world s binding course first second (e ∙ rolls-Alias first second)
    other-act course (Act-F.Assign target condition right_at right) e = absurd (no_assign target condition right_at right (e ∙ rolls-Assign target condition right_at right))
    other-act course (Act-F.Define equation indices condition left_at left side right_at right) e =
        on-Define value limit world s binding course equation indices condition left_at left side right_at right (e ∙ rolls-Define equation indices condition left_at left side right_at right)
    other-act course (Act-F.Model models) e = on-Model value limit world s binding course models (e ∙ rolls-Model models)
    other-act course (Act-F.Solve model method objective maximize) e = absurd (no_solve model method objective maximize (e ∙ rolls-Solve model method objective maximize))
    other-act course (Act-F.Display items) e = absurd (no_display items (e ∙ rolls-Display items))
    other-act course (Act-F.Loop control body) e = absurd (once control body (e ∙ rolls-Loop control body))
    other-act course (Act-F.Options settings) e = absurd (no_options settings (e ∙ rolls-Options settings))
    other-act course (Act-F.Abort condition items) e = absurd (no_abort condition items (e ∙ rolls-Abort condition items))

    pub ran-nothing : {A : Type 0} (x : A) (seen : RunView F) → Runs value {A = A} (Ok x) does seen seen
    ran-nothing x seen = runs-nothing value x does seen (λ left. other-act (course_from_view value seen left) (out-Act F s.act) (sym (roll-out-Act F s.act)))

-- ---- solvers that were lent

pub lent-runs : {S F A : Type 0} (value : F → Number) (limit : ℕ) (name : S → List ℕ) (program : Program F) (lent solvers : List S) (result : Result A (ExecStopOrMemory F)) (s : Stmt F) (binding : Pairs) (old new : RunView F) → lent ≡ solvers → Runs value result (of_statement value limit (record { program = program; solvers = map name lent }) s binding) old new → Runs value result (of_statement value limit (record { program = program; solvers = map name solvers }) s binding) old new
lent-runs value limit name program lent solvers result s binding old new e runs =
    subst (λ xs. Runs value result (of_statement value limit (record { program = program; solvers = map name xs }) s binding) old new) e runs

-- ---- what it kept

module _ {S F A : Type 0} (value : F → Number) (limit : ℕ) (name : S → List ℕ) (program : Program F) (solvers : List S) (result : Result A (ExecStopOrMemory F)) (s : Stmt F) (binding : Pairs) (old new : RunView F) (once : IsOnce s.act) (runs : Runs value result (of_statement value limit (record { program = program; solvers = map name solvers }) s binding) old new) (can_execute : CanExecute (length solvers) program.statements.items old.state) where
  pub kept : UnlessMemory result (CanExecute (length solvers) program.statements.items new.state)
  kept =
      subst (λ (n : ℕ). UnlessMemory result (CanExecute n program.statements.items new.state)) (as-long name solvers)
      (run-keeps value limit (record { program = program; solvers = map name solvers }) result s binding old new once runs
      (subst (λ (n : ℕ). CanExecute n program.statements.items old.state) (sym (as-long name solvers)) can_execute))
