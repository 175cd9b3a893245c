-- The contract of `step` in records: what a statement requires of a run, and what holds after it.
use Rattle.std.specs.Prelude.{ℕ, List, length, map}
use Rattle.gq_number.specs.Number.{Number}
use Rattle.gq_frac.specs.declared.frac.Frac.{Frac}
use Rattle.gms_ast.specs.declared.program.Stmt.{Stmt}
use Rattle.gms_store.specs.State.{State}
use Rattle.lp_core.specs.declared.answer.Pivot.{Pivot}
use Rattle.lp_slot.specs.declared.solver.SolverRule.{SolverRule}
use Rattle.gms_exec.specs.declared.progress.Progress.{Progress}
use Rattle.gms_exec.specs.Dimensions.{AreOneDimensional}
use Rattle.gms_exec.specs.ValidEvents.{ShowsValidEvents}
use Rattle.gms_exec.specs.Stepping.{RunView, Answered, AreValidSettings}

-- the view of a run in progress: its state, its events and the answers of its solves
abbrev pub run_view : Progress → RunView Frac
run_view run = record { state = run.store; events = run.events.items; answers = run.answers.items }

-- Statements can be executed with n solvers in a state: its settings are valid, that is, they have
-- at most 8 decimals and choose one of the n solvers, if there are any; and the indices of the
-- definition of each equation are labels and sets of one dimension without lags.
pub record CanExecute {F : Type 0} (n : ℕ) (statements : List (Stmt F)) (state : State) : Type 0 where
  pub settings : AreValidSettings n state.settings
  pub plain : AreOneDimensional state statements

-- What holds after calls that take a run from the view `old` to `new`. Each solve among the
-- appended events has an answer by the pivot rule of its solver, under the limit `limit` on the
-- size of numbers. The solvers keep their names and rules, and the pivots of each answer are
-- appended to the paths of its solver. Each appended event is valid: a display or an abort shows at
-- most 8 decimals, and a solve has a well-formed linear program and an answer. `statements` can be
-- executed in the new state. `name`, `rule` and `paths` give a solver's name, its pivot rule, and
-- the pivots of each answer that it gave.
pub record Leaves {S F : Type 0} (value : F → Number) (limit : ℕ) (name : S → List ℕ) (rule : S → SolverRule) (paths : S → List (List Pivot)) (statements : List (Stmt F)) (old_solvers new_solvers : List S) (old new : RunView F) : Type 0 where
  pub answered : Answered value limit name rule paths old_solvers new_solvers old new
  pub valid : ShowsValidEvents value limit (map rule old_solvers) new.answers old.events new.events
  pub can_execute : CanExecute (length old_solvers) statements new.state
