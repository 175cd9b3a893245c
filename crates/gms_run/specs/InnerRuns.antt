-- The contracts between the functions that execute a run: the run as a whole, and its host.
use Rattle.std.specs.Prelude.{◌≡◌, ℕ, Bool, List, [], ◌++◌, Result, string_bytes}
use Rattle.gq_frac.specs.declared.frac.Frac.{Frac}
use Rattle.gq_frac.specs.Frac.{frac_value, frac_limit}
use Rattle.gms_host.specs.declared.host.Failed.{Failed}
use Rattle.gms_host.specs.Meaning.{Meaning}
use Rattle.gms_ast.specs.declared.program.Program.{Program}
use Rattle.gms_ast.specs.declared.program.Stmt.{Stmt}
use Rattle.gms_exec.specs.Run.{of_statement}
use Rattle.lp_core.specs.declared.answer.Pivot.{Pivot}
use Rattle.lp_slot.specs.declared.solver.SolverRule.{SolverRule}
use Rattle.gms_run.specs.declared.execution.Run.{Run}
use Rattle.gms_run.specs.declared.status.Status.{Status}
use Rattle.gms_run.specs.Solving.{Solvers, Solving, solver_views}
use Rattle.gms_run.specs.ProgramsToRun.{ProgramToRun}
use Rattle.gms_run.specs.InnerSteps.{Between, BreaksAfter, ResultsIn, EndsAfter, IsListed}

-- ---- runs

-- the text that is listed and not yet written
abbrev pub pending : Run → List ℕ
pending run = run.outlet.spool ++ run.outlet.listing

-- Nothing has been solved in the run.
pub record IsUnsolved (run : Run) : Type 0 where
  pub unanswered : run.progress.answers.items ≡ []
  pub unsolved : run.solved.items ≡ []

-- The run has not begun: nothing has been solved or listed, and there is nothing to print after its
-- listing.
pub record IsFresh (run : Run) : Type 0 where
  pub start : IsUnsolved run
  pub unlisted : pending run ≡ []
  pub silent : string_bytes run.remarks ≡ []

-- a run between two statements, with these solvers
abbrev pub between : Solvers → Run → Between
between solvers run =
    record { state = run.progress.store; answers = run.progress.answers.items; programs = run.solved.items; solvers = solvers }

-- A statement of a program was executed and listed, and the programs of its solves were kept, if
-- requested; the solvers are given before it and after it.
abbrev pub ListsStatement : Bool → Bool → Program Frac → Stmt Frac → Solvers → Run → Solvers → Run → Type 0
ListsStatement keep continues program s before old after new =
    IsListed keep continues (of_statement frac_value frac_limit (record { program = program; solvers = before.names }) s []) program before.rules (between before old) (between after new) old.outlet.listing new.outlet.listing

-- ---- moments

-- A moment of a run: what its host means, its solvers, and the run.
pub record Moment : Type 0 where
  pub host : Meaning
  pub solvers : Solvers
  pub run : Run

-- a moment, by what the host means and what each solver exposes
abbrev pub moment : {S : Type 0} → (S → List ℕ) → (S → SolverRule) → (S → List (List Pivot)) → Meaning → List S → Run → Moment
moment name rule paths host solvers run =
    record { host = host; solvers = solver_views name rule paths solvers; run = run }

-- what a run solved with from one moment to another: its solvers before and after, and the answers
-- that they gave
abbrev pub solved_between : Moment → Moment → Solving
solved_between old new = record { before = old.solvers; after = new.solvers; answers = new.run.progress.answers.items }

-- The statements of a program to run were executed after the pending text: to their end, or up to
-- a statement whose listing was not written. The programs of its solves were kept, if requested.
abbrev pub ExecutesProgram : Bool → Result Status Failed → ProgramToRun → Moment → Moment → Type 0
ExecutesProgram keep result to_run old new =
    ResultsIn result
    (λ status. EndsAfter keep status to_run (solved_between old new) new.run.progress.store new.run.solved.items old.host.outside new.host.outside (pending old.run) (pending new.run))
    (BreaksAfter to_run (solved_between old new) old.host.outside new.host.outside (pending old.run))
