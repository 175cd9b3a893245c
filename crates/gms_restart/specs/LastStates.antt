-- The state in which the run of a program ends (GAMS User's Guide, "GAMS Programs", "Save and
-- Restart").
use Rattle.std.specs.Prelude.{◌≡◌, ◌≤◌, ◌++◌, ℕ, true, List, flat_map, length}
use Rattle.gq_number.specs.Number.{Number}
use Rattle.gms_ast.specs.declared.program.Program.{Program}
use Rattle.gms_ast.specs.declared.program.Stmt.{Stmt}
use Rattle.gms_store.specs.State.{State, fits_at, symbol_at}
use Rattle.gms_scope.specs.DynamicSets.{assigned_names}
use Rattle.gms_check.specs.Loaded.{loaded}
use Rattle.gms_exec.specs.Run.{World}
use Rattle.gms_run_laws.specs.Agreeing.{HasAll}
use Rattle.gms_restart.specs.Restarts.{restarted_run, whole_run}
use Rattle.lp_core.specs.declared.answer.Answer.{Answer}

-- the last state of the run of the program of `world` from its first state, that is, the state that
-- its declarations give, with these answers for its solves, under the limit `limit` of the size of
-- numbers; `value` gives the number that a value of `F` means
abbrev pub last_state : {F : Type 0} → (F → Number) → ℕ → World F → List (Answer Number) → State
last_state value limit world answers = (whole_run value limit world answers).state

-- The last state of the run that resumes from the saved state `state`. The program of `world` is
-- joint: a saved source followed by a new file. The run executes the statements that begin at or
-- after the line `from`, the first of the file, with these answers for the solves, under the limit
-- `limit` of the size of numbers. `value` gives the number that a value of `F` means.
abbrev pub later_state : {F : Type 0} → (F → Number) → ℕ → ℕ → World F → State → List (Answer Number) → State
later_state value limit from world state answers = (restarted_run value limit from world state answers).state

-- All numbers in the data of a state fit under the limit `most` (`fits_at`): the numerator and the
-- denominator of each are at most `most` in magnitude.
abbrev pub NumbersFit : ℕ → State → Type 0
NumbersFit most state = (name : ℕ) (t : List ℕ) → fits_at most (symbol_at state name).content t ≡ true

-- The statements of the program `whole` are `firsts` followed by `others`. The statements `firsts`
-- assign the same names, in the same order, as those of the program `saved`, and `whole` has at
-- least as many labels as `saved`. The first state of `whole` has at least as many names as that of
-- `saved`, the same settings, and for each name that the latter declares the same symbol, with its
-- data. A program's first state (`loaded`) has all its names declared, with their data. `value`
-- gives the number that a value of `F` means.
pub record ContinuesSaved {F : Type 0} (value : F → Number) (saved whole : Program F) (firsts others : List (Stmt F)) : Type 0 where
  pub statements : whole.statements.items ≡ firsts ++ others
  pub assigns : flat_map assigned_names firsts ≡ flat_map assigned_names saved.statements.items
  pub labels : length saved.labels ≤ length whole.labels
  pub has_all : HasAll (loaded value whole) (loaded value saved)
