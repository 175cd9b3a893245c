-- Laws of the run of a program, what its answers say, and what a restarted run says.
use Rattle.std.specs.Prelude.{◌≡◌, ℕ, List, [], ◌++◌, length, map, None}
use Rattle.gq_frac.specs.declared.frac.Frac.{Frac}
use Rattle.gq_frac.specs.Frac.{frac_value, frac_limit}
use Rattle.gms_ast.specs.declared.program.Stmt.{Stmt}
use Rattle.gms_exec.specs.Run.{Course, of_statement, in_sequence}
use Rattle.gms_run_laws.specs.JointRun.{run_after}
use Rattle.gms_save.specs.JointErrors.{saved_statements}
use Rattle.gms_run.specs.Solving.{Solving}
use Rattle.gms_run.specs.declared.status.Status.TheVariants.{Done}
use Rattle.gms_run.specs.Scripts.{RunInput, LoadedInput, IsLoadedInput, first_line, from_save, from_start, joint_source, script_of, scripted}
use Rattle.gms_run.specs.ProgramsToRun.{ProgramToRun, course_of, first_of, HasRightAnswers}
use Rattle.gms_run.specs.Listings.{IsExecuted, IsProgramToRun, IsListing, SavesLast}

-- a program to run, with these statements in place of those that it has
abbrev pub with_statements : ProgramToRun → List (Stmt Frac) → ProgramToRun
with_statements to_run statements = record to_run { statements = statements }

-- the run of further statements of the program, which are in no loop, from the state that the run
-- `course` has reached, with the solvers' names in `solving` and the answers that remain in
-- `course`; a halted course is unchanged
abbrev pub run_on : ProgramToRun → Solving → Course → List (Stmt Frac) → Course
run_on to_run solving course statements =
    in_sequence (map (of_statement frac_value frac_limit (record { program = to_run.program; solvers = solving.before.names })) statements) [] course

-- the law that the run of the statements `first` followed by `others` is the run of `others` from
-- where the run of `first` ends
abbrev pub RunsJoin : Type 0
RunsJoin = (to_run : ProgramToRun) (solving : Solving) (first others : List (Stmt Frac)) →
    course_of (with_statements to_run (first ++ others)) solving ≡ run_on to_run solving (course_of (with_statements to_run first) solving) others

-- ---- answers

-- If a run with these solvers and answers executed the input, which is a source, or a save and the
-- file that resumes from it, then each of the answers is right (`HasRightAnswers`): what the answer
-- says is true of the model as it is written, with the data at the moment of the solve.
abbrev pub RunIsAnsweredRightly : Solving → Type 0
RunIsAnsweredRightly solving = (taken : RunInput) (loaded_input : LoadedInput) (text : List ℕ) → IsLoadedInput solving.before.names taken loaded_input → (run : IsExecuted solving loaded_input text) → HasRightAnswers run.to_run solving

-- the law that each answer of each run that executed its input is right (`RunIsAnsweredRightly`),
-- whatever the solvers and the answers (`solving`) are
abbrev pub RunsAreAnsweredRightly : Type 0
RunsAreAnsweredRightly = (solving : Solving) → RunIsAnsweredRightly solving

-- ---- restarts

-- The run `first` of a source was done and saved, and the run `second` resumed from its save with a
-- file, with the same solvers.
pub record IsRestart (first second : Solving) (source file : List ℕ) : Type 0 where
  pub base : LoadedInput
  pub starts : IsLoadedInput first.before.names (from_start source) base
  pub text : List ℕ
  pub done : IsListing Done first base text
  pub save : List ℕ
  pub saves : SavesLast first base save
  pub loaded_input : LoadedInput
  pub resumes : IsLoadedInput second.before.names (from_save save file) loaded_input
  pub listing : List ℕ
  pub run : IsExecuted second loaded_input listing
  pub same_solvers : second.before.names ≡ first.before.names

-- `long` is one run of the joint source of `source` and `file`; `to_run` is the program that it
-- runs. The solvers of `long` have the names of those of `first`, and the answers of `long` are
-- those of `first` followed by those of `second`.
pub record IsLongRun (first second long : Solving) (source file : List ℕ) (to_run : ProgramToRun) : Type 0 where
  pub is_to_run : IsProgramToRun long.before.names (scripted (script_of (joint_source source file))) to_run
  pub same_solvers : long.before.names ≡ first.before.names
  pub answers : long.answers ≡ first.answers ++ second.answers

-- the part of the long run, which is a run of a joint source, that executes the statements of the
-- saved source (`source`). These are the statements that begin before line `first_line` of the
-- joint source, where the file begins that continues the saved source
abbrev pub base_course : List ℕ → ProgramToRun → Solving → Course
base_course source to_run long = course_of (first_of (length (saved_statements (first_line source) to_run.program)) to_run) long

-- The long run is that of `to_run` with the answers of `long`. It is the run of the saved source's
-- statements followed by the restarted run (`second`). These statements take as many answers as the
-- saved run (`first`) has. Each save of the last state of the restarted run is also one of the last
-- state of the long run.
pub record SaysBoth (first second long : Solving) (source file : List ℕ) (restart : IsRestart first second source file) (to_run : ProgramToRun) : Type 0 where
  pub is : course_of to_run long ≡ run_after (base_course source to_run long) (course_of restart.run.to_run second)
  pub taken : (base_course source to_run long).taken ≡ length first.answers
  pub keeps : (bytes : List ℕ) → SavesLast second restart.loaded_input bytes → SavesLast long (scripted (script_of (joint_source source file))) bytes

-- the law that a saved run and its restart together say what one long run of the joint source says
-- (`SaysBoth`), if the long run executes the saved source's statements to their end
abbrev pub RestartsSayTheSame : Type 0
RestartsSayTheSame = (first second long : Solving) (source file : List ℕ) (restart : IsRestart first second source file) (to_run : ProgramToRun) →
    IsLongRun first second long source file to_run → (base_course source to_run long).halted ≡ None → SaysBoth first second long source file restart to_run
