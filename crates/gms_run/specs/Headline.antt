-- Begin here: what `run` promises of a FILE, from the text of a source to the text of its listing
-- (GAMS User's Guide, "GAMS Programs" and "GAMS Output"). The clause `headline` of the function
-- `run` says: where the arguments are a FILE alone (`file_alone`), and the run ends with a status
-- that has a listing (`HasListing`), what is outside before the run and after it is as
-- `WritesListing` says. Restarts, saves, ranges (how far right sides and costs may move) and
-- generated models (`--generate`) are additions to it, in the modules after this one. Texts and
-- names are lists of bytes. Numbers are exact fractions. `frac_limit` bounds the numerators and
-- denominators of those that the program stores, and `frac_value` is the number that a stored
-- fraction means. A listing shows the levels of an answer rounded to three decimals; its lines
-- after PROOF show the exact levels, with the certificate of the answer.
use Rattle.std.specs.Prelude.{◌≡◌, ◌≢◌, ℕ, ◌⊎◌, false, List, [], length, None}
use Rattle.gq_frac.specs.declared.frac.Frac.{Frac}
use Rattle.gq_frac.specs.Frac.{frac_value, frac_limit}
use Rattle.gms_ast.specs.declared.program.Program.{Program}
use Rattle.gms_parse.specs.declared.fault.SourceFault.{SourceFault}
use Rattle.gms_parse.specs.Outcomes.{IsProgram, IsSourceFault}
use Rattle.gms_check.specs.CompileErrors.{compile_errors}
use Rattle.gms_check.specs.Loaded.{loaded}
use Rattle.gms_exec.specs.Answering.{AreAnswered}
use Rattle.gms_exec.specs.Run.{Course, run_from, all_events}
use Rattle.gms_laws.specs.Moments.{AnswersAreSo}
use Rattle.gms_list.specs.ListingText.{run_listing, errors_listing, refused_listing}
use Rattle.gms_host.specs.Meaning.{Outside}
use Rattle.gms_host.specs.Rules.{with_said}
use Rattle.gms_command.specs.CommandLine.{Asked, in_file, closing_line}
use Rattle.gms_run.specs.declared.status.Status.{Status}
use Rattle.gms_run.specs.declared.status.Status.TheVariants.{Done, Usage, Compile, Execution, ReadFault, WriteFault}
use Rattle.gms_run.specs.Solving.{Solving, SolvesNothing, numbers_of}
use Rattle.gms_run.specs.ProgramsToRun.{HaltsSo, status_code}
use Rattle.gms_run.specs.Statuses.{IsFileOf, with_source_read, with_file}

-- ---- runs

-- The run of a program: its statements in order, from the state that its declarations give. Each
-- solve takes the next of the answers that the solvers gave. A `Solving` has the solvers before the
-- run and after it, with their names and pivot rules, and the answers that they gave in between.
abbrev pub run_of : Program Frac → Solving → Course
run_of program solving =
    run_from frac_value frac_limit (record { program = program; solvers = solving.before.names }) (loaded frac_value program) (numbers_of solving.answers) program.statements.items

-- ---- listings

-- The source is no program, and `text` is its listing, which numbers the lines from 1 and names the
-- first fault.
pub record IsFaultListing (source text : List ℕ) : Type 0 where
  pub fault : SourceFault
  pub is_first : IsSourceFault frac_limit source fault
  pub listing : text ≡ refused_listing 1 source fault

-- The source is a program that has compile errors, with solvers of the names `solvers`, and `text`
-- is its listing, with the lines numbered from 1, which has each of the errors.
pub record IsErrorListing (solvers : List (List ℕ)) (source text : List ℕ) : Type 0 where
  pub program : Program Frac
  pub is_program : IsProgram frac_limit source frac_value program
  pub some : compile_errors frac_value program solvers ≢ []
  pub listing : text ≡ errors_listing 1 source (compile_errors frac_value program solvers)

-- The source is a program without compile errors. Its run takes all answers of `solving`
-- (`all_taken`) and does not wait for one more (`ends`). Each solve that the run completes, a solve
-- event, has an answer of the linear program that its model means at that moment, by pivots that
-- its solver's rule allows; an answer Optimal, Infeasible or Unbounded has the certificate that
-- proves it (`answered`). A solve that an execution error stops, such as a fault in the model's
-- data, is no solve event: it has no answer, and the listing shows the error in its place. What
-- each answer says of plans, that is, of values for the variables, is true (`says_so`): `IsSo` of
-- `gms_laws/specs/Plans.antt` holds of it, for the solve's model and objective, and for the state
-- at the solve. With Done the run reached the end of the program, whatever its answers are; with
-- Execution an execution error stopped it. `text`, the listing, echoes the source from line 1 and
-- shows the events of the run, the last of which is the error that stopped it, if any
-- (`all_events`).
pub record IsRunListing (status : Status) (solving : Solving) (source text : List ℕ) : Type 0 where
  pub program : Program Frac
  pub is_program : IsProgram frac_limit source frac_value program
  pub no_error : compile_errors frac_value program solving.before.names ≡ []
  pub all_taken : (run_of program solving).left ≡ []
  pub answered : AreAnswered frac_value frac_limit solving.before.rules solving.answers (run_of program solving).events
  pub says_so : AnswersAreSo frac_value frac_limit (record { program = program; solvers = solving.before.names }) (loaded frac_value program) program.statements.items solving.answers
  pub ends : HaltsSo status (run_of program solving).halted
  pub listing : text ≡ run_listing program.names program.labels frac_limit 1 source (numbers_of solving.answers) (all_events (run_of program solving)) (status_code status)

-- the text is the listing of the source, for a run that ends with this status; with Compile nothing
-- was solved, and with Usage, ReadFault and WriteFault there is no such text
abbrev pub IsListingOf : Status → Solving → List ℕ → List ℕ → Type 0
IsListingOf Done solving source text = IsRunListing Done solving source text
IsListingOf Execution solving source text = IsRunListing Execution solving source text
IsListingOf Compile solving source text =
    (IsFaultListing source text ⊎ IsErrorListing solving.before.names source text) × SolvesNothing solving
IsListingOf Usage solving source text = ⊥
IsListingOf ReadFault solving source text = ⊥
IsListingOf WriteFault solving source text = ⊥

-- whether each run that ends with this status writes the whole listing; the clause `run` of the
-- function `run` says what the output has after a write fault
abbrev pub HasListing : Status → Type 0
HasListing Done = Unit {0}
HasListing Compile = Unit {0}
HasListing Execution = Unit {0}
HasListing Usage = ⊥
HasListing ReadFault = ⊥
HasListing WriteFault = ⊥

-- ---- the headline

-- the request for a FILE alone, without a save, and without sensitivity ranges (the flag
-- `--ranges`); its listing goes to the output of this name, which `--out` may give
abbrev pub file_alone : List ℕ → List ℕ → Asked
file_alone file output = record { source = in_file file; output = output; save = None; ranges = false }

-- The run changes what is outside from `old` to `new`: it reads the file, writes the whole listing
-- of the source in the file to the output, and closes the output. Then it prints the closing line:
-- the status, the number of answers, and the name of the output. Nothing else changes outside. The
-- host is the part that reads and writes files. The program's host works on real files, which no
-- contract can see: there the source is some bytes, and it is trusted that they are the file's
-- content, and that the listing reaches the output as it was written. With a host whose files
-- contracts can see, such as one in memory, the source is the file's content (`IsFileOf`).
pub record WritesListing (status : Status) (solving : Solving) (old new : Outside) (file output : List ℕ) : Type 0 where
  pub source : List ℕ
  pub is_source : IsFileOf old file source
  pub text : List ℕ
  pub listing : IsListingOf status solving source text
  pub outside : new ≡ with_said (with_file (with_source_read old file source) output text) (closing_line (status_code status) (length solving.answers) output)
