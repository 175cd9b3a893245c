-- Whether a run with solvers of given names executes or refuses the loaded input; its listing, and
-- its save.
use Rattle.std.specs.Prelude.{◌≡◌, ◌≢◌, ℕ, pos, ◌⊎◌, Bool, true, false, ◌++◌, length, List, [], map, sum, codes, option_map, unwrap_or, Option, Some, None, IfSome}
use Rattle.std.specs.List.{range_with_len}
use Rattle.gq_number.specs.Number.{Number, whole}
use Rattle.gq_frac.specs.declared.frac.Frac.{Frac}
use Rattle.gq_frac.specs.Frac.{frac_value, frac_limit}
use Rattle.gms_ast.specs.declared.program.Program.{Program}
use Rattle.gms_labels.specs.Labels.{place_of}
use Rattle.gms_parse.specs.declared.fault.SourceFault.{SourceFault}
use Rattle.gms_parse.specs.Outcomes.{IsProgram, IsSourceFault}
use Rattle.gms_check.specs.declared.error.CompileError.{CompileError}
use Rattle.gms_store.specs.State.{State, symbol_of, statuses_in, attributes_of}
use Rattle.gms_event.specs.Events.{Solved}
use Rattle.lp_core.specs.declared.answer.Answer.{Answer}
use Rattle.gq_text.specs.Shown.{IsRoundedText}
use Rattle.gms_list.specs.ListingText.{compile_errors_text, echo_text, end_text, errors_listing, refused_echo, refused_listing, save_error_text, source_error_text}
use Rattle.gms_save.specs.Saves.{IsSaveOf, place_of_solver}
use Rattle.gms_save.specs.declared.fault.SaveFault.{SaveFault}
use Rattle.gms_save.specs.Faults.{save_fault_code, fault_name}
use Rattle.gms_command.specs.CommandLine.{Asked, Origin, in_file, restarted, generated, generated_line, closing_line}
use Rattle.gms_command.specs.RangeTexts.{SaysRanges}
use Rattle.gms_run.specs.declared.status.Status.{Status}
use Rattle.gms_run.specs.declared.status.Status.TheVariants.{Done, Usage, Compile, Execution, ReadFault, WriteFault}
use Rattle.gms_run.specs.Solving.{Solving, SolvesNothing, numbers_of, places_of, programs_of, solves_in}
use Rattle.gms_run.specs.Scripts.{Script, LoadedInput, scripted, unrestored, errors_of_script}
use Rattle.gms_run.specs.ProgramsToRun.{ProgramToRun, program_to_run, course_of, program_listing, save_text, solver_name, IsRunSolved, IsCutOff, HaltsSo, status_code}

-- ---- what is accepted

-- The source of the script is this program, which has no error, with solvers of these names. A
-- script is a source to run: a file alone, or a saved source followed by a file, with the saved
-- state. In the latter case the errors are those of a joint program (`errors_of_script`).
pub record IsAcceptedScript (solvers : List (List ℕ)) (script : Script) (program : Program Frac) : Type 0 where
  pub is_program : IsProgram frac_limit script.source frac_value program
  pub no_error : errors_of_script script.saved script.line program solvers ≡ []

-- The loaded input is a script that is accepted with solvers of these names, and `to_run` has its
-- program, the state from which the program is run, and the statements to run (`program_to_run`).
pub record IsProgramToRun (solvers : List (List ℕ)) (loaded_input : LoadedInput) (to_run : ProgramToRun) : Type 0 where
  pub script : Script
  pub of_script : loaded_input ≡ scripted script
  pub accepted : IsAcceptedScript solvers script to_run.program
  pub is_to_run : to_run ≡ program_to_run script to_run.program

-- ---- what is refused

-- the text that is listed of a script whose source is no program: the echo of the file, which is
-- left out if the fault is that the source is too long, and the fault
abbrev pub refusal_text : Script → SourceFault → List ℕ
refusal_text script fault = refused_echo fault.error script.line script.file ++ source_error_text fault

-- the text that is listed of a script whose program has errors: the echo of the file, and the
-- errors
abbrev pub errors_text : Script → List CompileError → List ℕ
errors_text script errors = echo_text script.line script.file ++ compile_errors_text errors

-- the text that is listed of a save that cannot be restored: its fault, at line 1 and column 1
abbrev pub unrestored_text : SaveFault → List ℕ
unrestored_text fault = save_error_text (save_fault_code fault) (fault_name fault) (record { line = 1; column = 1 })

-- a listing without a run: the listed text, and the last line with status 2 and no solves
abbrev pub refused_text : List ℕ → List ℕ
refused_text listed = listed ++ end_text 2 0

-- The source is no program, and the text is the listing that says why, and where.
pub record ShowsRefusal (script : Script) (text : List ℕ) : Type 0 where
  pub fault : SourceFault
  pub refused : IsSourceFault frac_limit script.source fault
  pub listing : text ≡ refused_listing script.line script.file fault

-- The source is a program that has errors if the solvers have the names `solvers`, and the text is
-- the listing of all its errors.
pub record ShowsErrors (solvers : List (List ℕ)) (script : Script) (text : List ℕ) : Type 0 where
  pub program : Program Frac
  pub is_program : IsProgram frac_limit script.source frac_value program
  pub some : errors_of_script script.saved script.line program solvers ≢ []
  pub listing : text ≡ errors_listing script.line script.file (errors_of_script script.saved script.line program solvers)

-- The text is the listing that says why the loaded input is not run, with solvers of these names:
-- the fault or the errors of a script, or the fault of a save that cannot be restored.
abbrev pub ShowsWhy : List (List ℕ) → LoadedInput → List ℕ → Type 0
ShowsWhy solvers (scripted script) text = ShowsRefusal script text ⊎ ShowsErrors solvers script text
ShowsWhy solvers (unrestored fault) text = text ≡ refused_text (unrestored_text fault)

-- The loaded input is not accepted: the text is the listing that says why, and nothing is solved.
abbrev pub IsRefusalListing : Solving → LoadedInput → List ℕ → Type 0
IsRefusalListing solving loaded_input text = ShowsWhy solving.before.names loaded_input text × SolvesNothing solving

-- ---- listings

-- The loaded input is accepted, its program was run with the solvers' answers, which `solving` has,
-- and the text is the listing of that run.
pub record IsExecuted (solving : Solving) (loaded_input : LoadedInput) (text : List ℕ) : Type 0 where
  pub to_run : ProgramToRun
  pub is_to_run : IsProgramToRun solving.before.names loaded_input to_run
  pub solved : IsRunSolved to_run solving
  pub listing : text ≡ program_listing to_run solving

-- the run of the program halts as a run with this status does (`HaltsSo`): with Done not at all,
-- with Execution by a fault; false for any other status
abbrev pub EndsSo : (status : Status) (solving : Solving) (loaded_input : LoadedInput) (text : List ℕ) → IsExecuted solving loaded_input text → Type 0
EndsSo status solving loaded_input text run = HaltsSo status (course_of run.to_run solving).halted

-- the text is the listing of the loaded input, for a run that ends with this status; with the last
-- three statuses there is no such text
abbrev pub IsListing : Status → Solving → LoadedInput → List ℕ → Type 0
IsListing Compile solving loaded_input text = IsRefusalListing solving loaded_input text
IsListing Done solving loaded_input text = (run : IsExecuted solving loaded_input text) × EndsSo Done solving loaded_input text run
IsListing Execution solving loaded_input text = (run : IsExecuted solving loaded_input text) × EndsSo Execution solving loaded_input text run
IsListing Usage solving loaded_input text = ⊥
IsListing ReadFault solving loaded_input text = ⊥
IsListing WriteFault solving loaded_input text = ⊥

-- The text is the whole listing that is expected of the loaded input, of which only the first
-- `written` bytes were written: that of a refusal, for any `written`, or that of a run which ends
-- because writing failed after `written` bytes (`IsCutOff`).
abbrev pub IsWrittenPrefix : Solving → LoadedInput → List ℕ → ℕ → Type 0
IsWrittenPrefix solving loaded_input text written =
    IsRefusalListing solving loaded_input text ⊎ ((run : IsExecuted solving loaded_input text) × IsCutOff run.to_run solving written)

-- ---- saves

-- The bytes are the save of the last state of the run. Among the solvers, the one that the save
-- names is at the position that the settings of this state have.
pub record SavesLast (solving : Solving) (loaded_input : LoadedInput) (bytes : List ℕ) : Type 0 where
  pub to_run : ProgramToRun
  pub is_to_run : IsProgramToRun solving.before.names loaded_input to_run
  pub text : bytes ≡ save_text to_run solving
  pub is_save : IsSaveOf bytes to_run.source to_run.program (course_of to_run solving).state (solver_name solving.before.names (course_of to_run solving).state)
  pub placed : place_of_solver solving.before.names (solver_name solving.before.names (course_of to_run solving).state) ≡ Some (course_of to_run solving).state.settings.solver

-- the name of the file for the save of a run that ends with this status: that of the request after
-- Done, and else None
abbrev pub save_file : Status → Asked → Option (List ℕ)
save_file Done request = request.save
save_file status request = None

-- if a run with this status has a file for its save, then the bytes are the save of its last state
abbrev pub SavesSo : Status → Solving → Asked → LoadedInput → List ℕ → Type 0
SavesSo status solving request loaded_input bytes = IfSome (save_file status request) (λ file. SavesLast solving loaded_input bytes)

-- ---- the closing lines

-- the number of the model status of `t`, as generated programs name their model, in a state; 0 if
-- the program has no such name
abbrev pub model_status : Program Frac → State → ℕ
model_status program state = unwrap_or (option_map (λ model. (statuses_in (symbol_of state model).content).0) (place_of program.names (codes "t"))) 0

-- the level of `z`, as generated programs name their objective, in a state; 0 if the program has no
-- such name
abbrev pub objective_level : Program Frac → State → Number
objective_level program state = unwrap_or (option_map (λ variable. (attributes_of state variable []).level) (place_of program.names (codes "z"))) (whole (pos 0))

-- how many pivots all answers have together
abbrev pub pivots_of : List (Answer Frac) → ℕ
pivots_of answers = sum (map (λ answer. length answer.pivots) answers)

-- The line is that of a generated model with this size: it has the status of the model, the level
-- of the objective with three decimals in the last state, and the number of pivots of all answers.
pub record IsModelLine (size : ℕ) (program : Program Frac) (last : State) (answers : List (Answer Frac)) (line : List ℕ) : Type 0 where
  pub objective : List ℕ
  pub rounded : IsRoundedText 3 (objective_level program last) objective
  pub text : line ≡ generated_line size (model_status program last) objective (pivots_of answers)

-- The line is what is printed of a generated model with this size after the run of the loaded
-- input: the status of the model, the level of its objective, and the number of pivots.
pub record TellsModel (solving : Solving) (size : ℕ) (loaded_input : LoadedInput) (line : List ℕ) : Type 0 where
  pub to_run : ProgramToRun
  pub is_to_run : IsProgramToRun solving.before.names loaded_input to_run
  pub told : IsModelLine size to_run.program (course_of to_run solving).state solving.answers line

-- what is printed of a generated model with this size after a run with this status: with Done and
-- Execution one line, and else nothing
abbrev pub TellsSize : Status → Solving → ℕ → LoadedInput → List ℕ → Type 0
TellsSize Done solving size loaded_input line = TellsModel solving size loaded_input line
TellsSize Execution solving size loaded_input line = TellsModel solving size loaded_input line
TellsSize _ solving size loaded_input line = line ≡ []

-- what is printed of the model before the closing line: a line for a generated model that was run,
-- and else nothing
abbrev pub TellsRun : Status → Solving → Origin → LoadedInput → List ℕ → Type 0
TellsRun status solving (in_file file) loaded_input line = line ≡ []
TellsRun status solving (restarted saved file) loaded_input line = line ≡ []
TellsRun status solving (generated size) loaded_input line = TellsSize status solving size loaded_input line

-- the solves among the events of the run of a program with these answers, in order
abbrev pub solves_of : ProgramToRun → Solving → List Solved
solves_of to_run solving = solves_in (course_of to_run solving).events

-- The solves of the run take the answers in order, one each. The text says, from their linear
-- programs and these answers, how far each right side and each cost of each optimum may move by
-- itself while the optimum's basis remains optimal; it numbers the solves from 1.
pub record TellsSpans (solving : Solving) (loaded_input : LoadedInput) (text : List ℕ) : Type 0 where
  pub to_run : ProgramToRun
  pub is_to_run : IsProgramToRun solving.before.names loaded_input to_run
  pub in_order : places_of (solves_of to_run solving) ≡ range_with_len 0 (length solving.answers)
  pub said : SaysRanges to_run.program.names to_run.program.labels frac_limit 1 (programs_of (solves_of to_run solving)) (numbers_of solving.answers) text

-- the text printed with `--ranges`: the sensitivity ranges of the solves of a run with this status
-- (`TellsSpans`); empty with a status other than Done and Execution
abbrev pub TellsRangesOf : Status → Solving → LoadedInput → List ℕ → Type 0
TellsRangesOf Done solving loaded_input text = TellsSpans solving loaded_input text
TellsRangesOf Execution solving loaded_input text = TellsSpans solving loaded_input text
TellsRangesOf _ solving loaded_input text = text ≡ []

-- the text printed of the sensitivity ranges of a run's solves: empty if they are not requested
abbrev pub TellsRanges : Bool → Status → Solving → LoadedInput → List ℕ → Type 0
TellsRanges true status solving loaded_input text = TellsRangesOf status solving loaded_input text
TellsRanges false status solving loaded_input text = text ≡ []

-- the remarks on a run, which are printed before the closing line: the sensitivity ranges of its
-- solves, if they are requested, and a line on a generated model that was run (`TellsRun`)
abbrev pub AreRemarks : Status → Solving → Asked → LoadedInput → List ℕ → Type 0
AreRemarks status solving request loaded_input remarks =
    (ranges line : List ℕ) × TellsRanges request.ranges status solving loaded_input ranges × TellsRun status solving request.source loaded_input line × (remarks ≡ ranges ++ line)

-- what is printed at the end of a run whose listing was written: the remarks and the closing line
abbrev pub AreClosing : Status → Solving → Asked → LoadedInput → List ℕ → Type 0
AreClosing status solving request loaded_input lines =
    (remarks : List ℕ) × AreRemarks status solving request loaded_input remarks × (lines ≡ remarks ++ closing_line (status_code status) (length solving.answers) request.output)
