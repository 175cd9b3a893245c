-- What a run did, by the status with which it ends: what it ran, its answers, and the host's state
-- after it.
use Rattle.std.specs.Prelude.{◌≡◌, ℕ, ◌≢◌, ◌+◌, ◌≤◌, ◌⊎◌, true, false, List, [], ◌∷◌, ◌++◌, drop, length, Option, Some, None, option_map, IfSome}
use Rattle.std.specs.FinMap as files_map
use Rattle.gq_frac.specs.declared.frac.Frac.{Frac}
use Rattle.gq_frac.specs.Frac.{frac_value, frac_limit}
use Rattle.gms_host.specs.Meaning.{Meaning, Outside, Counts, Files, Rose}
use Rattle.gms_host.specs.Rules.{IsThere, with_asked, with_emptied, with_kept, with_opened, with_output, with_said}
use Rattle.gms_host.specs.Spooling.{PrintsPrefix}
use Rattle.gms_ast.specs.declared.program.Program.{Program}
use Rattle.gms_lex.specs.Tokens.{most_source_bytes}
use Rattle.gms_gen.specs.Generator.{generated_model_text}
use Rattle.gms_parse.specs.Outcomes.{HasProgram, ProgramView, program_view}
use Rattle.gms_store.specs.State.{State}
use Rattle.gms_save.specs.declared.saved.Saved.{Saved}
use Rattle.gms_save.specs.Saves.{most_save_bytes, IsRestored, IsSaveOf, place_of_solver}
use Rattle.gms_command.specs.CommandLine.{Asked, Origin, in_file, restarted, generated, request_of, usage_line, read_fault_line}
use Rattle.gms_run.specs.declared.status.Status.{Status}
use Rattle.gms_run.specs.declared.status.Status.TheVariants.{Done, Usage, Compile, Execution, ReadFault, WriteFault}
use Rattle.gms_run.specs.Solving.{Solving, SolvesNothing}
use Rattle.gms_run.specs.Scripts.{Script, LoadedInput, RunInput, from_start, from_save, script_of, joint_script, errors_of_script, IsLoadedInput}
use Rattle.gms_run.specs.ProgramsToRun.{ProgramToRun, course_of, HaltsSo}
use Rattle.gms_run.specs.Listings.{IsProgramToRun, IsListing, IsWrittenPrefix, AreClosing, SavesLast, SavesSo, save_file}

-- ---- the input

-- the file of this name has these bytes, if the host exposes its files; else they may be any bytes
abbrev pub IsFileOf : Outside → List ℕ → List ℕ → Type 0
IsFileOf o file bytes = IfSome o.files (λ files. files_map.get files file ≡ Some bytes)

-- the input is that of a request: the bytes of a file, the bytes of a save and of the file that
-- resumes from it, or the text of the generated model with `size` plants and `size` markets, and
-- `size` as its seed; no other input is. If the host hides its files, any bytes may be those of a
-- file
abbrev pub IsInputOf : Outside → Origin → RunInput → Type 0
IsInputOf o (in_file file) (from_start source) = IsFileOf o file source
IsInputOf o (restarted saved file) (from_save save source) = IsFileOf o saved save × IsFileOf o file source
IsInputOf o (generated size) (from_start source) = source ≡ generated_model_text size size size
IsInputOf o origin taken = ⊥

-- the host's state after a file with these bytes was read: its name was requested, the input is
-- open (`reading`), and at most the first `most` of the bytes were read. `input` has the others, or
-- is None if the host does not expose them
abbrev pub with_read : ℕ → Outside → List ℕ → List ℕ → Outside
with_read most o file bytes =
    record (with_asked o (file ∷ [])) { input = option_map (λ _. drop most bytes) o.input; reading = true }

-- the host's state after a source was read: at most one byte more is taken than a source may have
abbrev pub with_source_read : Outside → List ℕ → List ℕ → Outside
with_source_read o file source = with_read (most_source_bytes + 1) o file source

-- the host's state after a save was read: at most one byte more is taken than a save may have
abbrev pub with_saved : Outside → List ℕ → List ℕ → Outside
with_saved o file save = with_read (most_save_bytes + 1) o file save

-- the host's state after the input was read: a save is read before the file that resumes from it,
-- and a generated model is not read
abbrev pub with_taken : Outside → Origin → RunInput → Outside
with_taken o (in_file file) (from_start source) = with_source_read o file source
with_taken o (restarted saved file) (from_save save source) = with_source_read (with_saved o saved save) file source
with_taken o origin taken = o

-- ---- ends without a listing

-- From the state `before` of the host, the line was printed and nothing else was done; or a prefix
-- of it was printed, and a fault of writing was counted.
pub record SaysLine (old new : Meaning) (before : Outside) (line : List ℕ) : Type 0 where
  pub beginning : PrintsPrefix before new.outside line
  pub whole : (new.outside ≡ with_said before line) ⊎ Rose old.counts.write_faults new.counts.write_faults

-- The file could not be read: its name was appended to `asked`, the names by which files were
-- opened, or not; the input may be open or not, with any bytes. Nothing else was done.
abbrev pub IsUnread : Outside → Outside → List ℕ → Type 0
IsUnread old new file =
    (new ≡ record old { input = new.input; reading = new.reading }) ⊎ (new ≡ record (with_asked old (file ∷ [])) { input = new.input; reading = new.reading })

-- the file `name` of a request could not be read; the file before it, if there is one, was read
abbrev pub IsUnreadOf : Outside → Outside → Origin → List ℕ → Type 0
IsUnreadOf old new (in_file file) name = (name ≡ file) × IsUnread old new file
IsUnreadOf old new (restarted saved file) name =
    ((name ≡ saved) × IsUnread old new saved) ⊎ ((name ≡ file) × ((save : List ℕ) × (IsFileOf old saved save × IsUnread (with_saved old saved save) new file)))
IsUnreadOf old new (generated size) name = ⊥

-- A file of the request could not be read; then the read fault line was printed, or a prefix of it
-- and a fault of writing was counted.
pub record IsReadFault (old new : Meaning) (request : Asked) : Type 0 where
  pub file : List ℕ
  pub before : Outside
  pub unread : IsUnreadOf old.outside before request.source file
  pub said : SaysLine old new before (read_fault_line file)

-- ---- files that are written

-- the host's state after the output of this name was opened, and this text was written to it
abbrev pub with_listing : Outside → List ℕ → List ℕ → Outside
with_listing o output text = with_output (with_opened o output) text

-- the host's state after an output of this name was opened empty, this text was written to the
-- output, and the output was closed and kept
abbrev pub with_file : Outside → List ℕ → List ℕ → Outside
with_file o output text = with_kept (with_listing o output text)

-- an output of this name could not be opened: no output is open (`false`), the bytes of the output
-- are empty, and the name is appended to the requested names (`asked`) or not
abbrev pub IsUnopenedFile : Outside → Outside → List ℕ → Type 0
IsUnopenedFile old new name = (new ≡ with_emptied old false) ⊎ (new ≡ with_asked (with_emptied old false) (name ∷ []))

-- A prefix of these bytes was added to the output, and nothing else was done.
pub record AddsPrefix (old new : Outside) (bytes : List ℕ) : Type 0 where
  pub added : List ℕ
  pub missing : List ℕ
  pub split : bytes ≡ added ++ missing
  pub outside : new ≡ with_output old added

-- the output of this name could not be opened; or a prefix of these bytes was added to it; or all
-- of them were, and closing it failed: no output is open (`writing` is false), and this one is not
-- kept
abbrev pub IsUnwrittenFile : Outside → Outside → List ℕ → List ℕ → Type 0
IsUnwrittenFile old new name bytes =
    IsUnopenedFile old new name ⊎ (AddsPrefix (with_opened old name) new bytes ⊎ (new ≡ record (with_listing old name bytes) { writing = false }))

-- the host's state after these bytes were written to the file of this name; unchanged without a
-- name
abbrev pub with_save : Outside → Option (List ℕ) → List ℕ → Outside
with_save o None bytes = o
with_save o (Some name) bytes = with_file o name bytes

-- ---- reports

-- the host's state after the listing was written to the output, which is closed and kept, then the
-- save to its file, if it has a name, and then these lines were printed
abbrev pub with_report : Outside → List ℕ → List ℕ → Option (List ℕ) → List ℕ → List ℕ → Outside
with_report o output text name bytes lines = with_said (with_save (with_file o output text) name bytes) lines

-- The run is reported: the listing of the loaded input was written to the output file of the
-- request, which is closed and kept. After that the last state was saved, if that is requested and
-- the status is Done, and then the closing lines were printed.
pub record IsReported (status : Status) (solving : Solving) (old new : Outside) (request : Asked) (loaded_input : LoadedInput) : Type 0 where
  pub text : List ℕ
  pub listing : IsListing status solving loaded_input text
  pub save : List ℕ
  pub saves : SavesSo status solving request loaded_input save
  pub lines : List ℕ
  pub closing : AreClosing status solving request loaded_input lines
  pub outside : new ≡ with_report old request.output text (save_file status request) save lines

-- The requested output could not be opened, and nothing was solved. The host's output is empty and
-- not open, and the output's name may have been appended to the requested names (`asked`).
pub record IsUnopened (solving : Solving) (old new : Outside) (request : Asked) : Type 0 where
  pub none : SolvesNothing solving
  pub outside : IsUnopenedFile old new request.output

-- A prefix of `text` was added to the output, which was open in the state `opened`. `text` is the
-- listing that says why the loaded input is not accepted, or the listing of its run with the
-- answers of `solving`, as far as these suffice. `IsWrittenPrefix` states at which lengths of the
-- prefix a run can end.
pub record IsUnwritten (solving : Solving) (opened new : Outside) (loaded_input : LoadedInput) : Type 0 where
  pub text : List ℕ
  pub prefix : AddsPrefix opened new text
  pub expected : IsWrittenPrefix solving loaded_input text (length prefix.added)

-- The whole listing was written, but closing the output failed: no output is open (`writing` is
-- false), and this output is not appended to the closed ones (`kept`).
pub record IsUnclosed (solving : Solving) (old new : Outside) (request : Asked) (loaded_input : LoadedInput) : Type 0 where
  pub status : Status
  pub text : List ℕ
  pub listing : IsListing status solving loaded_input text
  pub outside : new ≡ record (with_listing old request.output text) { writing = false }

-- The whole listing was written, and its output is closed and kept. The save of the last state is
-- not kept: its file could not be opened; or a prefix of the save was written to it; or all of the
-- save was written, and closing the file failed.
pub record IsUnsaved (solving : Solving) (old new : Outside) (request : Asked) (loaded_input : LoadedInput) : Type 0 where
  pub status : Status
  pub text : List ℕ
  pub listing : IsListing status solving loaded_input text
  pub name : List ℕ
  pub named : save_file status request ≡ Some name
  pub save : List ℕ
  pub saves : SavesLast solving loaded_input save
  pub outside : IsUnwrittenFile (with_file old request.output text) new name save

-- The whole listing was written, its output is closed and kept, and the last state was saved, if
-- that is requested. Then a prefix of the closing lines was printed: none, some or all of their
-- bytes.
pub record IsUnsaid (solving : Solving) (old new : Outside) (request : Asked) (loaded_input : LoadedInput) : Type 0 where
  pub status : Status
  pub text : List ℕ
  pub listing : IsListing status solving loaded_input text
  pub save : List ℕ
  pub saves : SavesSo status solving request loaded_input save
  pub lines : List ℕ
  pub closing : AreClosing status solving request loaded_input lines
  pub beginning : PrintsPrefix (with_save (with_file old request.output text) (save_file status request) save) new lines

-- the run could not write all, and ended in one of five states: the output could not be opened, a
-- prefix of the listing was written, closing the output failed, the save was not written, or a
-- prefix of the closing lines was printed
abbrev pub IsWriteFault : Solving → Outside → Outside → Asked → LoadedInput → Type 0
IsWriteFault solving old new request loaded_input =
    IsUnopened solving old new request
    ⊎ (IsUnwritten solving (with_opened old request.output) new loaded_input ⊎ (IsUnclosed solving old new request loaded_input ⊎ (IsUnsaved solving old new request loaded_input ⊎ IsUnsaid solving old new request loaded_input)))

-- what the run of a loaded input with this status did to the host. Done, Compile or Execution: it
-- wrote its listing, the save if one is requested and the status is Done, and its closing lines.
-- WriteFault: a write fault ended it. There is no such run with any other status.
abbrev pub RanSo : Status → Solving → Outside → Outside → Asked → LoadedInput → Type 0
RanSo Done solving old new request loaded_input = IsReported Done solving old new request loaded_input
RanSo Compile solving old new request loaded_input = IsReported Compile solving old new request loaded_input
RanSo Execution solving old new request loaded_input = IsReported Execution solving old new request loaded_input
RanSo WriteFault solving old new request loaded_input = IsWriteFault solving old new request loaded_input
RanSo _ solving old new request loaded_input = ⊥

-- ---- the statuses

-- The input of the request was read and run, with this status. If the host hides its files, some
-- input was.
pub record IsRunOf (status : Status) (solving : Solving) (old new : Outside) (request : Asked) : Type 0 where
  pub taken : RunInput
  pub is_taken : IsInputOf old request.source taken
  pub loaded_input : LoadedInput
  pub is_loaded_input : IsLoadedInput solving.before.names taken loaded_input
  pub ran : RanSo status solving (with_taken old request.source taken) new request loaded_input

-- what a run with this status did for the request: with ReadFault a file could not be read, and
-- nothing was solved; with any other status the input was run
abbrev pub OfRequest : Status → Solving → Meaning → Meaning → Asked → Type 0
OfRequest ReadFault solving old new request = IsReadFault old new request × SolvesNothing solving
OfRequest status solving old new request = IsRunOf status solving old.outside new.outside request

-- what a run of these arguments with this status did: with Usage the arguments are no request, the
-- usage line was printed (as `SaysLine` states), and nothing was solved; with any other status they
-- are a request, and `OfRequest` says what was done for it
abbrev pub IsRun : Status → Solving → List (List ℕ) → Meaning → Meaning → Type 0
IsRun Usage solving words old new = (request_of words ≡ None) × (SaysLine old new old.outside usage_line × SolvesNothing solving)
IsRun status solving words old new = (request : Asked) × ((request_of words ≡ Some request) × OfRequest status solving old new request)

-- ---- the counts of faults

-- how the counts of faults change in a run with this status. ReadFault: the count of read faults
-- rises; WriteFault: that of write faults (a count at its greatest value may stay). Done, Compile,
-- Execution: no count changes if the host is precise (it counts a fault only in a call that answers
-- with one). Usage: nothing is claimed
abbrev pub CountsSo : Status → Counts → Counts → Type 0
CountsSo Usage old new = Unit {0}
CountsSo ReadFault old new = Rose old.read_faults new.read_faults
CountsSo WriteFault old new = Rose old.write_faults new.write_faults
CountsSo status old new = old.precise ≡ true → new ≡ old

-- a run with this status does not end with a fault of the host
abbrev pub EndsByNoFault : Status → Type 0
EndsByNoFault ReadFault = ⊥
EndsByNoFault WriteFault = ⊥
EndsByNoFault status = Unit {0}

-- the host, if it exposes its files, has the files of the request
abbrev pub HasOrigin : Outside → Origin → Type 0
HasOrigin o (in_file file) = IsThere o file
HasOrigin o (restarted saved file) = IsThere o saved × IsThere o file
HasOrigin o (generated size) = Unit {0}

-- The host is reliable (no call answers with a fault, except one that opens an input by a name that
-- no file has), and if it exposes its files, it has those that the arguments request.
pub record IsReadyFor (old : Meaning) (words : List (List ℕ)) : Type 0 where
  pub reliable : old.counts.reliable ≡ true
  pub there : IfSome (request_of words) (λ request. HasOrigin old.outside request.source)

-- ---- completeness

-- the host exposes its files, and the file of this name has these bytes
abbrev pub HasFile : Outside → List ℕ → List ℕ → Type 0
HasFile o file bytes = (files : Files) × (o.files ≡ Some files) × (files_map.get files file ≡ Some bytes)

-- the input is what a host that exposes its files has for a request: the bytes of a file, the bytes
-- of a save and of the file that resumes from it, or the text of the generated model with `size`
-- plants and `size` markets, and `size` as its seed; no other input is
abbrev pub IsContentOf : Outside → Origin → RunInput → Type 0
IsContentOf o (in_file file) (from_start source) = HasFile o file source
IsContentOf o (restarted saved file) (from_save save source) = HasFile o saved save × HasFile o file source
IsContentOf o (generated size) (from_start source) = source ≡ generated_model_text size size size
IsContentOf o origin taken = ⊥

-- The source of the script is a program without errors, with solvers of these names: it has a
-- program with this view (names, labels and statements), and no program with this view has an
-- error.
pub record IsGood (solvers : List (List ℕ)) (script : Script) : Type 0 where
  pub view : ProgramView
  pub has_program : HasProgram frac_limit script.source view
  pub no_error : (program : Program Frac) → program_view frac_value program ≡ view → errors_of_script script.saved script.line program solvers ≡ []

-- The save can be restored, with solvers of these names: it is not too long, it is the save of a
-- state of a program, and one of the solvers has the name that the save has, or there is no solver
-- and the save has the name `none`.
pub record IsGoodSave (solvers : List (List ℕ)) (save : List ℕ) : Type 0 where
  pub short : length save ≤ most_save_bytes
  pub source : List ℕ
  pub program : Program Frac
  pub state : State
  pub solver : List ℕ
  pub is_save : IsSaveOf save source program state solver
  pub placed : place_of_solver solvers solver ≢ None

-- the input can be run, with solvers of these names: it is a program without errors, and if it
-- resumes from a save, the save can be restored
abbrev pub CanRun : List (List ℕ) → RunInput → Type 0
CanRun solvers (from_start source) = IsGood solvers (script_of source)
CanRun solvers (from_save save file) =
    IsGoodSave solvers save × ((saved : Saved) → IsRestored solvers save saved → IsGood solvers (joint_script saved.source.items saved.store file))

-- The arguments request a source that the host has, or a generated model; `taken` is this input.
pub record NamesSource (old : Outside) (words : List (List ℕ)) : Type 0 where
  pub request : Asked
  pub named : request_of words ≡ Some request
  pub taken : RunInput
  pub found : IsContentOf old request.source taken

-- With solvers of these names the input from this origin can be run; a generated model always can.
abbrev pub CanRunFrom : List (List ℕ) → Origin → RunInput → Type 0
CanRunFrom solvers (generated size) taken = Unit {0}
CanRunFrom solvers origin taken = CanRun solvers taken

-- The arguments `words` request an input: a source that the host's outside `old` has, or a
-- generated model. With solvers of these names a run can execute this input, `source.taken`.
pub record NamesProgram (solvers : List (List ℕ)) (old : Outside) (words : List (List ℕ)) : Type 0 where
  pub source : NamesSource old words
  pub can_run : CanRunFrom solvers source.request.source source.taken

-- ---- execution errors

-- The input can be run, and its run with these solvers and answers is stopped by an execution
-- error.
pub record IsStopped (solving : Solving) (taken : RunInput) : Type 0 where
  pub loaded_input : LoadedInput
  pub is_loaded_input : IsLoadedInput solving.before.names taken loaded_input
  pub to_run : ProgramToRun
  pub is_to_run : IsProgramToRun solving.before.names loaded_input to_run
  pub halts : HaltsSo Execution (course_of to_run solving).halted

-- ---- faults of the host

-- no fault of the host was met: the host is reliable, or neither of its counts of faults rose
abbrev pub MeetsNoFault : Counts → Counts → Type 0
MeetsNoFault old new =
    (old.reliable ≡ true) ⊎ ((Rose old.read_faults new.read_faults → ⊥) × (Rose old.write_faults new.write_faults → ⊥))
