-- The listing of a source, put together from its parts, as it is written.
use Rattle.std.proofs.Common.{◌≡◌, ◌≢◌, Option, Some, None, ℕ, zero, suc, ◌+◌, ◌<◌, ◌≤◌, ◌==◌, true, false, List, [], ◌∷◌, ◌++◌, length, take, map, get_or, Vec, refl, sym, ap, ap₂, ◌∙◌, subst, append_assoc, add-one, ◌⊎◌, inl, inr, arith, length-append, cond, Result, Ok, Err}
use Rattle.std.specs.Prelude.{String, string_bytes, vec_len, slice_get, option_map, unwrap_or, IfSome, IfOk, Bool}
use Rattle.std.specs.List.{All}
use Rattle.std.specs.declared.alloc.Global.{Global}
use Rattle.std.proofs.Math.Seq.{take-suc}
use Rattle.std.proofs.lemmas.Bool.{eqb-true}
use Rattle.std.proofs.lemmas.List.{length-map, map-append, take_all}
use Rattle.std.proofs.lemmas.List.Elements.{All-append, All-cons, All-nil}
use Rattle.std.proofs.lemmas.List.FromFn.{length-range_with_len}
use Rattle.std.proofs.lemmas.Option.{slice_get-map}
use Rattle.gq_number.specs.Number.{Number}
use Rattle.gq_frac.specs.declared.frac.Frac.{Frac}
use Rattle.gq_frac.specs.Frac.{frac_value, frac_limit}
use Rattle.gms_host.specs.Meaning.{Outside}
use Rattle.gms_host.specs.Rules.{with_output}
use Rattle.gms_host.specs.Spooling.{Passes, WritesPrefix}
use Rattle.gms_host.proofs.WrittenPrefixes.{output-both, passes_after, passes_none, passes_whole}
use Rattle.gms_ast.specs.declared.program.Program.{Program}
use Rattle.gms_ast.specs.declared.program.Stmt.{Stmt}
use Rattle.gms_check.specs.declared.error.CompileError.{CompileError}
use Rattle.gms_parse.specs.declared.fault.SourceError.{SourceError}
use Rattle.gms_parse.specs.Outcomes.{IsProgram}
use Rattle.gms_event.specs.Events.{Event, Solved}
use Rattle.gms_exec.specs.Run.{Halt}
use Rattle.lp_core.specs.declared.answer.Answer.{Answer}
use Rattle.lp_core.specs.declared.answer.Rule.TheVariants.{Legal}
use Rattle.lp_slot.specs.declared.solver.SolverRule.{SolverRule}
use Rattle.lp_slot.proofs.Under.{legal_under}
use Rattle.lp_core.specs.declared.program.Lp.{Lp}
use Rattle.lp_core.specs.Numbers.{lp_numbers}
use Rattle.lp_slot.specs.SolverNames.{IsSolverName}
use Rattle.gms_command.specs.Answered.{AreSomeAnswers, IsSomeAnswer}
use Rattle.gms_command.specs.RangeTexts.{SaysRanges}
use Rattle.gms_list.specs.ListingText.{echo_text, end_text, has_echo, refused_echo}
use Rattle.gms_run.specs.declared.status.Status.{Status}
use Rattle.gms_run.specs.declared.status.Status.TheVariants.{Done, Usage, Compile, Execution, ReadFault, WriteFault}
use Rattle.gms_store.specs.State.{State, fits_at, symbol_of}
use Rattle.gms_command.specs.CommandLine.{Asked, Origin, in_file, restarted, generated, closing_line}
use Rattle.gms_run.specs.Solving.{Solving, SolvesNothing, numbers_of, solves_in}
use Rattle.gms_save_text.specs.SavedState.{saved_text}
use Rattle.gms_run.specs.Scripts.{LoadedInput, Script, scripted, errors_of_script}
use Rattle.gms_run.specs.ProgramsToRun.{HaltsSo, IsCutOff, IsRunSolved, ProgramToRun, body_of, course_of, first_of, program_to_run, program_listing, last_line, save_text, solver_name, status_code}
use Rattle.gms_run.specs.Listings.{AreClosing, AreRemarks, IsAcceptedScript, IsExecuted, IsWrittenPrefix, IsProgramToRun, IsListing, IsModelLine, SavesLast, SavesSo, ShowsErrors, ShowsWhy, TellsModel, TellsRanges, TellsRun, TellsSpans, errors_text, refused_text, save_file, unrestored_text}
use Rattle.gms_run.specs.Statuses.{IsUnwritten}
use Rattle.gms_save.specs.declared.fault.SaveFault.{SaveFault}
use Rattle.gms_run.specs.declared.script.LoadedInput.{LoadedInput as OwnInput}
use Rattle.gms_run.specs.declared.script.LoadedInput.TheVariants.{Unrestored}
use Rattle.gms_run.specs.InnerReports.{Follows, IsGoneOn, IsRanged, IsRemarked, IsSave, IsTold, KeepsState, Lists, ListsErrors, Prepares, loaded_input_in}
use Rattle.gms_run.specs.InnerSteps.{Ends, IsAnsweredAt, KeepsPrograms}
use Rattle.gms_run.proofs.Executing.{BreaksProgram, EndsProgram}
use Rattle.gms_run.proofs.Saving.{placed-last, saves-state}

-- after a spool and a text that are both empty comes the text itself
pub after_nothing : (spool before text : List ℕ) → spool ++ before ≡ [] → spool ++ (before ++ text) ≡ text
after_nothing spool before text empty = sym (append_assoc spool before text) ∙ ap (λ t. t ++ text) empty

-- a body of which nothing was written is pending
all_pending : (status : Status) (solving : Solving) (now : Outside) (loaded_input : LoadedInput) (body pending : List ℕ) → IsListing status solving loaded_input (body ++ end_text (status_code status) (length solving.answers)) → pending ≡ body → status ≡ Compile → Prepares status solving now now loaded_input pending
all_pending status solving now loaded_input body pending is same compile = record { body = body; listing = is; passes = subst (Passes now now body) (sym same) (passes_none now body); within_bound = inl compile }

-- ---- refusals

-- a script that has an echo
pub echo_there : (error : SourceError) (script : Script) → has_echo error ≡ true → refused_echo error script.line script.file ≡ echo_text script.line script.file
echo_there error script has = ap (λ (b : Bool). cond b (echo_text script.line script.file) []) has

-- and one that has none
pub echo_nowhere : (error : SourceError) (script : Script) → has_echo error ≡ false → refused_echo error script.line script.file ≡ []
echo_nowhere error script has = ap (λ (b : Bool). cond b (echo_text script.line script.file) []) has

-- two texts appended to another
pub two_after : (old echo mid line new : List ℕ) → mid ≡ old ++ echo → new ≡ mid ++ line → new ≡ old ++ (echo ++ line)
two_after old echo mid line new p q = q ∙ ap (λ t. t ++ line) p ∙ append_assoc old echo line

-- the listing of what is refused
shows_refused : (solving : Solving) (loaded_input : LoadedInput) (listed : List ℕ) → SolvesNothing solving → ShowsWhy solving.before.names loaded_input (refused_text listed) → IsListing Compile solving loaded_input (listed ++ end_text (status_code Compile) (length solving.answers))
shows_refused solving loaded_input listed none why =
    (subst (ShowsWhy solving.before.names loaded_input) (sym (ap (λ (answers : List (Answer Frac)). listed ++ end_text 2 (length answers)) none.0)) why, none)

-- Why there is nothing to run was listed.
pub prepares_why : (status : Status) (solving : Solving) (now : Outside) (loaded_input : LoadedInput) (spool before pending after listed : List ℕ) → status ≡ Compile → SolvesNothing solving → spool ++ before ≡ [] → pending ≡ spool → after ≡ before ++ listed →
    ShowsWhy solving.before.names loaded_input (refused_text listed) → Prepares status solving now now loaded_input (pending ++ after)
prepares_why status solving now loaded_input spool before pending after listed same none empty kept put why =
    all_pending status solving now loaded_input listed _
    (subst (λ s. IsListing s solving loaded_input (listed ++ end_text (status_code s) (length solving.answers))) (sym same) (shows_refused solving loaded_input listed none why))
    (ap₂ (λ a b. a ++ b) kept put ∙ after_nothing spool before listed empty) same

-- errors that are listed for these solvers are for the same
pub lists_as : {X : Type 0} (name_of : X → List ℕ) (slice solvers : List X) (some : Bool) (script : Script) (program : Program Frac) (before after : List ℕ) → slice ≡ solvers →
    ListsErrors some (errors_of_script script.saved script.line program (map name_of slice)) script before after → ListsErrors some (errors_of_script script.saved script.line program (map name_of solvers)) script before after
lists_as {X} name_of slice solvers some script program before after same lists =
    subst (λ (xs : List X). ListsErrors some (errors_of_script script.saved script.line program (map name_of xs)) script before after) same lists

-- where none are listed there are none, and nothing is
-- errors that are the same for each state are listed as those of each
pub lists_each : {E : Type 0} (r : Result Bool E) (errors : List CompileError) (each : State → List CompileError) (script : State → Script) (before after : List ℕ) → ((state : State) → errors ≡ each state) →
    IfOk r (λ some. (state : State) → ListsErrors some errors (script state) before after) → IfOk r (λ some. (state : State) → ListsErrors some (each state) (script state) before after)
lists_each (Ok some) errors each script before after same lists = λ state. subst (λ (es : List CompileError). ListsErrors some es (script state) before after) (same state) (lists state)
lists_each (Err e) errors each script before after same lists = tt

pub lists_none : (some : Bool) (errors : List CompileError) (script : Script) (before after : List ℕ) → some ≡ false → ListsErrors some errors script before after → (errors ≡ []) × (after ≡ before)
lists_none some errors script before after is lists = subst (λ b. ListsErrors b errors script before after) is lists

-- errors that are listed are those of the program
pub shows_errors : (solvers : List (List ℕ)) (script : Script) (program : Program Frac) → IsProgram frac_limit script.source frac_value program → errors_of_script script.saved script.line program solvers ≢ [] → ShowsErrors solvers script (refused_text (errors_text script (errors_of_script script.saved script.line program solvers)))
shows_errors solvers script program is_program some = record { program = program; is_program = is_program; some = some; listing = refl }

-- Errors of a program were listed, so that there is nothing to run.
pub prepares_errors : (solving : Solving) (now : Outside) (script : Script) (program : Program Frac) (some : Bool) (spool before after : List ℕ) → IsProgram frac_limit script.source frac_value program → some ≡ true → ListsErrors some (errors_of_script script.saved script.line program solving.before.names) script before after →
    SolvesNothing solving → spool ++ before ≡ [] → Prepares Compile solving now now (scripted script) (spool ++ after)
prepares_errors solving now script program some spool before after is_program is lists none empty =
    let errors = errors_of_script script.saved script.line program solving.before.names in
    let listed : ListsErrors true errors script before after = subst (λ b. ListsErrors b errors script before after) is lists in
    prepares_why Compile solving now (scripted script) spool before spool after (errors_text script errors) refl none empty refl listed.1
    (inr (shows_errors solving.before.names script program is_program listed.0))

-- why there is nothing to run of a save that cannot be restored
pub unrestored_why : (solvers : List (List ℕ)) (loaded_input : OwnInput) (state : State) (fault : SaveFault) → loaded_input ≡ Unrestored fault → ShowsWhy solvers (loaded_input_in loaded_input state) (refused_text (unrestored_text fault))
unrestored_why solvers loaded_input state fault is = subst (λ (m : OwnInput). ShowsWhy solvers (loaded_input_in m state) (refused_text (unrestored_text fault))) (sym is) refl

-- ---- runs

-- the last line of a program that halts so is that of its status
ends_line : (status : Status) (halted : Option Halt) (n : ℕ) → HaltsSo status halted → end_text (status_code status) n ≡ last_line halted n
ends_line Done halted n is = ap (λ h. last_line h n) (sym is)
ends_line Execution halted n is = ap (λ h. last_line h n) (sym is.1)
ends_line Usage halted n is = absurd is
ends_line Compile halted n is = absurd is
ends_line ReadFault halted n is = absurd is
ends_line WriteFault halted n is = absurd is

-- what is run of an accepted script
abbrev pub program_of_script : (solvers : List (List ℕ)) (script : Script) (program : Program Frac) → IsAcceptedScript solvers script program → IsProgramToRun solvers (scripted script) (program_to_run script program)
program_of_script solvers script program accepted = record { script = script; of_script = refl; accepted = accepted; is_to_run = refl }

-- a program that ended has its listing
listed_program : (status : Status) (solving : Solving) (loaded_input : LoadedInput) (to_run : ProgramToRun) → IsProgramToRun solving.before.names loaded_input to_run → IsRunSolved to_run solving → HaltsSo status (course_of to_run solving).halted →
    IsListing status solving loaded_input (body_of to_run solving ++ end_text (status_code status) (length solving.answers))
listed_program status solving loaded_input to_run is_to_run solved halts = by status halts
  where
    run : (s : Status) → HaltsSo s (course_of to_run solving).halted → IsExecuted solving loaded_input (body_of to_run solving ++ end_text (status_code s) (length solving.answers))
    run s h = record { to_run = to_run; is_to_run = is_to_run; solved = solved; listing = ap (λ t. body_of to_run solving ++ t) (ends_line s (course_of to_run solving).halted (length solving.answers) h) }

    by : (s : Status) → HaltsSo s (course_of to_run solving).halted → IsListing s solving loaded_input (body_of to_run solving ++ end_text (status_code s) (length solving.answers))
    by Done h = (run Done h, h)
    by Execution h = (run Execution h, h)
    by Usage h = absurd h
    by Compile h = absurd h
    by ReadFault h = absurd h
    by WriteFault h = absurd h

-- The listing of a program that ended.
pub prepares_program : (keep : Bool) (status : Status) (solving : Solving) (old new : Outside) (loaded_input : LoadedInput) (left : List ℕ) (to_run : ProgramToRun) (last : State) (programs : List (Lp Frac)) → IsProgramToRun solving.before.names loaded_input to_run →
    EndsProgram keep status to_run solving last programs old new left → Prepares status solving old new loaded_input left
prepares_program keep status solving old new loaded_input left to_run last programs is_to_run e =
    record {
      body = body_of to_run solving;
      listing = listed_program status solving loaded_input to_run is_to_run e.ends.solved e.ends.halts;
      passes = e.passes;
      within_bound = inr e.within_bound;
    }

-- The listing of a program was cut off.
pub unwritten_program : (solving : Solving) (old new : Outside) (loaded_input : LoadedInput) (to_run : ProgramToRun) → IsProgramToRun solving.before.names loaded_input to_run → BreaksProgram to_run solving old new → IsUnwritten solving old new loaded_input
unwritten_program solving old new loaded_input to_run is_to_run b =
    let line : List ℕ = last_line (course_of to_run solving).halted (length solving.answers) in
    record {
      text = program_listing to_run solving;
      prefix = record { added = b.beginning.1.bytes; missing = b.beginning.0 ++ line; split = ap (λ t. t ++ line) b.beginning.1.split ∙ append_assoc b.beginning.1.bytes b.beginning.0 line; outside = b.beginning.1.written };
      expected = inr (record { to_run = to_run; is_to_run = is_to_run; solved = b.solved; listing = refl }, b.cut);
    }

-- ---- what is printed at the end

-- The remarks on a run that ended are the expected ones.
pub remarked : (status : Status) (solving : Solving) (request : Asked) (loaded_input : LoadedInput) (text : List ℕ) (to_run : ProgramToRun) (last : State) (solved : List (Lp Frac)) → IsProgramToRun solving.before.names loaded_input to_run → Ends request.ranges status to_run solving last solved →
    IsRemarked request to_run.program last solved solving.answers text → AreRemarks status solving request loaded_input text
remarked status solving request loaded_input text to_run last solved is_to_run ends (ranges, line, ranged, told, split) = (
  ranges,
  line,
  spans request.ranges status refl ends.halts ranged,
  tells request.source status ends.halts told,
  split,
)
  where
    of_spans : request.ranges ≡ true → SaysRanges to_run.program.names to_run.program.labels frac_limit 1 (map (lp_numbers frac_value) solved) (numbers_of solving.answers) ranges → TellsSpans solving loaded_input ranges
    of_spans asked said =
        record {
          to_run = to_run;
          is_to_run = is_to_run;
          in_order = (ends.kept asked).in_order;
          said = subst (λ (programs : List (Lp Number)). SaysRanges to_run.program.names to_run.program.labels frac_limit 1 programs (numbers_of solving.answers) ranges) (ends.kept asked).shown said;
        }

    spans : (asked : Bool) (s : Status) → request.ranges ≡ asked → HaltsSo s (course_of to_run solving).halted → IsRanged asked to_run.program solved solving.answers ranges → TellsRanges asked s solving loaded_input ranges
    spans false s is h said = said
    spans true Done is h said = of_spans is said
    spans true Execution is h said = of_spans is said
    spans true Usage is h said = absurd h
    spans true Compile is h said = absurd h
    spans true ReadFault is h said = absurd h
    spans true WriteFault is h said = absurd h

    of_model : (size : ℕ) → IsModelLine size to_run.program last solving.answers line → TellsModel solving size loaded_input line
    of_model size told =
        record { to_run = to_run; is_to_run = is_to_run; told = subst (λ (state : State). IsModelLine size to_run.program state solving.answers line) (sym ends.comes) told }

    tells : (o : Origin) (s : Status) → HaltsSo s (course_of to_run solving).halted → IsTold o to_run.program last solving.answers line → TellsRun s solving o loaded_input line
    tells (in_file file) s h told = told
    tells (restarted saved file) s h told = told
    tells (generated size) Done h told = of_model size told
    tells (generated size) Execution h told = of_model size told
    tells (generated size) Usage h told = absurd h
    tells (generated size) Compile h told = absurd h
    tells (generated size) ReadFault h told = absurd h
    tells (generated size) WriteFault h told = absurd h

-- The save of the last state of a program that ended.
pub saves_program : (status : Status) (solving : Solving) (request : Asked) (loaded_input : LoadedInput) (bytes : List ℕ) (to_run : ProgramToRun) (last : State) (programs : List (Lp Frac)) (solvers : List (List ℕ)) → solvers ≡ solving.before.names → All IsSolverName solving.before.names → (is_to_run : IsProgramToRun solving.before.names loaded_input to_run) → IfSome is_to_run.script.saved (IsGoneOn solving.before.names is_to_run.script.source is_to_run.script.line) → Ends request.ranges status to_run solving last programs →
    IsSave status request solvers to_run.source to_run.program last bytes → SavesSo status solving request loaded_input bytes
saves_program status solving request loaded_input bytes to_run last programs solvers names named is_to_run origin ends = by (save_file status request)
  where
    by : (file : Option (List ℕ)) → IfSome file (λ f. KeepsState solvers to_run.source to_run.program last bytes) → IfSome file (λ f. SavesLast solving loaded_input bytes)
    by None is = tt
    by (Some file) is =
        let text : bytes ≡ save_text to_run solving = is.text ∙ ap₂ (λ (ns : List (List ℕ)) (state : State). saved_text to_run.source to_run.program.names state (solver_name ns state)) names (sym ends.comes) in
        record {
          to_run = to_run;
          is_to_run = is_to_run;
          text = text;
          is_save =
              saves-state solving is_to_run.script to_run is_to_run.accepted is_to_run.is_to_run origin bytes text
              (subst (λ (s : State). (name : ℕ) → name < length to_run.program.names → (t : List ℕ) → fits_at frac_limit (symbol_of s name).content t ≡ true) (sym ends.comes) is.fit) named;
          placed = placed-last solving is_to_run.script to_run is_to_run.accepted is_to_run.is_to_run origin named;
        }

-- What follows the listing of a program that ended.
pub follows_program : (status : Status) (solving : Solving) (request : Asked) (loaded_input : LoadedInput) (text bytes : List ℕ) (to_run : ProgramToRun) (last : State) (programs : List (Lp Frac)) (solvers : List (List ℕ)) → (is_to_run : IsProgramToRun solving.before.names loaded_input to_run) → IfSome is_to_run.script.saved (IsGoneOn solving.before.names is_to_run.script.source is_to_run.script.line) → Ends request.ranges status to_run solving last programs →
    IsRemarked request to_run.program last programs solving.answers text → IsSave status request solvers to_run.source to_run.program last bytes → solvers ≡ solving.before.names → All IsSolverName solving.before.names → Follows status solving request loaded_input text bytes
follows_program status solving request loaded_input text bytes to_run last programs solvers is_to_run origin ends told saved names named =
    record { remarks = remarked status solving request loaded_input text to_run last programs is_to_run ends told; saves = saves_program status solving request loaded_input bytes to_run last programs solvers names named is_to_run origin ends saved }

-- On what is refused there are no remarks, and nothing is saved.
pub nothing_follows : (status : Status) (solving : Solving) (request : Asked) (loaded_input : LoadedInput) (text bytes : List ℕ) → status ≡ Compile → text ≡ [] → Follows status solving request loaded_input text bytes
nothing_follows status solving request loaded_input text bytes same none =
    subst (λ s. Follows s solving request loaded_input text bytes) (sym same) (record { remarks = ([], [], ranges request.ranges, line request.source, none); saves = tt })
  where
    ranges : (asked : Bool) → TellsRanges asked Compile solving loaded_input []
    ranges true = refl
    ranges false = refl

    line : (o : Origin) → TellsRun Compile solving o loaded_input []
    line (in_file file) = refl
    line (restarted saved file) = refl
    line (generated size) = refl

-- The closing lines are those that the run calls for.
pub are_closing : (status : Status) (solving : Solving) (request : Asked) (loaded_input : LoadedInput) (remarks lines output : List ℕ) (solves : ℕ) → AreRemarks status solving request loaded_input remarks → output ≡ request.output → solves ≡ length solving.answers →
    lines ≡ remarks ++ closing_line (status_code status) solves output → AreClosing status solving request loaded_input lines
are_closing status solving request loaded_input remarks lines output solves told named many closed =
    (remarks, told, closed ∙ ap₂ (λ (n : ℕ) (name : List ℕ). remarks ++ closing_line (status_code status) n name) many named)

-- ---- answers of the programs that were kept

-- each answer is one of the program that was kept for its solve
answered_by : (rules : List SolverRule) (answers : List (Answer Frac)) (programs : List (Lp Frac)) (events : List Event) → KeepsPrograms rules answers programs events → AreSomeAnswers frac_value frac_limit programs answers
answered_by rules answers programs events kept =
    let shown : length programs ≡ length (solves_in events) = sym (length-map programs (lp_numbers frac_value)) ∙ ap length kept.shown ∙ length-map (solves_in events) (λ (solved : Solved). solved.lp) in
    let placed : length (solves_in events) ≡ length answers = sym (length-map (solves_in events) (λ (solved : Solved). solved.answer)) ∙ ap length kept.in_order ∙ length-range_with_len 0 (length answers) in
    record { many = shown ∙ placed; each = λ place. at place (slice_get programs place) (kept.answered place) }
  where
    at : (place : ℕ) (o : Option (Lp Frac)) → IfSome o (IsAnsweredAt rules answers place) → IfSome o (λ (lp : Lp Frac). IfSome (slice_get answers place) (IsSomeAnswer frac_value frac_limit lp))
    at place None h = tt
    at place (Some lp) (settings, occurs) =
        subst (λ (o : Option (Answer Frac)). IfSome o (IsSomeAnswer frac_value frac_limit lp)) (sym occurs.occurs) (record { formed = occurs.formed; iterlim = settings.iterlim; rule = Legal; is_answer = legal_under frac_value frac_limit lp settings.iterlim occurs.rule occurs.given occurs.is_answer })

-- each solve of a program that ended is answered, where the programs were kept
pub ends_answered : (keep : Bool) (status : Status) (to_run : ProgramToRun) (solving : Solving) (last : State) (programs : List (Lp Frac)) → Ends keep status to_run solving last programs → keep ≡ true → AreSomeAnswers frac_value frac_limit programs solving.answers
ends_answered keep status to_run solving last programs ends requested = answered_by solving.before.rules solving.answers programs (course_of to_run solving).events (ends.kept requested)

-- ---- the last line

-- The whole listing was written.
pub lists_ended : (status : Status) (solving : Solving) (old mid new : Outside) (loaded_input : LoadedInput) (pending : List ℕ) (solves : ℕ) → solves ≡ length solving.answers → Prepares status solving old mid loaded_input pending →
    new ≡ with_output mid (pending ++ end_text (status_code status) solves) → Lists status solving old new loaded_input
lists_ended status solving old mid new loaded_input pending solves many p w =
    let line : ℕ → List ℕ = end_text (status_code status) in
    record { text = p.body ++ line (length solving.answers); listing = p.listing; written = subst (λ n. new ≡ with_output old (p.body ++ line n)) many (passes_whole old mid new (p.body ++ line solves) (pending ++ line solves) (passes_after (line solves) p.passes) w) }

-- taking all statements changes nothing
whole_program : (to_run : ProgramToRun) (n : ℕ) → length to_run.statements ≤ n → first_of n to_run ≡ to_run
whole_program to_run n h = ap (λ (ss : List (Stmt Frac)). record to_run { statements = ss }) (take_all n to_run.statements h)

-- a program whose statements were all executed is cut off where its text is not written
cut_whole : (to_run : ProgramToRun) (solving : Solving) (written : ℕ) → (course_of to_run solving).left ≡ [] → length (body_of to_run solving) ≤ written + 4096 → IsCutOff to_run solving written
cut_whole to_run solving written taken pending =
    let n = length to_run.statements in
    inr (record {
      before = n;
      taken = subst (λ (j : ProgramToRun). (course_of j solving).left ≡ []) (sym (whole_program to_run (n + 1) (omega arith))) taken;
      held = subst (λ (j : ProgramToRun). length (body_of j solving) ≤ written + 4096) (sym (whole_program to_run n (omega arith))) pending;
    })

-- two texts that end with the same line are equally long before it
as_long : (a b x y : List ℕ) → x ≡ y → a ++ x ≡ b ++ y → length a ≡ length b
as_long a b x y line e =
    let n : length x ≡ length y = ap length line in
    let m : length (a ++ x) ≡ length (b ++ y) = ap length e in
    omega (arith, n, m, length-append a x, length-append b y)

-- a listing is an expected prefix, where its body is written except for at most one spool
listed_prefix : (status : Status) (solving : Solving) (loaded_input : LoadedInput) (body : List ℕ) (written : ℕ) → (status ≡ Compile) ⊎ (length body ≤ written + 4096) → IsListing status solving loaded_input (body ++ end_text (status_code status) (length solving.answers)) →
    IsWrittenPrefix solving loaded_input (body ++ end_text (status_code status) (length solving.answers)) written
listed_prefix status solving loaded_input body written within_bound is = by status within_bound is
  where
    text : Status → List ℕ
    text s = body ++ end_text (status_code s) (length solving.answers)

    executed : (s : Status) → (run : IsExecuted solving loaded_input (text s)) → HaltsSo s (course_of run.to_run solving).halted → length body ≤ written + 4096 → IsWrittenPrefix solving loaded_input (text s) written
    executed s run h few =
        let to_run = run.to_run in
        let same : length body ≡ length (body_of to_run solving) = as_long body (body_of to_run solving) _ _ (ends_line s (course_of to_run solving).halted (length solving.answers) h) run.listing in
        inr (run, cut_whole to_run solving written run.solved.all_taken (omega (arith, same, few)))

    by : (s : Status) → (s ≡ Compile) ⊎ (length body ≤ written + 4096) → IsListing s solving loaded_input (text s) → IsWrittenPrefix solving loaded_input (text s) written
    by Compile within_bound is = inl is
    by Done (inr few) is = executed Done is.0 is.1 few
    by Execution (inr few) is = executed Execution is.0 is.1 few
    by Done (inl e) is = absurd (let z : ⊥ = cc in z)
    by Execution (inl e) is = absurd (let z : ⊥ = cc in z)
    by Usage within_bound is = absurd is
    by ReadFault within_bound is = absurd is
    by WriteFault within_bound is = absurd is

-- The listing was written up to a prefix.
pub prefix_ended : (status : Status) (solving : Solving) (old mid new : Outside) (loaded_input : LoadedInput) (pending : List ℕ) (solves : ℕ) → solves ≡ length solving.answers → Prepares status solving old mid loaded_input pending →
    WritesPrefix mid new (pending ++ end_text (status_code status) solves) → IsUnwritten solving old new loaded_input
prefix_ended status solving old mid new loaded_input pending solves many p beginning =
    let line : List ℕ = end_text (status_code status) (length solving.answers) in
    let f : WritesPrefix mid new (pending ++ line) = subst (λ n. WritesPrefix mid new (pending ++ end_text (status_code status) n)) many beginning in
    record {
      text = p.body ++ line;
      prefix = record {
        added = p.passes.bytes ++ f.1.bytes;
        missing = f.0;
        split = ap (λ t. t ++ line) p.passes.split ∙ append_assoc p.passes.bytes pending line ∙ ap (λ t. p.passes.bytes ++ t) f.1.split ∙ sym (append_assoc p.passes.bytes f.1.bytes f.0);
        outside = output-both old mid new p.passes.bytes f.1.bytes p.passes.written f.1.written;
      };
      expected = listed_prefix status solving loaded_input p.body _ (elim p.within_bound [ inl e ↦ inl e | inr few ↦ inr (pends_over p.body p.passes.bytes f.1.bytes pending p.passes.split few) ]) p.listing;
    }
  where
    pends_over : (body bytes more pending : List ℕ) → body ≡ bytes ++ pending → length pending ≤ 4096 → length body ≤ length (bytes ++ more) + 4096
    pends_over body bytes more pending split few =
        let n : length body ≡ length (bytes ++ pending) = ap length split in
        omega (arith, n, few, length-append bytes pending, length-append bytes more)

-- ---- lists

-- a vector has as many elements as it says
pub counted : {X : Type 0} (v : Vec X Global) (n : ℕ) → n ≡ vec_len v → n ≡ length v.items
counted v n e = let counts = v.ok.0 in let said : n ≡ v.len = e in omega (arith, counts, said)

nothing_in : {X : Type 0} (xs : List X) → length xs ≡ 0 → xs ≡ []
nothing_in [] h = refl
nothing_in (x ∷ xs) h = absurd (omega (arith, h))

-- a list that is empty
pub emptied : {X : Type 0} (xs : List X) → (length xs == 0) ≡ true → xs ≡ []
emptied xs e = nothing_in xs (eqb-true (length xs) 0 e)

positive : (n : ℕ) → (n == 0) ≡ false → 0 < n
positive zero e = absurd cc
positive (suc n) e = omega arith

-- a list that is not
pub filled : {X : Type 0} (xs : List X) → (length xs == 0) ≡ false → xs ≢ []
filled xs e = λ none.
    let n : length xs ≡ 0 = ap length none in
    let some = positive (length xs) e in
    omega (arith, n, some)

-- the image of the element at a place
pub told_at : {X : Type 0} (f : X → List ℕ) (xs : List X) (k : ℕ) (x : X) (other : List ℕ) → slice_get xs k ≡ Some x → f x ≡ unwrap_or (slice_get (map f xs) k) other
told_at f xs k x other is = sym (ap (λ (o : Option (List ℕ)). unwrap_or o other) (slice_get-map f xs k ∙ ap (option_map f) is))

-- without an element at the place, the other text
pub told_nowhere : {X : Type 0} (f : X → List ℕ) (xs : List X) (k : ℕ) (other : List ℕ) → slice_get xs k ≡ None → other ≡ unwrap_or (slice_get (map f xs) k) other
told_nowhere f xs k other is = sym (ap (λ (o : Option (List ℕ)). unwrap_or o other) (slice_get-map f xs k ∙ ap (option_map f) is))

-- the names of one solver more
pub named_more : {X : Type 0} (f : X → List ℕ) (xs : List X) (i : ℕ) (x : X) (names after : List (String Global)) (text : String Global) → i < length xs → x ≡ get_or xs i x →
    map string_bytes names ≡ map f (take i xs) → after ≡ names ++ text ∷ [] → string_bytes text ≡ f x → map string_bytes after ≡ map f (take (i + 1) xs)
named_more f xs i x names after text within is so put same =
    ap (map string_bytes) put ∙ map-append string_bytes names (text ∷ []) ∙ ap₂ (λ a b. a ++ b ∷ []) so (same ∙ ap f is)
    ∙ sym (ap (λ k. map f (take k xs)) (add-one i) ∙ ap (map f) (take-suc xs i x within) ∙ map-append f (take i xs) (get_or xs i x ∷ []))

-- what holds of each name holds of those of one solver more
pub named_all : (P : List ℕ → Type 0) (names after : List (String Global)) (text : String Global) → All P (map string_bytes names) → after ≡ names ++ text ∷ [] → P (string_bytes text) → All P (map string_bytes after)
named_all P names after text all put is =
    subst (All P) (sym (ap (map string_bytes) put ∙ map-append string_bytes names (text ∷ []))) (All-append P (map string_bytes names) (string_bytes text ∷ []) all (All-cons P (string_bytes text) [] is (All-nil P)))
