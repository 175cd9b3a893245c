-- What a run did for a FILE alone, by the page that begins with its source.
use Rattle.gms_run.proofs.Completeness.{one_script}
use Rattle.std.proofs.Common.{◌≡◌, ℕ, List, [], ◌++◌, length, Option, Some, None, inl, inr, refl, sym, ap, ap₂, ◌∙◌, subst}
use Rattle.std.proofs.lemmas.List.{length-map}
use Rattle.gq_frac.specs.Frac.{frac_value, frac_limit}
use Rattle.gms_host.specs.Meaning.{Meaning, Outside}
use Rattle.gms_host.specs.Rules.{with_said}
use Rattle.gms_exec.specs.Run.{Halt}
use Rattle.gms_list.specs.ListingText.{end_text}
use Rattle.lp_core.specs.Numbers.{answer_numbers}
use Rattle.gms_command.specs.CommandLine.{Asked, request_of, closing_line}
use Rattle.gms_run.specs.declared.status.Status.{Status}
use Rattle.gms_run.specs.declared.status.Status.TheVariants.{Done, Usage, Compile, Execution, ReadFault, WriteFault}
use Rattle.gms_exec.specs.Answering.{AreAnswered}
use Rattle.gms_parse.specs.Outcomes.{IsProgram}
use Rattle.gms_run.specs.Solving.{Solving, numbers_of}
use Rattle.gms_run.specs.Scripts.{Script, LoadedInput, RunInput, from_start, from_save, scripted, unrestored, script_of, IsLoadedInput, errors_of_script}
use Rattle.gms_run.specs.Laws.{RunIsAnsweredRightly}
use Rattle.gms_run.specs.ProgramsToRun.{HasRightAnswers, program_to_run, course_of, program_listing, body_of, last_line, HaltsSo, status_code}
use Rattle.gms_run.specs.Listings.{AreClosing, IsExecuted, IsListing, IsRefusalListing, save_file}
use Rattle.gms_run.specs.Statuses.{IsFileOf, IsReported, IsRun, IsRunOf, IsInputOf, RanSo, with_file, with_save, with_source_read, with_taken}
use Rattle.gms_run.specs.Headline.{HasListing, IsListingOf, IsRunListing, WritesListing, file_alone, run_of}

-- the last line of a run that ends so
ends_with : (status : Status) (halted : Option Halt) (count : ℕ) → HaltsSo status halted → last_line halted count ≡ end_text (status_code status) count
ends_with Done halted count h = ap (λ o. last_line o count) h
ends_with Execution halted count h = ap (λ o. last_line o count) h.1
ends_with Usage halted count h = absurd h
ends_with Compile halted count h = absurd h
ends_with ReadFault halted count h = absurd h
ends_with WriteFault halted count h = absurd h

one_request : {o : Option Asked} {x y : Asked} → o ≡ Some x → o ≡ Some y → x ≡ y
one_request p q = cc

run_is : {status : Status} {solving : Solving} {old new : Outside} {x y : Asked} → x ≡ y → IsRunOf status solving old new x → IsRunOf status solving old new y
run_is {status} {solving} {old} {new} e run = subst (λ request. IsRunOf status solving old new request) e run

module _ (solving : Solving) (source : List ℕ) (text : List ℕ) where
  -- what is run of a source is its program, from the state of its declarations
  executed : RunIsAnsweredRightly solving → (status : Status) (run : IsExecuted solving (scripted (script_of source)) text) → HaltsSo status (course_of run.to_run solving).halted → IsRunListing status solving source text
  executed right status run halts =
      let same : run.is_to_run.script ≡ script_of source = one_script (sym run.is_to_run.of_script) in
      let is : run.to_run ≡ program_to_run (script_of source) run.to_run.program = run.is_to_run.is_to_run ∙ ap (λ s. program_to_run s run.to_run.program) same in
      let ends : HaltsSo status (run_of run.to_run.program solving).halted = subst (λ j. HaltsSo status (course_of j solving).halted) is halts in
      let count : length solving.answers ≡ length (numbers_of solving.answers) = sym (length-map solving.answers (answer_numbers frac_value)) in
      record {
        program = run.to_run.program;
        is_program = subst (λ (s : Script). IsProgram frac_limit s.source frac_value run.to_run.program) same run.is_to_run.accepted.is_program;
        no_error = subst (λ (s : Script). errors_of_script s.saved s.line run.to_run.program solving.before.names ≡ []) same run.is_to_run.accepted.no_error;
        all_taken = subst (λ j. (course_of j solving).left ≡ []) is run.solved.all_taken;
        answered = subst (λ j. AreAnswered frac_value frac_limit solving.before.rules solving.answers (course_of j solving).events) is run.solved.answered;
        says_so = subst (λ j. HasRightAnswers j solving) is (right (from_start source) (scripted (script_of source)) text refl run);
        ends = ends;
        listing = run.listing ∙ ap (λ j. program_listing j solving) is
            ∙ ap (λ t. body_of (program_to_run (script_of source) run.to_run.program) solving ++ t) (ends_with status (run_of run.to_run.program solving).halted (length solving.answers) ends ∙ ap (end_text (status_code status)) count);
      }

  refused : IsRefusalListing solving (scripted (script_of source)) text → IsListingOf Compile solving source text
  refused (inl fault, none) = (inl (record { fault = fault.fault; is_first = fault.refused; listing = fault.listing }), none)
  refused (inr errors, none) = (inr (record { program = errors.program; is_program = errors.is_program; some = errors.some; listing = errors.listing }), none)

  -- what is listed of a source by its script is its listing
  of_source : RunIsAnsweredRightly solving → (status : Status) → IsListing status solving (scripted (script_of source)) text → IsListingOf status solving source text
  of_source right Done is = executed right Done is.0 is.1
  of_source right Execution is = executed right Execution is.0 is.1
  of_source right Compile is = refused is
  of_source right Usage is = absurd is
  of_source right ReadFault is = absurd is
  of_source right WriteFault is = absurd is

-- ---- the whole

module _ (status : Status) (solving : Solving) (old new : Outside) (file output : List ℕ) where
  -- a report of a source that was read is its listing, written, and the closing line
  of_report : (source : List ℕ) → IsFileOf old file source → ((text : List ℕ) → IsListing status solving (scripted (script_of source)) text → IsListingOf status solving source text) →
      IsReported status solving (with_source_read old file source) new (file_alone file output) (scripted (script_of source)) → WritesListing status solving old new file output
  of_report source is_source lists r =
      let said = one_line r.lines r.closing in
      record {
        source = source;
        is_source = is_source;
        text = r.text;
        listing = lists r.text r.listing;
        outside = r.outside ∙ ap₂ (λ save lines. with_said (with_save (with_file (with_source_read old file source) output r.text) save r.save) lines) (no_save status) said;
      }
    where
      no_save : (s : Status) → save_file s (file_alone file output) ≡ None
      no_save Done = refl
      no_save Usage = refl
      no_save Compile = refl
      no_save Execution = refl
      no_save ReadFault = refl
      no_save WriteFault = refl

      one_line : (lines : List ℕ) → AreClosing status solving (file_alone file output) (scripted (script_of source)) lines → lines ≡ closing_line (status_code status) (length solving.answers) output
      one_line lines closing =
          let remarks = closing.1 in
          closing.2 ∙ ap (λ t. t ++ closing_line (status_code status) (length solving.answers) output) (remarks.4 ∙ ap₂ (λ a b. a ++ b) remarks.2 remarks.3)

  -- what was read of a file is run from its start
  of_run : ((source text : List ℕ) → IsListing status solving (scripted (script_of source)) text → IsListingOf status solving source text) →
      ((outside : Outside) (loaded_input : LoadedInput) → RanSo status solving outside new (file_alone file output) loaded_input → IsReported status solving outside new (file_alone file output) loaded_input) →
      IsRunOf status solving old new (file_alone file output) → WritesListing status solving old new file output
  of_run lists reports run = by run.taken run.loaded_input run.is_taken run.is_loaded_input run.ran
    where
      by : (taken : RunInput) (loaded_input : LoadedInput) → IsInputOf old (file_alone file output).source taken → IsLoadedInput solving.before.names taken loaded_input → RanSo status solving (with_taken old (file_alone file output).source taken) new (file_alone file output) loaded_input →
          WritesListing status solving old new file output
      by (from_start source) (scripted script) is_source same ran =
          of_report source is_source (lists source) (reports (with_source_read old file source) (scripted (script_of source)) (subst (λ s. RanSo status solving (with_source_read old file source) new (file_alone file output) (scripted s)) same ran))
      by (from_start source) (unrestored fault) is_source same ran = absurd same
      by (from_save save source) loaded_input is_source same ran = absurd is_source

-- for a request of one FILE, a listing that was written whole is the listing of the source in that
-- file
pub headlined : (status : Status) (solving : Solving) (words : List (List ℕ)) (old new : Meaning) (file output : List ℕ) → RunIsAnsweredRightly solving → IsRun status solving words old new → request_of words ≡ Some (file_alone file output) → HasListing status →
    WritesListing status solving old.outside new.outside file output
headlined Done solving words old new file output right run named has =
    of_run Done solving old.outside new.outside file output (λ source text. of_source solving source text right Done) (λ outside loaded_input ran. ran) (run_is (one_request run.1.0 named) run.1.1)
headlined Execution solving words old new file output right run named has =
    of_run Execution solving old.outside new.outside file output (λ source text. of_source solving source text right Execution) (λ outside loaded_input ran. ran) (run_is (one_request run.1.0 named) run.1.1)
headlined Compile solving words old new file output right run named has =
    of_run Compile solving old.outside new.outside file output (λ source text. of_source solving source text right Compile) (λ outside loaded_input ran. ran) (run_is (one_request run.1.0 named) run.1.1)
headlined Usage solving words old new file output right run named has = absurd has
headlined ReadFault solving words old new file output right run named has = absurd has
headlined WriteFault solving words old new file output right run named has = absurd has
