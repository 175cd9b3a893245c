-- What a run did, put together from its steps.
use Rattle.std.proofs.Common.{◌≡◌, refl, ℕ, ◌+◌, ◌<◌, ◌≤◌, Bool, true, false, List, [], ◌∷◌, ◌++◌, length, take, Option, Some, None, Result, Ok, Err, Vec, IfOk, OnOk, sym, ap, ◌∙◌, subst, ◌⊎◌, inl, inr, arith, length-append, length-take, append-nil}
use Rattle.std.specs.Prelude.{IfSome, IsErrOf, IsSome}
use Rattle.std.specs.FinMap as files_map
use Rattle.std.specs.declared.alloc.AllocError.{AllocError}
use Rattle.std.specs.declared.alloc.Global.{Global}
use Rattle.std.proofs.lemmas.List.{take_all}
use Rattle.std.proofs.lemmas.Bool.{cases_lt}
use Rattle.gms_host.specs.declared.host.Failed.{Failed}
use Rattle.gms_host.specs.declared.host.Failed.TheVariants.{Fault, Memory}
use Rattle.gms_host.specs.Meaning.{Counts, Files, Meaning, Outside, Rose}
use Rattle.gms_host.specs.Rules.{ClosesOutput, CountsReading, CountsWriting, IsThere, OpensOutput, with_kept, with_opened, with_output, with_said}
use Rattle.gms_host.specs.Spooling.{PrintsPrefix}
use Rattle.gms_host.proofs.Counting.{all_done, done_with, rose_later}
use Rattle.gms_lex.specs.Tokens.{most_source_bytes}
use Rattle.gms_parse.specs.Outcomes.{IsSourceFault}
use Rattle.gms_save.specs.declared.saved.Saved.{Saved}
use Rattle.gms_save.specs.declared.fault.SaveFault.{SaveFault}
use Rattle.gms_save.specs.declared.fault.SaveFault.TheVariants.{SaveTooLong, SaveShape, SaveSolver}
use Rattle.gms_save.specs.Saves.{GivesBack, most_save_bytes, IsRestored}
use Rattle.gms_run.specs.declared.status.Status.{Status}
use Rattle.gms_run.specs.declared.status.Status.TheVariants.{Done, Usage, Compile, Execution, ReadFault, WriteFault}
use Rattle.gms_gen.specs.Generator.{generated_model_text}
use Rattle.gms_command.specs.CommandLine.{Asked, Origin, in_file, restarted, generated, read_fault_line, request_of}
use Rattle.gms_store.specs.State.{State}
use Rattle.gms_run.specs.Solving.{Solving, SolvesNothing}
use Rattle.gms_run.specs.Scripts.{Script, LoadedInput, scripted, unrestored, RunInput, from_start, from_save, script_of, first_line, joint_script, joint_source, IsLoadedInput, IsUnrestored}
use Rattle.gms_run.specs.ProgramsToRun.{ProgramToRun}
use Rattle.gms_run.specs.Listings.{AreClosing, IsExecuted, IsWrittenPrefix, IsProgramToRun, IsListing, IsRefusalListing, SavesLast, SavesSo, ShowsRefusal, ShowsWhy, TellsRanges, TellsRun, refusal_text, refused_text, save_file}
use Rattle.gms_run.specs.Statuses.{CountsSo, EndsByNoFault, HasOrigin, IsFileOf, IsReadFault, IsReadyFor, IsReported, IsRun, IsInputOf, IsUnread, IsUnreadOf, IsUnwritten, IsUnwrittenFile, IsWriteFault, OfRequest, RanSo, SaysLine, with_file, with_listing, with_read, with_save, with_saved, with_source_read, with_taken}
use Rattle.gms_run.specs.InnerReports.{CountsMention, CountsRun, EndsAs, IsUnreadFile, Lists, LosesSave, RanAfter, RanOf, ReadsFile, WritesSave}
use Rattle.gms_run.specs.InnerSteps.{ResultsIn}
use Rattle.gms_run.proofs.CallResults.{failed_with}
use Rattle.gq_frac.specs.Frac.{frac_limit}

-- ---- sources that are too long

-- The listing of the refusal of a script that is too long is that of another that is too long.
long_refusal : (a b : Script) (text : List ℕ) → most_source_bytes < length a.source → most_source_bytes < length b.source → ShowsRefusal a text → ShowsRefusal b text
long_refusal a b text long more r = by_fault r.refused
  where
    by_fault : IsSourceFault frac_limit a.source r.fault → ShowsRefusal b text
    by_fault (inl too) =
        record { fault = r.fault; refused = inl (more, too.1); listing = r.listing ∙ ap (λ fault. refused_text (refusal_text a fault)) too.1 ∙ sym (ap (λ fault. refused_text (refusal_text b fault)) too.1) }
    by_fault (inr (inl lexical)) = let few : length a.source ≤ most_source_bytes = lexical.short in absurd (omega (arith, long, few))
    by_fault (inr (inr syntactic)) = let few : length a.source ≤ most_source_bytes = syntactic.short in absurd (omega (arith, long, few))

-- nothing is run of a script that is too long
no_program : (solvers : List (List ℕ)) (script : Script) (to_run : ProgramToRun) → most_source_bytes < length script.source → IsProgramToRun solvers (scripted script) to_run → ⊥
no_program solvers script to_run long is =
    let same : is.script ≡ script = one_script (sym is.of_script) in
    let few : length is.script.source ≤ most_source_bytes = is.accepted.is_program.short in
    let size : length is.script.source ≡ length script.source = ap (λ (s : Script). length s.source) same in
    omega (arith, few, size, long)
  where
    one_script : {x y : Script} → scripted x ≡ scripted y → x ≡ y
    one_script e = cc

-- what is listed of why a script that is too long is not run is listed of another
long_why : (solvers : List (List ℕ)) (a b : Script) (text : List ℕ) → most_source_bytes < length a.source → most_source_bytes < length b.source → ShowsWhy solvers (scripted a) text → ShowsWhy solvers (scripted b) text
long_why solvers a b text long more (inl refusal) = inl (long_refusal a b text long more refusal)
long_why solvers a b text long more (inr errors) = let few : length a.source ≤ most_source_bytes = errors.is_program.short in absurd (omega (arith, few, long))

module _ (solving : Solving) (a b : Script) (long : most_source_bytes < length a.source) (more : most_source_bytes < length b.source) where
  -- of two scripts that are too long the same is refused
  long_refused : (text : List ℕ) → IsRefusalListing solving (scripted a) text → IsRefusalListing solving (scripted b) text
  long_refused text (why, none) = (long_why solving.before.names a b text long more why, none)

  -- neither is executed
  no_run : (text : List ℕ) → IsExecuted solving (scripted a) text → ⊥
  no_run text run = no_program solving.before.names a run.to_run long run.is_to_run

  -- the same is listed
  long_listing : (status : Status) (text : List ℕ) → IsListing status solving (scripted a) text → IsListing status solving (scripted b) text
  long_listing Compile text is = long_refused text is
  long_listing Done text is = absurd (no_run text is.0)
  long_listing Execution text is = absurd (no_run text is.0)
  long_listing Usage text is = absurd is
  long_listing ReadFault text is = absurd is
  long_listing WriteFault text is = absurd is

  -- and the same prefix is expected
  long_prefix : (text : List ℕ) (written : ℕ) → IsWrittenPrefix solving (scripted a) text written → IsWrittenPrefix solving (scripted b) text written
  long_prefix text written (inl refused) = inl (long_refused text refused)
  long_prefix text written (inr run) = absurd (no_run text run.0)

  long_ranges : (asked : Bool) (status : Status) (text : List ℕ) → TellsRanges asked status solving (scripted a) text → TellsRanges asked status solving (scripted b) text
  long_ranges false status text said = said
  long_ranges true Done text said = absurd (no_program solving.before.names a said.to_run long said.is_to_run)
  long_ranges true Execution text said = absurd (no_program solving.before.names a said.to_run long said.is_to_run)
  long_ranges true Compile text said = said
  long_ranges true Usage text said = said
  long_ranges true ReadFault text said = said
  long_ranges true WriteFault text said = said

  long_told : (o : Origin) (status : Status) (line : List ℕ) → TellsRun status solving o (scripted a) line → TellsRun status solving o (scripted b) line
  long_told (in_file file) status line told = told
  long_told (restarted saved file) status line told = told
  long_told (generated size) Done line told = absurd (no_program solving.before.names a told.to_run long told.is_to_run)
  long_told (generated size) Execution line told = absurd (no_program solving.before.names a told.to_run long told.is_to_run)
  long_told (generated size) Compile line told = told
  long_told (generated size) Usage line told = told
  long_told (generated size) ReadFault line told = told
  long_told (generated size) WriteFault line told = told

  -- and the same closing lines are expected
  long_closing : (status : Status) (request : Asked) (lines : List ℕ) → AreClosing status solving request (scripted a) lines → AreClosing status solving request (scripted b) lines
  long_closing status request lines (remarks, (ranges, line, ranged, told, split), closed) =
      (remarks, (ranges, line, long_ranges request.ranges status ranges ranged, long_told request.source status line told, split), closed)

  -- and nothing is saved
  long_saves : (status : Status) (request : Asked) (save : List ℕ) → SavesSo status solving request (scripted a) save → SavesSo status solving request (scripted b) save
  long_saves status request save = by (save_file status request)
    where
      by : (file : Option (List ℕ)) → IfSome file (λ f. SavesLast solving (scripted a) save) → IfSome file (λ f. SavesLast solving (scripted b) save)
      by None is = tt
      by (Some file) is = absurd (no_program solving.before.names a is.to_run long is.is_to_run)

  long_reported : (status : Status) (old new : Outside) (request : Asked) → IsReported status solving old new request (scripted a) → IsReported status solving old new request (scripted b)
  long_reported status old new request r =
      record { text = r.text; listing = long_listing status r.text r.listing; save = r.save; saves = long_saves status request r.save r.saves; lines = r.lines; closing = long_closing status request r.lines r.closing; outside = r.outside }

  -- what could not be written is the same
  long_unwritten : (old new : Outside) (request : Asked) → IsWriteFault solving old new request (scripted a) → IsWriteFault solving old new request (scripted b)
  long_unwritten old new request (inl u) = inl u
  long_unwritten old new request (inr (inl u)) = inr (inl (record { text = u.text; prefix = u.prefix; expected = long_prefix u.text (length u.prefix.added) u.expected }))
  long_unwritten old new request (inr (inr (inl u))) = inr (inr (inl (record { status = u.status; text = u.text; listing = long_listing u.status u.text u.listing; outside = u.outside })))
  long_unwritten old new request (inr (inr (inr (inl u)))) = absurd (no_program solving.before.names a u.saves.to_run long u.saves.is_to_run)
  long_unwritten old new request (inr (inr (inr (inr u)))) =
      inr (inr (inr (inr (record { status = u.status; text = u.text; listing = long_listing u.status u.text u.listing; save = u.save; saves = long_saves u.status request u.save u.saves; lines = u.lines; closing = long_closing u.status request u.lines u.closing; beginning = u.beginning }))))

  -- What a run did of a script that is too long it did of another.
  pub long_ran : (status : Status) (old new : Outside) (request : Asked) → RanSo status solving old new request (scripted a) → RanSo status solving old new request (scripted b)
  long_ran Done old new request r = long_reported Done old new request r
  long_ran Compile old new request r = long_reported Compile old new request r
  long_ran Execution old new request r = long_reported Execution old new request r
  long_ran WriteFault old new request r = long_unwritten old new request r
  long_ran Usage old new request r = absurd r
  long_ran ReadFault old new request r = absurd r

-- What holds of the first `most + 1` of some bytes holds of all, if for inputs that are too long it
-- carries over.
of_whole : (most : ℕ) (bytes : List ℕ) (P : List ℕ → Type 0) → (most < length (take (most + 1) bytes) → most < length bytes → P (take (most + 1) bytes) → P bytes) → P (take (most + 1) bytes) → P bytes
of_whole most bytes P long is =
    elim (cases_lt (most + 1) (length bytes)) [
      | inl h ↦ long (omega (arith, h, length-take (most + 1) bytes)) (omega (arith, h)) is
      | inr h ↦ subst P (take_all (most + 1) bytes h) is
    ]

module _ (status : Status) (solving : Solving) (old new : Outside) (request : Asked) where
  -- what a run did of the first bytes of a file it did of the file
  pub ran_whole : (whole : List ℕ) → RanSo status solving old new request (scripted (script_of (take (most_source_bytes + 1) whole))) → RanSo status solving old new request (scripted (script_of whole))
  ran_whole whole =
      of_whole most_source_bytes whole (λ b. RanSo status solving old new request (scripted (script_of b)))
      (λ long more r. long_ran solving (script_of (take (most_source_bytes + 1) whole)) (script_of whole) long more status old new request r)

  -- the same for a file that resumes from a saved state
  joint_whole : (saved : List ℕ) (state : State) (whole : List ℕ) → RanSo status solving old new request (scripted (joint_script saved state (take (most_source_bytes + 1) whole))) → RanSo status solving old new request (scripted (joint_script saved state whole))
  joint_whole saved state whole =
      of_whole most_source_bytes whole (λ b. RanSo status solving old new request (scripted (joint_script saved state b)))
      (λ long more r. long_ran solving (joint_script saved state (take (most_source_bytes + 1) whole)) (joint_script saved state whole) (too_long saved (take (most_source_bytes + 1) whole) long) (too_long saved whole more) status old new request r)
    where
      longer : (a b : List ℕ) → length b ≤ length (a ++ b)
      longer a b = omega (arith, length-append a b)

      too_long : (a b : List ℕ) → most_source_bytes < length b → most_source_bytes < length (joint_source a b)
      too_long a b h =
          let joining : length b ≤ length (10 ∷ 59 ∷ 10 ∷ b) = longer (10 ∷ 59 ∷ 10 ∷ []) b in
          let joint : length (10 ∷ 59 ∷ 10 ∷ b) ≤ length (joint_source a b) = longer a (10 ∷ 59 ∷ 10 ∷ b) in
          omega (arith, h, joining, joint)

  -- what was run of a save and the first bytes of a file is what was run of the save and the file
  pub file_whole : (save whole : List ℕ) → RanOf status solving old new request (from_save save (take (most_source_bytes + 1) whole)) → RanOf status solving old new request (from_save save whole)
  file_whole save whole r = by r.loaded_input r.is_loaded_input r.ran
    where
      by : (m : LoadedInput) → IsLoadedInput solving.before.names (from_save save (take (most_source_bytes + 1) whole)) m → RanSo status solving old new request m → RanOf status solving old new request (from_save save whole)
      by (unrestored fault) is ran = record { loaded_input = unrestored fault; is_loaded_input = is; ran = ran }
      by (scripted script) is ran =
          record {
            loaded_input = scripted (joint_script is.saved.source.items is.saved.store whole);
            is_loaded_input = record { saved = is.saved; short = is.short; restored = is.restored; back = is.back; joint = refl };
            ran = joint_whole is.saved.source.items is.saved.store whole (subst (λ (s : Script). RanSo status solving old new request (scripted s)) is.joint ran);
          }

  -- what was run of the first bytes of a save was run of the save
  pub save_whole : (whole file : List ℕ) → RanOf status solving old new request (from_save (take (most_save_bytes + 1) whole) file) → RanOf status solving old new request (from_save whole file)
  save_whole whole file = of_whole most_save_bytes whole (λ b. RanOf status solving old new request (from_save b file)) (λ long more r. by long more r.loaded_input r.is_loaded_input r.ran)
    where
      same_fault : (fault : SaveFault) → most_save_bytes < length (take (most_save_bytes + 1) whole) → most_save_bytes < length whole → IsUnrestored solving.before.names (take (most_save_bytes + 1) whole) fault → IsUnrestored solving.before.names whole fault
      same_fault SaveTooLong long more is = record { answer = more; back = λ source program state solver save. more }
      same_fault SaveShape long more is = let few : length (take (most_save_bytes + 1) whole) ≤ most_save_bytes = is.answer.0 in absurd (omega (arith, few, long))
      same_fault SaveSolver long more is = let few : length (take (most_save_bytes + 1) whole) ≤ most_save_bytes = is.answer.0 in absurd (omega (arith, few, long))

      by : most_save_bytes < length (take (most_save_bytes + 1) whole) → most_save_bytes < length whole → (m : LoadedInput) → IsLoadedInput solving.before.names (from_save (take (most_save_bytes + 1) whole) file) m → RanSo status solving old new request m → RanOf status solving old new request (from_save whole file)
      by long more (scripted script) is ran = let few : length (take (most_save_bytes + 1) whole) ≤ most_save_bytes = is.short in absurd (omega (arith, few, long))
      by long more (unrestored fault) is ran = record { loaded_input = unrestored fault; is_loaded_input = same_fault fault long more is; ran = ran }

-- a line that was printed after a file was read, or was not
says_later : {A : Type 0} {r : Result A Failed} (old mid new : Meaning) (before : Outside) (line : List ℕ) (there : Type 0) → CountsReading r there old.counts mid.counts → SaysLine mid new before line → SaysLine old new before line
says_later old mid new before line there counts said =
    let faults : mid.counts.write_faults ≡ old.counts.write_faults = ap (λ (c : Counts). c.write_faults) counts.rest in
    record { beginning = said.beginning; whole = elim said.whole [ inl all ↦ inl all | inr rose ↦ inr (subst (λ n. Rose n new.counts.write_faults) faults rose) ] }

says_from : {A : Type 0} {r : Result A Failed} (old mid new : Meaning) (line : List ℕ) (there : Type 0) → CountsReading r there old.counts mid.counts → SaysLine mid new mid.outside line → SaysLine old new mid.outside line
says_from old mid new line there counts said = says_later old mid new mid.outside line there counts said

-- ---- for a request

-- What a run of the input did is what it did for a request.
pub of_request : (status : Status) (solving : Solving) (old new : Meaning) (request : Asked) (taken : RunInput) → IsInputOf old.outside request.source taken → RanOf status solving (with_taken old.outside request.source taken) new.outside request taken → OfRequest status solving old new request
of_request Done solving old new request taken is r = record { taken = taken; is_taken = is; loaded_input = r.loaded_input; is_loaded_input = r.is_loaded_input; ran = r.ran }
of_request Compile solving old new request taken is r = record { taken = taken; is_taken = is; loaded_input = r.loaded_input; is_loaded_input = r.is_loaded_input; ran = r.ran }
of_request Execution solving old new request taken is r = record { taken = taken; is_taken = is; loaded_input = r.loaded_input; is_loaded_input = r.is_loaded_input; ran = r.ran }
of_request WriteFault solving old new request taken is r = record { taken = taken; is_taken = is; loaded_input = r.loaded_input; is_loaded_input = r.is_loaded_input; ran = r.ran }
of_request Usage solving old new request taken is r = absurd r.ran
of_request ReadFault solving old new request taken is r = absurd r.ran

-- The same of a result, for a file whose first bytes were taken.
pub of_file : (r : Result Status AllocError) (solving : Solving) (old mid new : Meaning) (request : Asked) (file : List ℕ) (source : Vec ℕ Global) (bytes : List ℕ) → request.source ≡ in_file file → bytes ≡ source.items → ReadsFile (most_source_bytes + 1) (done_with source) old.outside mid.outside file →
    IfOk r (λ status. RanSo status solving mid.outside new.outside request (scripted (script_of bytes))) → IfOk r (λ status. OfRequest status solving old new request)
of_file (Ok status) solving old mid new request file source bytes in_it same read ran =
    let whole = read.0 in
    let is : IsInputOf old.outside request.source (from_start whole) = subst (λ (o : Origin). IsInputOf old.outside o (from_start whole)) (sym in_it) read.1.0 in
    let taken : bytes ≡ take (most_source_bytes + 1) whole = same ∙ read.1.1.0 in
    let place : mid.outside ≡ with_taken old.outside request.source (from_start whole) = read.1.1.1 ∙ ap (λ (o : Origin). with_taken old.outside o (from_start whole)) (sym in_it) in
    let ran_so : RanSo status solving (with_taken old.outside request.source (from_start whole)) new.outside request (scripted (script_of (take (most_source_bytes + 1) whole))) =
    subst (λ (o : Outside). RanSo status solving o new.outside request (scripted (script_of (take (most_source_bytes + 1) whole)))) place (subst (λ (b : List ℕ). RanSo status solving mid.outside new.outside request (scripted (script_of b))) taken ran) in
    of_request status solving old new request (from_start whole) is
    (record { loaded_input = scripted (script_of whole); is_loaded_input = refl; ran = ran_whole status solving (with_taken old.outside request.source (from_start whole)) new.outside request whole ran_so })
of_file (Err e) solving old mid new request file source bytes in_it same read ran = tt

-- And for a model that was generated, without any call.
pub of_generated : (r : Result Status AllocError) (solving : Solving) (old new : Meaning) (request : Asked) (size : ℕ) (source : List ℕ) → request.source ≡ generated size → source ≡ generated_model_text size size size →
    IfOk r (λ status. RanSo status solving old.outside new.outside request (scripted (script_of source))) → IfOk r (λ status. OfRequest status solving old new request)
of_generated (Ok status) solving old new request size source e is ran =
    of_request status solving old new request (from_start source) (subst (λ (o : Origin). IsInputOf old.outside o (from_start source)) (sym e) is)
    (record { loaded_input = scripted (script_of source); is_loaded_input = refl; ran = subst (λ (o : Outside). RanSo status solving o new.outside request (scripted (script_of source))) (ap (λ (o : Origin). with_taken old.outside o (from_start source)) (sym e)) ran })
of_generated (Err x) solving old new request size source e is ran = tt

-- A file that resumes from a restored save.
pub of_joint : (r : Result Status AllocError) (solving : Solving) (old new : Outside) (request : Asked) (save file : List ℕ) (saved : Saved) → length save ≤ most_save_bytes → IsRestored solving.before.names save saved → GivesBack solving.before.names save (Ok saved) →
    IfOk r (λ status. RanSo status solving old new request (scripted (joint_script saved.source.items saved.store file))) → IfOk r (λ status. RanOf status solving old new request (from_save save file))
of_joint (Ok status) solving old new request save file saved short restored back ran =
    record { loaded_input = scripted (joint_script saved.source.items saved.store file); is_loaded_input = record { saved = saved; short = short; restored = restored; back = back; joint = refl }; ran = ran }
of_joint (Err e) solving old new request save file saved short restored back ran = tt

-- A joint script is that of the saved source, the saved state and the file.
pub ran_joint : (r : Result Status AllocError) (solving : Solving) (old new : Outside) (request : Asked) (source file before : List ℕ) (line : ℕ) (state saved : State) → source ≡ joint_source before file → line ≡ first_line before → state ≡ saved →
    IfOk r (λ status. RanSo status solving old new request (scripted (record { source = source; file = file; line = line; saved = Some state }))) → IfOk r (λ status. RanSo status solving old new request (scripted (joint_script before saved file)))
ran_joint r solving old new request source file before line state saved is begins same ran =
    subst (λ (s : State). IfOk r (λ status. RanSo status solving old new request (scripted (record { source = joint_source before file; file = file; line = first_line before; saved = Some s })))) same
    (subst (λ (n : ℕ). IfOk r (λ status. RanSo status solving old new request (scripted (record { source = joint_source before file; file = file; line = n; saved = Some state })))) begins
    (subst (λ (t : List ℕ). IfOk r (λ status. RanSo status solving old new request (scripted (record { source = t; file = file; line = line; saved = Some state })))) is ran))

-- What could not be restored is listed so.
pub of_unrestored : (r : Result Status AllocError) (solving : Solving) (old new : Outside) (request : Asked) (save file : List ℕ) (fault : SaveFault) → IsUnrestored solving.before.names save fault →
    IfOk r (λ status. RanSo status solving old new request (unrestored fault)) → IfOk r (λ status. RanOf status solving old new request (from_save save file))
of_unrestored (Ok status) solving old new request save file fault is ran = record { loaded_input = unrestored fault; is_loaded_input = is; ran = ran }
of_unrestored (Err e) solving old new request save file fault is ran = tt

-- A run of a file that was read after its save is the run of that file.
pub of_after : (r : Result Status AllocError) (solving : Solving) (old mid new : Meaning) (request : Asked) (save file : List ℕ) (source : Vec ℕ Global) (bytes : List ℕ) → bytes ≡ source.items → ReadsFile (most_source_bytes + 1) (done_with source) old.outside mid.outside file →
    IfOk r (λ status. RanOf status solving mid.outside new.outside request (from_save save bytes)) → IfOk r (λ status. RanAfter status solving old new request save file)
of_after (Err e) solving old mid new request save file source bytes same read ran = tt
of_after (Ok status) solving old mid new request save file source bytes same read ran = by status ran
  where
    whole : List ℕ
    whole = read.0

    of_status : (s : Status) → RanOf s solving mid.outside new.outside request (from_save save bytes) → (source : List ℕ) × (IsFileOf old.outside file source × RanOf s solving (with_source_read old.outside file source) new.outside request (from_save save source))
    of_status s r = (
      whole,
      (
        read.1.0,
        file_whole s solving (with_source_read old.outside file whole) new.outside request save whole
            (subst (λ (o : Outside). RanOf s solving o new.outside request (from_save save (take (most_source_bytes + 1) whole))) read.1.1.1 (subst (λ (b : List ℕ). RanOf s solving mid.outside new.outside request (from_save save b)) (same ∙ read.1.1.0) r)),
      ),
    )

    by : (s : Status) → RanOf s solving mid.outside new.outside request (from_save save bytes) → RanAfter s solving old new request save file
    by Done r = of_status Done r
    by Compile r = of_status Compile r
    by Execution r = of_status Execution r
    by WriteFault r = of_status WriteFault r
    by Usage r = absurd r.ran
    by ReadFault r = absurd r.ran

-- A file that resumes from a save could not be read, and the read fault line was printed.
pub unread_after : (r : Result Status AllocError) (solving : Solving) (old mid new : Meaning) (request : Asked) (save file : List ℕ) → IsUnread old.outside mid.outside file → CountsReading (let x : Result (Vec ℕ Global) Failed = Err Fault in x) (IsThere old.outside file) old.counts mid.counts →
    IfOk r (λ status. status ≡ ReadFault) → OnOk r (SaysLine mid new mid.outside (read_fault_line file)) → SolvesNothing solving → IfOk r (λ status. RanAfter status solving old new request save file)
unread_after (Ok status) solving old mid new request save file not counts same said none =
    subst (λ s. RanAfter s solving old new request save file) (sym same) (record { before = mid.outside; unread = not; said = says_from old mid new (read_fault_line file) (IsThere old.outside file) counts said }, none)
unread_after (Err e) solving old mid new request save file not counts same said none = tt

-- A run of the first bytes of a save, and of the file after it, is what was run for a request.
pub of_restart : (r : Result Status AllocError) (solving : Solving) (old mid new : Meaning) (request : Asked) (saved file : List ℕ) (save : Vec ℕ Global) (bytes : List ℕ) → request.source ≡ restarted saved file → bytes ≡ save.items → ReadsFile (most_save_bytes + 1) (done_with save) old.outside mid.outside saved →
    CountsReading (done_with save) (IsThere old.outside saved) old.counts mid.counts → IfOk r (λ status. RanAfter status solving mid new request bytes file) → IfOk r (λ status. OfRequest status solving old new request)
of_restart (Err e) solving old mid new request saved file save bytes in_it same read counts ran = tt
of_restart (Ok status) solving old mid new request saved file save bytes in_it same read counts ran = by status ran
  where
    whole : List ℕ
    whole = read.0

    at : mid.outside ≡ with_saved old.outside saved whole
    at = read.1.1.1

    of_status : (s : Status) → (source : List ℕ) × (IsFileOf mid.outside file source × RanOf s solving (with_source_read mid.outside file source) new.outside request (from_save bytes source)) → OfRequest s solving old new request
    of_status s (source, (there, r)) =
        let found : IsFileOf (with_saved old.outside saved whole) file source = subst (λ (o : Outside). IsFileOf o file source) at there in
        let is : IsInputOf old.outside request.source (from_save whole source) = subst (λ (o : Origin). IsInputOf old.outside o (from_save whole source)) (sym in_it) (read.1.0, found) in
        let first : RanOf s solving (with_source_read (with_saved old.outside saved whole) file source) new.outside request (from_save (take (most_save_bytes + 1) whole) source) =
        subst (λ (o : Outside). RanOf s solving (with_source_read o file source) new.outside request (from_save (take (most_save_bytes + 1) whole) source)) at
        (subst (λ (b : List ℕ). RanOf s solving (with_source_read mid.outside file source) new.outside request (from_save b source)) (same ∙ read.1.1.0) r) in
        of_request s solving old new request (from_save whole source) is
        (subst (λ (o : Origin). RanOf s solving (with_taken old.outside o (from_save whole source)) new.outside request (from_save whole source)) (sym in_it)
        (save_whole s solving (with_source_read (with_saved old.outside saved whole) file source) new.outside request whole source first))

    unread_second : IsUnreadFile mid new file → IsReadFault old new request
    unread_second u =
        record {
          file = file;
          before = u.before;
          unread = subst (λ (o : Origin). IsUnreadOf old.outside u.before o file) (sym in_it) (inr (refl, (whole, (read.1.0, subst (λ (o : Outside). IsUnread o u.before file) at u.unread))));
          said = says_later old mid new u.before (read_fault_line file) (IsThere old.outside saved) counts u.said;
        }

    by : (s : Status) → RanAfter s solving mid new request bytes file → OfRequest s solving old new request
    by Done r = of_status Done r
    by Compile r = of_status Compile r
    by Execution r = of_status Execution r
    by WriteFault r = of_status WriteFault r
    by Usage r = of_status Usage r
    by ReadFault r = (unread_second r.0, r.1)

-- ---- reports

-- A report is what its status says.
pub reports_so : (status : Status) (solving : Solving) (old new : Outside) (request : Asked) (loaded_input : LoadedInput) → IsReported status solving old new request loaded_input → RanSo status solving old new request loaded_input
reports_so Done solving old new request loaded_input r = r
reports_so Compile solving old new request loaded_input r = r
reports_so Execution solving old new request loaded_input r = r
reports_so Usage solving old new request loaded_input r = absurd r.listing
reports_so ReadFault solving old new request loaded_input r = absurd r.listing
reports_so WriteFault solving old new request loaded_input r = absurd r.listing

-- a run did what its report resulted in
pub ran_so : (reported : Result Status Failed) (r : Result Status AllocError) (solving : Solving) (old new : Outside) (request : Asked) (loaded_input : LoadedInput) → EndsAs reported r →
    ResultsIn reported (λ status. IsReported status solving old new request loaded_input) (IsWriteFault solving old new request loaded_input) → IfOk r (λ status. RanSo status solving old new request loaded_input)
ran_so (Ok status) r solving old new request loaded_input is done =
    subst (λ (x : Result Status AllocError). IfOk x (λ s. RanSo s solving old new request loaded_input)) (sym is) (reports_so status solving old new request loaded_input done)
ran_so (Err Fault) r solving old new request loaded_input is broken =
    subst (λ (x : Result Status AllocError). IfOk x (λ s. RanSo s solving old new request loaded_input)) (sym is) broken
ran_so (Err Memory) r solving old new request loaded_input (e, is) broken =
    subst (λ (x : Result Status AllocError). IfOk x (λ s. RanSo s solving old new request loaded_input)) (sym is) tt

-- ---- the steps of a report

-- the output that is opened has the name that was requested
opened_as : (old mid : Outside) (name output : List ℕ) → name ≡ output → mid ≡ with_opened old name → mid ≡ with_opened old output
opened_as old mid name output same e = e ∙ ap (with_opened old) same

-- the output was not opened
pub unopened : (solving : Solving) (old new : Outside) (request : Asked) (loaded_input : LoadedInput) (name : List ℕ) (failed : Failed) → name ≡ request.output → SolvesNothing solving → OpensOutput (Err failed) old new name → IsWriteFault solving old new request loaded_input
unopened solving old new request loaded_input name failed same none opened =
    inl (record { none = none; outside = subst (λ (n : List ℕ). OpensOutput (Err failed) old new n) same opened })

-- the listing was not written whole
pub unwritten : (solving : Solving) (old mid new : Outside) (request : Asked) (loaded_input : LoadedInput) (name : List ℕ) → name ≡ request.output → mid ≡ with_opened old name → IsUnwritten solving mid new loaded_input → IsWriteFault solving old new request loaded_input
unwritten solving old mid new request loaded_input name same opened u = inr (inl (subst (λ (o : Outside). IsUnwritten solving o new loaded_input) (opened_as old mid name request.output same opened) u))

module _ (status : Status) (solving : Solving) (old mid wrote : Outside) (request : Asked) (loaded_input : LoadedInput) (name : List ℕ) (same : name ≡ request.output) (opened : mid ≡ with_opened old name) (lists : Lists status solving mid wrote loaded_input) where
  -- what was written
  written : wrote ≡ with_listing old request.output lists.text
  written = lists.written ∙ ap (λ (o : Outside). with_output o lists.text) (opened_as old mid name request.output same opened)

  -- the output was not closed well
  pub unclosed : (new : Outside) (failed : Failed) → ClosesOutput (Err failed) wrote new → IsWriteFault solving old new request loaded_input
  unclosed new failed closed =
      inr (inr (inl (record { status = status; text = lists.text; listing = lists.listing; outside = closed ∙ ap (λ (o : Outside). record o { writing = false }) written })))

  module _ (shut : Outside) (closed : ClosesOutput all_done wrote shut) where
    kept : shut ≡ with_file old request.output lists.text
    kept = closed ∙ ap with_kept written

    -- the save was not written to its file
    pub unsaved : (new : Outside) (save : List ℕ) → SavesSo status solving request loaded_input save → LosesSave status request shut new save → IsWriteFault solving old new request loaded_input
    unsaved new save saves lost =
        inr (inr (inr (inl (record {
          status = status;
          text = lists.text;
          listing = lists.listing;
          name = lost.name;
          named = lost.named;
          save = save;
          saves = subst (λ (file : Option (List ℕ)). IfSome file (λ f. SavesLast solving loaded_input save)) lost.named saves;
          outside = subst (λ (o : Outside). IsUnwrittenFile o new lost.name save) kept lost.outside;
        }))))

    module _ (done : Outside) (save : List ℕ) (saves : SavesSo status solving request loaded_input save) (saved : WritesSave status request shut done save) (lines : List ℕ) (closing : AreClosing status solving request loaded_input lines) where
      stored : done ≡ with_save (with_file old request.output lists.text) (save_file status request) save
      stored = saved ∙ ap (λ (o : Outside). with_save o (save_file status request) save) kept

      -- the closing lines were not said whole
      pub unsaid : (new : Outside) → PrintsPrefix done new lines → IsWriteFault solving old new request loaded_input
      unsaid new beginning =
          inr (inr (inr (inr (record { status = status; text = lists.text; listing = lists.listing; save = save; saves = saves; lines = lines; closing = closing; beginning = subst (λ (o : Outside). PrintsPrefix o new lines) stored beginning }))))

      -- all was done
      pub reported : (new : Outside) → new ≡ with_said done lines → IsReported status solving old new request loaded_input
      reported new said =
          record { text = lists.text; listing = lists.listing; save = save; saves = saves; lines = lines; closing = closing; outside = said ∙ ap (λ (o : Outside). with_said o lines) stored }

-- ---- saves

-- The save was written to its file, or not.
pub saves_file : (r : Result (Unit {0}) Failed) (status : Status) (request : Asked) (old new : Outside) (name bytes : List ℕ) → save_file status request ≡ Some name → ResultsIn r (λ done. new ≡ with_file old name bytes) (IsUnwrittenFile old new name bytes) →
    ResultsIn r (λ done. WritesSave status request old new bytes) (LosesSave status request old new bytes)
saves_file (Ok done) status request old new name bytes named is = is ∙ ap (λ (file : Option (List ℕ)). with_save old file bytes) (sym named)
saves_file (Err Fault) status request old new name bytes named is = record { name = name; named = named; outside = is }
saves_file (Err Memory) status request old new name bytes named is = tt

-- There is none to be written.
pub saves_none : (status : Status) (request : Asked) (old : Outside) (bytes : List ℕ) → save_file status request ≡ None → WritesSave status request old old bytes
saves_none status request old bytes none = ap (λ (file : Option (List ℕ)). with_save old file bytes) (sym none)

-- ---- files that are not read

-- The first file of a request could not be read, and the read fault line was printed.
pub unread : (r : Result Status AllocError) (solving : Solving) (old mid new : Meaning) (request : Asked) (file : List ℕ) → IsUnreadOf old.outside mid.outside request.source file → CountsReading (let x : Result (Vec ℕ Global) Failed = Err Fault in x) (IsThere old.outside file) old.counts mid.counts →
    IfOk r (λ status. status ≡ ReadFault) → OnOk r (SaysLine mid new mid.outside (read_fault_line file)) → SolvesNothing solving → IfOk r (λ status. OfRequest status solving old new request)
unread (Ok status) solving old mid new request file not counts same said none =
    subst (λ s. OfRequest s solving old new request) (sym same) (record { file = file; before = mid.outside; unread = not; said = says_from old mid new (read_fault_line file) (IsThere old.outside file) counts said }, none)
unread (Err e) solving old mid new request file not counts same said none = tt

-- ---- lines

-- A line that was printed whole.
pub says_whole : (old new : Meaning) (line : List ℕ) → new.outside ≡ with_said old.outside line → SaysLine old new old.outside line
says_whole old new line said =
    record { beginning = ([], record { bytes = line; said = said; split = sym (append-nil line) }); whole = inl said }

-- A line whose saying a fault ended.
pub prints_prefix : (old new : Meaning) (line : List ℕ) → PrintsPrefix old.outside new.outside line → Rose old.counts.write_faults new.counts.write_faults → SaysLine old new old.outside line
prints_prefix old new line beginning rose = record { beginning = beginning; whole = inr rose }

-- ---- counts

-- a fault that is an error of a result
pub fault_of : (T : Type 0) (e : Failed) → e ≡ Fault → IsErrOf {T = T} {E = Failed} (Err e) Fault
fault_of T e is = ap (λ (x : Failed). let r : Result T Failed = Err x in r) is

-- what saying a line counts
pub mentioned : {A : Type 0} (r : Result A Failed) (old new : Counts) → CountsWriting r old new → CountsMention old new
mentioned r old new c =
    record { rest = c.rest; no_fall = c.own.no_fall; stay = λ t. c.rest ∙ ap (λ n. record old { write_faults = n }) (c.own.steady t) }

-- where no line is printed nothing is counted
pub mentioned_none : (c : Counts) → CountsMention c c
mentioned_none c = record { rest = refl; no_fall = omega arith; stay = λ t. refl }

-- what a report that succeeded counts
pub counts_reported : (status : Status) (old new : Counts) → CountsWriting (done_with status) old new → (status ≡ Done) ⊎ ((status ≡ Compile) ⊎ (status ≡ Execution)) → CountsRun (let r : Result Status AllocError = Ok status in r) (old.reliable ≡ true) old new
counts_reported status old new c is =
    record { said = by status is; stay = stay; unmet = λ t. met status is }
  where
    stay : old.reliable ≡ true → new ≡ old
    stay t = c.rest ∙ ap (λ n. record old { write_faults = n }) (c.own.steady t)

    precise : old.precise ≡ true → new ≡ old
    precise t = c.rest ∙ ap (λ n. record old { write_faults = n }) (c.own.done t)

    by : (s : Status) → (s ≡ Done) ⊎ ((s ≡ Compile) ⊎ (s ≡ Execution)) → CountsSo s old new
    by Done is = precise
    by Compile is = precise
    by Execution is = precise
    by Usage is = tt
    by ReadFault (inl e) = let z : ⊥ = cc in absurd z
    by ReadFault (inr (inl e)) = let z : ⊥ = cc in absurd z
    by ReadFault (inr (inr e)) = let z : ⊥ = cc in absurd z
    by WriteFault (inl e) = let z : ⊥ = cc in absurd z
    by WriteFault (inr (inl e)) = let z : ⊥ = cc in absurd z
    by WriteFault (inr (inr e)) = let z : ⊥ = cc in absurd z

    met : (s : Status) → (s ≡ Done) ⊎ ((s ≡ Compile) ⊎ (s ≡ Execution)) → EndsByNoFault s
    met Done is = tt
    met Compile is = tt
    met Execution is = tt
    met Usage is = tt
    met ReadFault (inl e) = let z : ⊥ = cc in absurd z
    met ReadFault (inr (inl e)) = let z : ⊥ = cc in absurd z
    met ReadFault (inr (inr e)) = let z : ⊥ = cc in absurd z
    met WriteFault (inl e) = let z : ⊥ = cc in absurd z
    met WriteFault (inr (inl e)) = let z : ⊥ = cc in absurd z
    met WriteFault (inr (inr e)) = let z : ⊥ = cc in absurd z

-- a report has the listing of one of three statuses
pub reported_status : (status : Status) (solving : Solving) (old new : Outside) (request : Asked) (loaded_input : LoadedInput) → IsReported status solving old new request loaded_input → (status ≡ Done) ⊎ ((status ≡ Compile) ⊎ (status ≡ Execution))
reported_status Done solving old new request loaded_input r = inl refl
reported_status Compile solving old new request loaded_input r = inr (inl refl)
reported_status Execution solving old new request loaded_input r = inr (inr refl)
reported_status Usage solving old new request loaded_input r = absurd r.listing
reported_status ReadFault solving old new request loaded_input r = absurd r.listing
reported_status WriteFault solving old new request loaded_input r = absurd r.listing

-- what a report counts that a fault ended
pub counts_fault : (old new : Counts) → CountsWriting (let r : Result Status Failed = Err Fault in r) old new → CountsRun (let r : Result Status AllocError = Ok WriteFault in r) (old.reliable ≡ true) old new
counts_fault old new c =
    record {
      said = c.own.fault refl;
      stay = λ t. c.rest ∙ ap (λ n. record old { write_faults = n }) (c.own.steady t);
      unmet = λ t. c.own.unfailing t refl;
    }

-- the counts of a run that ends out of memory
pub counts_memory : (e : AllocError) (r : Result Status Failed) (old new : Counts) → CountsWriting r old new → CountsRun (let x : Result Status AllocError = Err e in x) (old.reliable ≡ true) old new
counts_memory e r old new c = record { said = tt; stay = λ t. c.rest ∙ ap (λ n. record old { write_faults = n }) (c.own.steady t); unmet = λ t. tt }

-- the counts of a run, by the result of its report
pub counts_so : (reported : Result Status Failed) (r : Result Status AllocError) (solving : Solving) (old new : Outside) (request : Asked) (loaded_input : LoadedInput) (first last : Counts) → EndsAs reported r → CountsWriting reported first last →
    ResultsIn reported (λ status. IsReported status solving old new request loaded_input) (IsWriteFault solving old new request loaded_input) → CountsRun r (first.reliable ≡ true) first last
counts_so (Ok status) r solving old new request loaded_input first last is counts done =
    subst (λ (x : Result Status AllocError). CountsRun x (first.reliable ≡ true) first last) (sym is) (counts_reported status first last counts (reported_status status solving old new request loaded_input done))
counts_so (Err Fault) r solving old new request loaded_input first last is counts broken =
    subst (λ (x : Result Status AllocError). CountsRun x (first.reliable ≡ true) first last) (sym is) (counts_fault first last counts)
counts_so (Err Memory) r solving old new request loaded_input first last (e, is) counts broken =
    subst (λ (x : Result Status AllocError). CountsRun x (first.reliable ≡ true) first last) (sym is) (counts_memory e (failed_with Status Memory) first last counts)

-- and what it counts where nothing was done before
pub counts_nothing : (e : AllocError) (sure : Type 0) (c : Counts) → CountsRun (let x : Result Status AllocError = Err e in x) sure c c
counts_nothing e sure c = record { said = tt; stay = λ t. refl; unmet = λ t. tt }

rose_first : (a b c : ℕ) → Rose a b → b ≤ c → Rose a c
rose_first a b c rose h = omega (arith, h, rose)

-- a reliable host stays reliable after a file was read
reliable_still : {A : Type 0} {r : Result A Failed} {there : Type 0} {old mid : Counts} → CountsReading r there old mid → old.reliable ≡ true → mid.reliable ≡ true
reliable_still p t = ap (λ (c : Counts). c.reliable) p.rest ∙ t

-- the counts of a run after a file was read
counts_read_on : {A : Type 0} (x : A) (there sure later : Type 0) (r : Result Status AllocError) (old mid new : Counts) → (sure → (old.reliable ≡ true) × there) → (sure → later) → CountsReading (done_with x) there old mid → CountsRun r later mid new → CountsRun r sure old new
counts_read_on x there sure later r old mid new before following p q =
    record { said = by r q.said; stay = λ t. q.stay (following t) ∙ first (before t); unmet = λ t. q.unmet (following t) }
  where
    first : (old.reliable ≡ true) × there → mid ≡ old
    first t = p.rest ∙ ap (λ n. record old { read_faults = n }) (p.own.steady t)

    precise : old.precise ≡ true → mid ≡ old
    precise t = p.rest ∙ ap (λ n. record old { read_faults = n }) (p.own.done t)

    both : (mid.precise ≡ true → new ≡ mid) → old.precise ≡ true → new ≡ old
    both q t = q (ap (λ (c : Counts). c.precise) p.rest ∙ t) ∙ precise t

    writes : mid.write_faults ≡ old.write_faults
    writes = ap (λ (c : Counts). c.write_faults) p.rest

    of_status : (s : Status) → CountsSo s mid new → CountsSo s old new
    of_status Done q = both q
    of_status Compile q = both q
    of_status Execution q = both q
    of_status Usage q = tt
    of_status ReadFault q = rose_later old.read_faults mid.read_faults new.read_faults p.own.no_fall q
    of_status WriteFault q = subst (λ n. Rose n new.write_faults) writes q

    by : (r : Result Status AllocError) → IfOk r (λ s. CountsSo s mid new) → IfOk r (λ s. CountsSo s old new)
    by (Ok s) q = of_status s q
    by (Err e) q = tt

-- where nothing else is to be read
pub counts_read : {A : Type 0} (x : A) (there : Type 0) (r : Result Status AllocError) (old mid new : Counts) → CountsReading (done_with x) there old mid → CountsRun r (mid.reliable ≡ true) mid new → CountsRun r ((old.reliable ≡ true) × there) old new
counts_read x there r old mid new p q = counts_read_on x there ((old.reliable ≡ true) × there) (mid.reliable ≡ true) r old mid new (λ t. t) (λ t. reliable_still p t.0) p q

-- a file still exists after another was read
still_there : (most : ℕ) (old mid : Outside) (file other whole : List ℕ) → mid ≡ with_read most old file whole → IsThere old other → IsThere mid other
still_there most old mid file other whole at there =
    subst (λ (files : Option Files). IfSome files (λ f. IsSome (files_map.get f other))) (sym (ap (λ (o : Outside). o.files) at)) there

-- the counts where a second file is to be read after the first
pub counts_restart : (r : Result Status AllocError) (old mid new : Meaning) (saved file : List ℕ) (save : Vec ℕ Global) → ReadsFile (most_save_bytes + 1) (done_with save) old.outside mid.outside saved → CountsReading (done_with save) (IsThere old.outside saved) old.counts mid.counts →
    CountsRun r ((mid.counts.reliable ≡ true) × IsThere mid.outside file) mid.counts new.counts → CountsRun r ((old.counts.reliable ≡ true) × (IsThere old.outside saved × IsThere old.outside file)) old.counts new.counts
counts_restart r old mid new saved file save read p q =
    counts_read_on save (IsThere old.outside saved) ((old.counts.reliable ≡ true) × (IsThere old.outside saved × IsThere old.outside file)) ((mid.counts.reliable ≡ true) × IsThere mid.outside file) r old.counts mid.counts new.counts
    (λ t. (t.0, t.1.0)) (λ t. (reliable_still p t.0, still_there (most_save_bytes + 1) old.outside mid.outside saved file read.0 read.1.1.1 t.1.1)) p q

-- what a run counts whose file was not read
pub counts_unread : (there : Type 0) (r : Result Status AllocError) (old mid new : Counts) → CountsReading (let x : Result (Vec ℕ Global) Failed = Err Fault in x) there old mid → CountsMention mid new → IfOk r (λ s. s ≡ ReadFault) → CountsRun r ((old.reliable ≡ true) × there) old new
counts_unread there r old mid new p q is =
    record { said = by r is; stay = λ t. absurd (p.own.unfailing t refl); unmet = λ t. absurd (p.own.unfailing t refl) }
  where
    read : new.read_faults ≡ mid.read_faults
    read = ap (λ (c : Counts). c.read_faults) q.rest

    rose : Rose old.read_faults new.read_faults
    rose = subst (λ n. Rose old.read_faults n) (sym read) (p.own.fault refl)

    by : (r : Result Status AllocError) → IfOk r (λ s. s ≡ ReadFault) → IfOk r (λ s. CountsSo s old new)
    by (Ok s) e = subst (λ s. CountsSo s old new) (sym e) rose
    by (Err e) is = tt

-- and where reading ended out of memory
pub counts_read_memory : (e : AllocError) (there : Type 0) (r : Result (Vec ℕ Global) Failed) (old mid : Counts) → CountsReading r there old mid → CountsRun (let x : Result Status AllocError = Err e in x) ((old.reliable ≡ true) × there) old mid
counts_read_memory e there r old mid p = record { said = tt; stay = λ t. p.rest ∙ ap (λ n. record old { read_faults = n }) (p.own.steady t); unmet = λ t. tt }

-- what a run counts where it is sure for another reason
pub counts_sure : (r : Result Status AllocError) (sure other : Type 0) (old new : Counts) → (other → sure) → CountsRun r sure old new → CountsRun r other old new
counts_sure r sure other old new s c = record { said = c.said; stay = λ t. c.stay (s t); unmet = λ t. c.unmet (s t) }

-- where the arguments are refused one line is printed, and nothing else is done
pub counts_usage : (words : List (List ℕ)) (old : Meaning) (new : Counts) → CountsMention old.counts new → CountsRun (let r : Result Status AllocError = Ok Usage in r) (IsReadyFor old words) old.counts new
counts_usage words old new c = record { said = tt; stay = λ t. c.stay t.reliable; unmet = λ t. tt }

-- a ready host has the files that a request names
pub ready_of : (old : Meaning) (words : List (List ℕ)) (request : Asked) → request_of words ≡ Some request → IsReadyFor old words → (old.counts.reliable ≡ true) × HasOrigin old.outside request.source
ready_of old words request named r = (r.reliable, subst (λ (o : Option Asked). IfSome o (λ q. HasOrigin old.outside q.source)) named r.there)

-- ---- arguments

-- What a run did for a request is what it did for the arguments that make the request.
pub is_run : (r : Result Status AllocError) (solving : Solving) (words : List (List ℕ)) (old new : Meaning) (request : Asked) → request_of words ≡ Some request → IfOk r (λ status. OfRequest status solving old new request) → IfOk r (λ status. IsRun status solving words old new)
is_run (Err e) solving words old new request named did = tt
is_run (Ok Done) solving words old new request named did = (request, (named, did))
is_run (Ok Compile) solving words old new request named did = (request, (named, did))
is_run (Ok Execution) solving words old new request named did = (request, (named, did))
is_run (Ok WriteFault) solving words old new request named did = (request, (named, did))
is_run (Ok ReadFault) solving words old new request named did = (request, (named, did))
is_run (Ok Usage) solving words old new request named did = absurd did.ran
