-- A run that met no fault of the host ends with Execution exactly where the run that the source
-- means is stopped by an error.
use Rattle.std.proofs.Common.{◌≡◌, ℕ, List, Option, Some, None, refl, sym, ap, ap₂, ◌∙◌, subst}
use Rattle.std.specs.Prelude.{◌↔◌}
use Rattle.gq_frac.specs.declared.frac.Frac.{Frac}
use Rattle.gq_frac.specs.Frac.{frac_value, frac_limit}
use Rattle.gms_ast.specs.declared.program.Program.{Program}
use Rattle.gms_host.specs.Meaning.{Meaning, Outside}
use Rattle.gms_store.specs.State.{State}
use Rattle.gms_exec.specs.Run.{Course, World, stopped}
use Rattle.gms_parse.specs.Outcomes.{program_view}
use Rattle.gms_parse.proofs.OneReading.{one_program}
use Rattle.gms_save.specs.declared.fault.SaveFault.{SaveFault}
use Rattle.gms_command.specs.CommandLine.{Asked}
use Rattle.gms_run.specs.declared.status.Status.{Status}
use Rattle.gms_run.specs.declared.status.Status.TheVariants.{Done, Usage, Compile, Execution, ReadFault, WriteFault}
use Rattle.gms_run.specs.Solving.{Solving, numbers_of}
use Rattle.gms_run.specs.Scripts.{Script, joint_script, LoadedInput, scripted, unrestored, RunInput, from_start, from_save, IsLoadedInput}
use Rattle.gms_run.specs.ProgramsToRun.{ProgramToRun, program_to_run, course_of, HaltsSo}
use Rattle.gms_run.specs.Listings.{IsAcceptedScript, IsExecuted, IsProgramToRun}
use Rattle.gms_run.specs.Statuses.{CountsSo, EndsByNoFault, IsReadyFor, IsRun, IsRunOf, IsStopped, MeetsNoFault, NamesSource}
use Rattle.gms_restart.proofs.ProgramsAlike.{restarted-alike, whole-alike}
use Rattle.gms_run.proofs.Completeness.{can_run_of, fault_met, named_taken, names_some, not_refused, one_script, one_value, same_restored}

-- ---- programs with equal views

-- A script runs alike in two programs with equal views, from its start or from a save.
module _ (one other : Program Frac) (alike : program_view frac_value one ≡ program_view frac_value other) (solving : Solving) where
  abbrev world_of : Program Frac → World Frac
  world_of program = record { program = program; solvers = solving.before.names }

  same-course : (script : Script) → course_of (program_to_run script one) solving ≡ course_of (program_to_run script other) solving
  same-course script = by script.source script.file script.line script.saved
    where
      by : (source file : List ℕ) (line : ℕ) (saved : Option State) →
          course_of (program_to_run (record { source = source; file = file; line = line; saved = saved }) one) solving ≡ course_of (program_to_run (record { source = source; file = file; line = line; saved = saved }) other) solving
      by source file line None = whole-alike frac_limit (world_of one) (world_of other) alike refl (numbers_of solving.answers)
      by source file line (Some state) = restarted-alike frac_limit (world_of one) (world_of other) alike refl line state (numbers_of solving.answers)

-- ---- the run of an input

module _ (solving : Solving) where
  -- a script determines its run
  script-course : (script : Script) (a b : ProgramToRun) → IsProgramToRun solving.before.names (scripted script) a → IsProgramToRun solving.before.names (scripted script) b → course_of a solving ≡ course_of b solving
  script-course script a b ja jb =
      let is-a : script ≡ ja.script = one_script ja.of_script in
      let is-b : script ≡ jb.script = one_script jb.of_script in
      let program-a = subst (λ (s : Script). IsAcceptedScript solving.before.names s a.program) (sym is-a) ja.accepted in
      let program-b = subst (λ (s : Script). IsAcceptedScript solving.before.names s b.program) (sym is-b) jb.accepted in
      let alike = one_program frac_limit script.source (program_view frac_value a.program) (program_view frac_value b.program) program-a.is_program program-b.is_program in
      ap (λ (j : ProgramToRun). course_of j solving) (ja.is_to_run ∙ ap (λ (s : Script). program_to_run s a.program) (sym is-a))
      ∙ same-course a.program b.program alike solving script
      ∙ sym (ap (λ (j : ProgramToRun). course_of j solving) (jb.is_to_run ∙ ap (λ (s : Script). program_to_run s b.program) (sym is-b)))

  -- a save that cannot be restored has no program to run
  no-to_run : (fault : SaveFault) (to_run : ProgramToRun) → IsProgramToRun solving.before.names (unrestored fault) to_run → ⊥
  no-to_run fault to_run j = let e = j.of_script in cc

  -- an input determines its run
  same-to_run : (taken : RunInput) (m n : LoadedInput) (a b : ProgramToRun) → IsLoadedInput solving.before.names taken m → IsLoadedInput solving.before.names taken n → IsProgramToRun solving.before.names m a → IsProgramToRun solving.before.names n b → course_of a solving ≡ course_of b solving
  same-to_run (from_start source) (scripted s) (scripted t) a b is at ja jb =
      script-course s a b ja (subst (λ (r : Script). IsProgramToRun solving.before.names (scripted r) b) (at ∙ sym is) jb)
  same-to_run (from_save save file) (scripted s) (scripted t) a b is at ja jb =
      let same = same_restored solving.before.names save is.saved at.saved is.back at.restored in
      let scripts : s ≡ t = is.joint ∙ ap₂ (λ source store. joint_script source store file) same.0 same.1 ∙ sym at.joint in
      script-course s a b ja (subst (λ (r : Script). IsProgramToRun solving.before.names (scripted r) b) (sym scripts) jb)
  same-to_run taken (unrestored fault) n a b is at ja jb = absurd (no-to_run fault a ja)
  same-to_run taken (scripted s) (unrestored fault) a b is at ja jb = absurd (no-to_run fault b jb)

-- ---- the status

module _ (solving : Solving) (old new : Outside) (words : List (List ℕ)) (n : NamesSource old words) where
  -- a run that executed the named input and halted with an execution error
  stops : (status : Status) (request : Asked) (run : IsRunOf status solving old new request) → n.request ≡ request → (text : List ℕ) (done : IsExecuted solving run.loaded_input text) → HaltsSo Execution (course_of done.to_run solving).halted → IsStopped solving n.taken
  stops status request run same text done halts = record {
    loaded_input = run.loaded_input;
    is_loaded_input = subst (λ (taken : RunInput). IsLoadedInput solving.before.names taken run.loaded_input) (named_taken status solving old new words request run n same) run.is_loaded_input;
    to_run = done.to_run;
    is_to_run = done.is_to_run;
    halts = halts;
  }

  -- a run that is stopped by an error does not end with Done
  not-done : (request : Asked) (run : IsRunOf Done solving old new request) → n.request ≡ request → IsStopped solving n.taken → ⊥
  not-done request run same is =
      let done = run.ran.listing.0 in
      let at = subst (λ (taken : RunInput). IsLoadedInput solving.before.names taken run.loaded_input) (named_taken Done solving old new words request run n same) run.is_loaded_input in
      let course = same-to_run solving n.taken run.loaded_input is.loaded_input done.to_run is.to_run at is.is_loaded_input done.is_to_run is.is_to_run in
      let none : (course_of is.to_run solving).halted ≡ None = ap (λ (c : Course). c.halted) (sym course) ∙ run.ran.listing.1 in
      let some : (course_of is.to_run solving).halted ≡ Some (stopped is.halts.0) = is.halts.1 in
      let both : None ≡ Some (stopped is.halts.0) = sym none ∙ some in cc

-- A run of arguments that name a source, where no fault is met: it ends with Execution exactly
-- where the run that the source means is stopped.
pub stopped_so : (status : Status) (solving : Solving) (words : List (List ℕ)) (old new : Meaning) → IsRun status solving words old new → CountsSo status old.counts new.counts → (IsReadyFor old words → EndsByNoFault status) → (n : NamesSource old.outside words) → MeetsNoFault old.counts new.counts → (status ≡ Execution) ↔ IsStopped solving n.taken
stopped_so status solving words old new run counts unmet n none = (λ is. forth (subst (λ s. IsRun s solving words old new) is run), back status run counts unmet)
  where
    forth : IsRun Execution solving words old new → IsStopped solving n.taken
    forth run = stops solving old.outside new.outside words n Execution run.0 run.1.1 (one_value n.named run.1.0) run.1.1.ran.text run.1.1.ran.listing.0 run.1.1.ran.listing.1

    back : (s : Status) → IsRun s solving words old new → CountsSo s old.counts new.counts → (IsReadyFor old words → EndsByNoFault s) → IsStopped solving n.taken → s ≡ Execution
    back Execution run counts unmet is = refl
    back Done run counts unmet is = absurd (not-done solving old.outside new.outside words n run.0 run.1.1 (one_value n.named run.1.0) is)
    back Compile run counts unmet is = absurd (not_refused solving old.outside new.outside words run.0 run.1.1 n (one_value n.named run.1.0) (can_run_of solving.before.names n.taken is.loaded_input is.to_run is.is_loaded_input is.is_to_run))
    back Usage run counts unmet is = absurd (names_some words old.outside n run.0)
    back ReadFault run counts unmet is = absurd (fault_met ReadFault words old new n none (λ met. met.0 counts) unmet)
    back WriteFault run counts unmet is = absurd (fault_met WriteFault words old new n none (λ met. met.1 counts) unmet)
