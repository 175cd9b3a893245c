-- A program that the host has is run, where no fault is met.
use Rattle.std.proofs.Common.{◌≡◌, ℕ, ◌≤◌, true, List, length, Result, Ok, Err, Option, Some, None, IfSome, is_some, refl, sym, ap, ap₂, ◌∙◌, subst, ◌⊎◌, inl, inr, arith}
use Rattle.std.specs.FinMap as files_map
use Rattle.std.specs.Prelude.{◌↔◌}
use Rattle.gms_host.specs.Meaning.{Meaning, Files, Outside, Rose}
use Rattle.gq_frac.specs.Frac.{frac_value, frac_limit}
use Rattle.gms_run.specs.declared.status.Status.{Status}
use Rattle.gms_run.specs.declared.status.Status.TheVariants.{Done, Usage, Compile, Execution, ReadFault, WriteFault}
use Rattle.gms_host.specs.Rules.{IsThere}
use Rattle.gms_save.specs.declared.fault.SaveFault.{SaveFault}
use Rattle.gms_save.specs.declared.fault.SaveFault.TheVariants.{SaveTooLong, SaveShape, SaveSolver}
use Rattle.gms_save.specs.declared.fault.SaveFaultOrMemory.{SaveFaultOrMemory}
use Rattle.gms_save.specs.declared.fault.SaveFaultOrMemory.TheVariants.{Fault}
use Rattle.gms_save.specs.declared.saved.Saved.{Saved}
use Rattle.gms_save.specs.Saves.{most_save_bytes, AnswersSave, GivesBack, IsRestored, with_solver}
use Rattle.gms_save.proofs.SeenJoints.{same-joint-errors}
use Rattle.gms_save.proofs.SeenPrograms.{same-errors}
use Rattle.gq_frac.specs.declared.frac.Frac.{Frac}
use Rattle.gms_ast.specs.declared.program.Program.{Program}
use Rattle.gms_store.specs.State.{State}
use Rattle.gms_command.specs.CommandLine.{Asked, Origin, in_file, restarted, generated, request_of}
use Rattle.gms_run.specs.Solving.{Solving}
use Rattle.gms_run.specs.ProgramsToRun.{ProgramToRun}
use Rattle.gms_run.specs.Scripts.{Script, joint_script, LoadedInput, scripted, unrestored, RunInput, from_start, from_save, IsLoadedInput, IsUnrestored, errors_of_script}
use Rattle.gms_run.specs.Listings.{IsAcceptedScript, IsExecuted, IsProgramToRun, ShowsWhy}
use Rattle.gms_run.specs.Statuses.{CanRun, CountsSo, EndsByNoFault, IsContentOf, HasFile, HasOrigin, IsFileOf, IsGood, IsGoodSave, IsReadyFor, IsRun, IsRunOf, IsInputOf, MeetsNoFault, NamesProgram, NamesSource}
use Rattle.gms_parse.specs.Outcomes.{program_view}
use Rattle.gms_parse.proofs.OneReading.{one_program, program_or_fault}
use Rattle.gms_run.proofs.GeneratedRuns.{can_run}

-- two values of one option are one
pub one_value : {A : Type 0} {o : Option A} {x y : A} → o ≡ Some x → o ≡ Some y → x ≡ y
one_value p q = cc

-- A reliable host is ready for arguments that name what can be run.
ready_for : (old : Meaning) (words : List (List ℕ)) → NamesSource old.outside words → old.counts.reliable ≡ true → IsReadyFor old words
ready_for old words n reliable =
    record { reliable = reliable; there = subst (λ (o : Option Asked). IfSome o (λ request. HasOrigin old.outside request.source)) (sym n.named) (found n.request.source n.taken n.found) }
  where
    has : (file bytes : List ℕ) → HasFile old.outside file bytes → IsThere old.outside file
    has file bytes f = subst (λ (files : Option Files). IfSome files (λ fs. is_some (files_map.get fs file) ≡ true)) (sym f.1) (ap is_some f.2)

    found : (o : Origin) (taken : RunInput) → IsContentOf old.outside o taken → HasOrigin old.outside o
    found (in_file file) (from_start source) f = has file source f
    found (in_file file) (from_save save source) f = absurd f
    found (restarted saved file) (from_start source) f = absurd f
    found (restarted saved file) (from_save save source) f = (has saved save f.0, has file source f.1)
    found (generated size) taken f = tt

-- the content that an exposed host gives to a file is the one that was read
one_file : (old : Outside) (file told bytes : List ℕ) → HasFile old file told → IsFileOf old file bytes → bytes ≡ told
one_file old file told bytes f is =
    let at : files_map.get f.0 file ≡ Some bytes = subst (λ (files : Option Files). IfSome files (λ fs. files_map.get fs file ≡ Some bytes)) f.1 is in
    one_value at f.2

-- what an exposed host holds is the input that was read
the_taken : (old : Outside) (o : Origin) (told taken : RunInput) → IsContentOf old o told → IsInputOf old o taken → taken ≡ told
the_taken old (in_file file) (from_start told) (from_start source) f is = ap from_start (one_file old file told source f is)
the_taken old (in_file file) (from_save a b) taken f is = absurd f
the_taken old (in_file file) (from_start told) (from_save a b) f is = absurd is
the_taken old (restarted saved file) (from_save a b) (from_save save source) f is = ap₂ from_save (one_file old saved a save f.0 is.0) (one_file old file b source f.1 is.1)
the_taken old (restarted saved file) (from_start told) taken f is = absurd f
the_taken old (restarted saved file) (from_save a b) (from_start source) f is = absurd is
the_taken old (generated size) (from_start told) (from_start source) f is = ap from_start (is ∙ sym f)
the_taken old (generated size) (from_save a b) taken f is = absurd f
the_taken old (generated size) (from_start told) (from_save a b) f is = absurd is

-- the input that was read is the one that the arguments name
pub named_taken : (status : Status) (solving : Solving) (old new : Outside) (words : List (List ℕ)) (request : Asked) (run : IsRunOf status solving old new request) (n : NamesSource old words) → n.request ≡ request → run.taken ≡ n.taken
named_taken status solving old new words request run n same =
    the_taken old n.request.source n.taken run.taken n.found (subst (λ (r : Asked). IsInputOf old r.source run.taken) (sym same) run.is_taken)

-- arguments that name a source are not refused
pub names_some : (words : List (List ℕ)) (old : Outside) → NamesSource old words → request_of words ≡ None → ⊥
names_some words old n none = let e : None ≡ Some n.request = sym none ∙ n.named in cc

-- a status of a fault comes with a fault
pub fault_met : (status : Status) (words : List (List ℕ)) (old new : Meaning) → NamesSource old.outside words → MeetsNoFault old.counts new.counts → (((Rose old.counts.read_faults new.counts.read_faults → ⊥) × (Rose old.counts.write_faults new.counts.write_faults → ⊥)) → ⊥) → (IsReadyFor old words → EndsByNoFault status) → EndsByNoFault status
fault_met status words old new n (inl reliable) met unmet = unmet (ready_for old words n reliable)
fault_met status words old new n (inr none) met unmet = absurd (met none)

pub one_script : {x y : Script} → scripted x ≡ scripted y → x ≡ y
one_script e = cc

-- programs with equal views have the same errors
same_errors_of : (saved : Option State) (line : ℕ) (solvers : List (List ℕ)) (one other : Program Frac) → program_view frac_value one ≡ program_view frac_value other → errors_of_script saved line one solvers ≡ errors_of_script saved line other solvers
same_errors_of None line solvers one other alike = same-errors one other alike solvers
same_errors_of (Some state) line solvers one other alike = same-joint-errors one other alike line solvers

-- A good script is not refused.
good_script : (solvers : List (List ℕ)) (script : Script) (text : List ℕ) → IsGood solvers script → ShowsWhy solvers (scripted script) text → ⊥
good_script solvers script text good (inl refusal) = program_or_fault frac_limit script.source good.view refusal.fault good.has_program refusal.refused
good_script solvers script text good (inr errors) =
    errors.some (good.no_error errors.program (one_program frac_limit script.source (program_view frac_value errors.program) good.view errors.is_program good.has_program))

-- The source of an accepted program is good.
accepted_good : (solvers : List (List ℕ)) (script : Script) (program : Program Frac) → IsAcceptedScript solvers script program → IsGood solvers script
accepted_good solvers script program accepted = record {
  view = program_view frac_value program;
  has_program = accepted.is_program;
  no_error = λ other same. same_errors_of script.saved script.line solvers other program same ∙ accepted.no_error;
}

-- A good save can be restored.
good_save : (solvers : List (List ℕ)) (save : List ℕ) (fault : SaveFault) → IsGoodSave solvers save → IsUnrestored solvers save fault → ⊥
good_save solvers save fault good is = by fault (is.back good.source good.program good.state good.solver good.is_save)
  where
    by : (f : SaveFault) → AnswersSave solvers save good.source good.program good.state good.solver (let r : Result Saved SaveFaultOrMemory = Err (Fault f) in r) → ⊥
    by SaveTooLong long = let few : length save ≤ most_save_bytes = good.short in omega (arith, few, long)
    by SaveShape none = none
    by SaveSolver lacks = good.placed lacks

-- What can be run is not refused.
good_input : (solvers : List (List ℕ)) (taken : RunInput) (loaded_input : LoadedInput) (text : List ℕ) → CanRun solvers taken → IsLoadedInput solvers taken loaded_input → ShowsWhy solvers loaded_input text → ⊥
good_input solvers (from_start source) (scripted script) text can is why = good_script solvers script text (subst (IsGood solvers) (sym is) can) why
good_input solvers (from_start source) (unrestored fault) text can is why = absurd is
good_input solvers (from_save save file) (scripted script) text can is why = good_script solvers script text (subst (IsGood solvers) (sym is.joint) (can.1 is.saved is.restored)) why
good_input solvers (from_save save file) (unrestored fault) text can is why = good_save solvers save fault can.0 is

pub not_refused : (solving : Solving) (old new : Outside) (words : List (List ℕ)) (request : Asked) → IsRunOf Compile solving old new request → (n : NamesSource old words) → n.request ≡ request → CanRun solving.before.names n.taken → ⊥
not_refused solving old new words request run n same can =
    let is : run.taken ≡ n.taken = named_taken Compile solving old new words request run n same in
    good_input solving.before.names run.taken run.loaded_input run.ran.text (subst (CanRun solving.before.names) (sym is) can) run.is_loaded_input run.ran.listing.0

-- A run of arguments that name a program, where no fault is met: it ends with Done or Execution.
pub completes : (status : Status) (solving : Solving) (words : List (List ℕ)) (old new : Meaning) → IsRun status solving words old new → CountsSo status old.counts new.counts → (IsReadyFor old words → EndsByNoFault status) → NamesProgram solving.before.names old.outside words → MeetsNoFault old.counts new.counts → (status ≡ Done) ⊎ (status ≡ Execution)
completes status solving words old new run counts unmet n none = by status run counts unmet
  where
    by : (s : Status) → IsRun s solving words old new → CountsSo s old.counts new.counts → (IsReadyFor old words → EndsByNoFault s) → (s ≡ Done) ⊎ (s ≡ Execution)
    by Done run counts unmet = inl refl
    by Execution run counts unmet = inr refl
    by Usage run counts unmet = absurd (names_some words old.outside n.source run.0)
    by Compile run counts unmet = absurd (not_refused solving old.outside new.outside words run.0 run.1.1 n.source (one_value n.source.named run.1.0) (can_run solving.before.names old.outside words n))
    by ReadFault run counts unmet = absurd (fault_met ReadFault words old new n.source none (λ met. met.0 counts) unmet)
    by WriteFault run counts unmet = absurd (fault_met WriteFault words old new n.source none (λ met. met.1 counts) unmet)

-- ---- exactly what cannot be run is refused

-- any two restored states of the same bytes are the same
pub same_restored : (solvers : List (List ℕ)) (save : List ℕ) (a b : Saved) → GivesBack solvers save (Ok a) → IsRestored solvers save b → (a.source.items ≡ b.source.items) × (a.store ≡ b.store)
same_restored solvers save a b back is =
    let h = back b.source.items b.program b.store is.solver is.is_save in
    (h.source_is, h.state_is ∙ ap (with_solver b.store) (one_value h.placed is.placed))

-- the input of a program that was run can be run
pub can_run_of : (solvers : List (List ℕ)) (taken : RunInput) (loaded_input : LoadedInput) (to_run : ProgramToRun) → IsLoadedInput solvers taken loaded_input → IsProgramToRun solvers loaded_input to_run → CanRun solvers taken
can_run_of solvers (from_start source) (scripted script) to_run is j = subst (IsGood solvers) (sym (one_script j.of_script) ∙ is) (accepted_good solvers j.script to_run.program j.accepted)
can_run_of solvers (from_start source) (unrestored fault) to_run is j = absurd is
can_run_of solvers (from_save save file) (unrestored fault) to_run is j = absurd (let z : ⊥ = (let e = j.of_script in cc) in z)
can_run_of solvers (from_save save file) (scripted script) to_run is j = (
  record { short = is.short; source = is.saved.source.items; program = is.saved.program; state = is.saved.store; solver = is.restored.solver; is_save = is.restored.is_save; placed = λ none. let z : ⊥ = (let e = sym none ∙ is.restored.placed in cc) in z },
  λ saved restored.
      let same = same_restored solvers save is.saved saved is.back restored in
      subst (IsGood solvers) (sym (one_script j.of_script) ∙ is.joint ∙ ap₂ (λ source store. joint_script source store file) same.0 same.1) (accepted_good solvers j.script to_run.program j.accepted),
)

-- what was executed can be run
executed_can : (status : Status) (solving : Solving) (old new : Outside) (words : List (List ℕ)) (request : Asked) (run : IsRunOf status solving old new request) (n : NamesSource old words) → n.request ≡ request → (text : List ℕ) → IsExecuted solving run.loaded_input text → CanRun solving.before.names n.taken
executed_can status solving old new words request run n same text executed =
    subst (CanRun solving.before.names) (named_taken status solving old new words request run n same) (can_run_of solving.before.names run.taken run.loaded_input executed.to_run run.is_loaded_input executed.is_to_run)

-- A run of arguments that name a source, where no fault is met: it ends with Compile exactly where
-- the input cannot be run.
pub refuses : (status : Status) (solving : Solving) (words : List (List ℕ)) (old new : Meaning) → IsRun status solving words old new → CountsSo status old.counts new.counts → (IsReadyFor old words → EndsByNoFault status) → (n : NamesSource old.outside words) → MeetsNoFault old.counts new.counts → (status ≡ Compile) ↔ ¬ (CanRun solving.before.names n.taken)
refuses status solving words old new run counts unmet n none = (λ is. forth (subst (λ s. IsRun s solving words old new) is run), back status run counts unmet)
  where
    forth : IsRun Compile solving words old new → ¬ (CanRun solving.before.names n.taken)
    forth run = not_refused solving old.outside new.outside words run.0 run.1.1 n (one_value n.named run.1.0)

    back : (s : Status) → IsRun s solving words old new → CountsSo s old.counts new.counts → (IsReadyFor old words → EndsByNoFault s) → ¬ (CanRun solving.before.names n.taken) → s ≡ Compile
    back Compile run counts unmet cannot = refl
    back Done run counts unmet cannot = absurd (cannot (executed_can Done solving old.outside new.outside words run.0 run.1.1 n (one_value n.named run.1.0) run.1.1.ran.text run.1.1.ran.listing.0))
    back Execution run counts unmet cannot = absurd (cannot (executed_can Execution solving old.outside new.outside words run.0 run.1.1 n (one_value n.named run.1.0) run.1.1.ran.text run.1.1.ran.listing.0))
    back Usage run counts unmet cannot = absurd (names_some words old.outside n run.0)
    back ReadFault run counts unmet cannot = absurd (fault_met ReadFault words old new n none (λ met. met.0 counts) unmet)
    back WriteFault run counts unmet cannot = absurd (fault_met WriteFault words old new n none (λ met. met.1 counts) unmet)

-- the arguments are refused exactly where the status says so
pub refused_so : (status : Status) (solving : Solving) (words : List (List ℕ)) (old new : Meaning) → IsRun status solving words old new → (status ≡ Usage) ↔ (request_of words ≡ None)
refused_so status solving words old new run = (λ e. (subst (λ s. IsRun s solving words old new) e run).0, back status run)
  where
    asks : (request : Asked) → request_of words ≡ Some request → request_of words ≡ None → ⊥
    asks request named none = cc

    back : (s : Status) → IsRun s solving words old new → request_of words ≡ None → s ≡ Usage
    back Usage run none = refl
    back Done run none = absurd (asks run.0 run.1.0 none)
    back Compile run none = absurd (asks run.0 run.1.0 none)
    back Execution run none = absurd (asks run.0 run.1.0 none)
    back ReadFault run none = absurd (asks run.0 run.1.0 none)
    back WriteFault run none = absurd (asks run.0 run.1.0 none)
