-- A file that is run from a save says what it says in one long run.
use Rattle.std.proofs.Common.{◌≡◌, ℕ, List, [], ◌++◌, length, Some, None, Result, Ok, refl, sym, ap, ap₂, ◌∙◌, subst}
use Rattle.std.proofs.lemmas.List.{length-map, map-append}
use Rattle.gq_number.specs.Number.{Number}
use Rattle.gq_frac.specs.declared.frac.Frac.{Frac}
use Rattle.gq_frac.specs.Frac.{frac_value, frac_limit}
use Rattle.gms_ast.specs.declared.program.Program.{Program}
use Rattle.gms_store.specs.State.{State}
use Rattle.gms_parse.specs.Outcomes.{IsProgram, program_view}
use Rattle.gms_parse.proofs.OneReading.{one_program}
use Rattle.gms_exec.specs.Run.{Course, World}
use Rattle.gms_run_laws.specs.JointRun.{run_after}
use Rattle.gms_save.specs.declared.saved.Saved.{Saved}
use Rattle.gms_save.specs.declared.fault.SaveFaultOrMemory.{SaveFaultOrMemory}
use Rattle.gms_save.specs.JointErrors.{joint_errors, saved_statements}
use Rattle.gms_save.specs.Saves.{GivesBack, IsBack, IsSaveOf, IsSavedBy, place_of_solver, with_solver}
use Rattle.gms_save.proofs.SeenJoints.{same-joint-errors}
use Rattle.gms_save.proofs.SeenPrograms.{same-names, same-saved}
use Rattle.gms_save_text.specs.SavedState.{saved_text}
use Rattle.gms_restart.specs.Restarts.{SaysTheSame, base_run, whole_run}
use Rattle.gms_restart.proofs.Continuing.{says-the-same}
use Rattle.gms_restart.proofs.ProgramsAlike.{restarted-alike, whole-alike}
use Rattle.lp_core.specs.declared.answer.Answer.{Answer}
use Rattle.lp_core.specs.Numbers.{answer_numbers}
use Rattle.gms_run.specs.declared.status.Status.TheVariants.{Done}
use Rattle.gms_run.specs.Solving.{Solving, numbers_of}
use Rattle.gms_run.specs.Scripts.{IsJoint, IsLoadedInput, LoadedInput, Script, first_line, from_save, from_start, joint_script, joint_source, script_of, scripted}
use Rattle.gms_run.specs.ProgramsToRun.{ProgramToRun, course_of, first_of, program_to_run, save_text, solver_name}
use Rattle.gms_run.specs.Listings.{IsAcceptedScript, IsProgramToRun, IsListing, SavesLast}
use Rattle.gms_run.specs.Laws.{IsLongRun, IsRestart, RestartsSayTheSame, base_course}
use Rattle.gms_run.proofs.Completeness.{one_value}

-- ---- programs to run

-- What is run of a script.
record IsProgramOf (solvers : List (List ℕ)) (script : Script) (to_run : ProgramToRun) : Type 0 where
  accepted : IsAcceptedScript solvers script to_run.program
  is : to_run ≡ program_to_run script to_run.program

-- a source that is run from its start
from-its-start : (solvers : List (List ℕ)) (source : List ℕ) (loaded_input : LoadedInput) (to_run : ProgramToRun) → IsLoadedInput solvers (from_start source) loaded_input → IsProgramToRun solvers loaded_input to_run → IsProgramOf solvers (script_of source) to_run
from-its-start solvers source loaded_input to_run is j =
    let same : j.script ≡ script_of source = subst (IsLoadedInput solvers (from_start source)) j.of_script is in
    record {
      accepted = subst (λ (script : Script). IsAcceptedScript solvers script to_run.program) same j.accepted;
      is = j.is_to_run ∙ ap (λ (script : Script). program_to_run script to_run.program) same;
    }

-- What a file is run from: what the save gives back.
record IsResumed (solvers : List (List ℕ)) (save file : List ℕ) (to_run : ProgramToRun) : Type 0 where
  saved : Saved
  back : GivesBack solvers save (let r : Result Saved SaveFaultOrMemory = Ok saved in r)
  of : IsProgramOf solvers (joint_script saved.source.items saved.store file) to_run

from-its-save : (solvers : List (List ℕ)) (save file : List ℕ) (loaded_input : LoadedInput) (to_run : ProgramToRun) → IsLoadedInput solvers (from_save save file) loaded_input → IsProgramToRun solvers loaded_input to_run → IsResumed solvers save file to_run
from-its-save solvers save file loaded_input to_run is j =
    let joint : IsJoint solvers save file j.script = subst (IsLoadedInput solvers (from_save save file)) j.of_script is in
    record {
      saved = joint.saved;
      back = joint.back;
      of = record {
        accepted = subst (λ (script : Script). IsAcceptedScript solvers script to_run.program) joint.joint j.accepted;
        is = j.is_to_run ∙ ap (λ (script : Script). program_to_run script to_run.program) joint.joint;
      };
    }

-- the world of a program
abbrev world_of : Program Frac → Solving → World Frac
world_of program solving = record { program = program; solvers = solving.before.names }

-- the numbers of the answers of two runs
both-answers : (one other long : Solving) → long.answers ≡ one.answers ++ other.answers → numbers_of long.answers ≡ numbers_of one.answers ++ numbers_of other.answers
both-answers one other long e =
    ap numbers_of e ∙ map-append (answer_numbers frac_value) one.answers other.answers

-- ---- the saved run

-- A run of a program that ended, and whose last state was saved.
record IsKept (first : Solving) (source save : List ℕ) (program : Program Frac) : Type 0 where
  accepted : IsAcceptedScript first.before.names (script_of source) program
  halted : (whole_run frac_value frac_limit (world_of program first) (numbers_of first.answers)).halted ≡ None
  left : (whole_run frac_value frac_limit (world_of program first) (numbers_of first.answers)).left ≡ []
  is_save : IsSaveOf save source program (whole_run frac_value frac_limit (world_of program first) (numbers_of first.answers)).state (solver_name first.before.names (whole_run frac_value frac_limit (world_of program first) (numbers_of first.answers)).state)
  placed : place_of_solver first.before.names (solver_name first.before.names (whole_run frac_value frac_limit (world_of program first) (numbers_of first.answers)).state) ≡ Some (whole_run frac_value frac_limit (world_of program first) (numbers_of first.answers)).state.settings.solver

is-kept : (first : Solving) (source save text : List ℕ) (base : LoadedInput) → IsLoadedInput first.before.names (from_start source) base → IsListing Done first base text → (saves : SavesLast first base save) → IsKept first source save saves.to_run.program
is-kept first source save text base starts done saves =
    let p = saves.to_run.program in
    let q = done.0.to_run.program in
    let s = from-its-start first.before.names source base saves.to_run starts saves.is_to_run in
    let r = from-its-start first.before.names source base done.0.to_run starts done.0.is_to_run in
    let views : program_view frac_value q ≡ program_view frac_value p = one_program frac_limit source (program_view frac_value q) (program_view frac_value p) r.accepted.is_program s.accepted.is_program in
    let same : course_of done.0.to_run first ≡ whole_run frac_value frac_limit (world_of p first) (numbers_of first.answers) =
    ap (λ (to_run : ProgramToRun). course_of to_run first) r.is ∙ whole-alike frac_limit (world_of q first) (world_of p first) views refl (numbers_of first.answers) in
    record {
      accepted = s.accepted;
      halted = sym (ap (λ (c : Course). c.halted) same) ∙ done.1;
      left = sym (ap (λ (c : Course). c.left) same) ∙ done.0.solved.all_taken;
      is_save = subst (λ (to_run : ProgramToRun). IsSaveOf save to_run.source p (course_of to_run first).state (solver_name first.before.names (course_of to_run first).state)) s.is saves.is_save;
      placed = subst (λ (to_run : ProgramToRun). place_of_solver first.before.names (solver_name first.before.names (course_of to_run first).state) ≡ Some (course_of to_run first).state.settings.solver) s.is saves.placed;
    }

-- ---- what is restored

-- setting a state's solver to the one that it has changes nothing
own-solver : (state : State) (place : ℕ) → state.settings.solver ≡ place → with_solver state place ≡ state
own-solver state place e = ap (with_solver state) (sym e)

-- restoring a save gives the last state back, and the run resumes from it
resumes-last : (solvers : List (List ℕ)) (save source file : List ℕ) (program : Program Frac) (last : State) (solver : List ℕ) (to_run : ProgramToRun) → IsSaveOf save source program last solver → place_of_solver solvers solver ≡ Some last.settings.solver → IsResumed solvers save file to_run → IsProgramOf solvers (joint_script source last file) to_run
resumes-last solvers save source file program last solver to_run is_save placed resumes =
    let back : IsBack solvers resumes.saved source program last solver = resumes.back source program last solver is_save in
    let same : last.settings.solver ≡ resumes.saved.store.settings.solver = one_value placed back.placed in
    let state : resumes.saved.store ≡ last = back.state_is ∙ own-solver last resumes.saved.store.settings.solver same in
    let script : joint_script resumes.saved.source.items resumes.saved.store file ≡ joint_script source last file = ap₂ (λ (bytes : List ℕ) (s : State). joint_script bytes s file) back.source_is state in
    subst (λ (it : Script). IsProgramOf solvers it to_run) script resumes.of

-- ---- both

-- texts of the same state over the same source
same-text : (a b : List ℕ) (m n : List (List ℕ)) (s u : State) (x y : List (List ℕ)) → a ≡ b → m ≡ n → s ≡ u → x ≡ y → saved_text a m s (solver_name x s) ≡ saved_text b n u (solver_name y u)
same-text a b m n s u x y sources names states solvers =
    ap₂ (λ (source : List ℕ) (ns : List (List ℕ)). saved_text source ns s (solver_name x s)) sources names
    ∙ ap₂ (λ (state : State) (ns : List (List ℕ)). saved_text b n state (solver_name ns state)) states solvers

module _ (first second long : Solving) (source file : List ℕ) (restart : IsRestart first second source file) (to_run : ProgramToRun) (is_long : IsLongRun first second long source file to_run) (reached : (base_course source to_run long).halted ≡ None) where
  abbrev saved : Program Frac
  saved = restart.saves.to_run.program

  abbrev answers : List (Answer Number)
  answers = numbers_of first.answers

  abbrev further : List (Answer Number)
  further = numbers_of second.answers

  -- the last state of the saved run
  abbrev last : State
  last = (whole_run frac_value frac_limit (world_of saved first) answers).state

  abbrev joint_text : List ℕ
  joint_text = joint_source source file

  kept : IsKept first source restart.save saved
  kept = is-kept first source restart.save restart.text restart.base restart.starts restart.done restart.saves

  of-long : IsProgramOf long.before.names (script_of joint_text) to_run
  of-long = from-its-start long.before.names joint_text (scripted (script_of joint_text)) to_run refl is_long.is_to_run

  -- the file's run resumes from the last state
  of-last : (other : ProgramToRun) → IsProgramToRun second.before.names restart.loaded_input other → IsProgramOf first.before.names (joint_script source last file) other
  of-last other is_to_run =
      resumes-last first.before.names restart.save source file saved last (solver_name first.before.names last) other kept.is_save kept.placed
      (subst (λ (solvers : List (List ℕ)). IsResumed solvers restart.save file other) restart.same_solvers (from-its-save second.before.names restart.save file restart.loaded_input other restart.resumes is_to_run))

  views : (other : ProgramToRun) → IsProgramToRun second.before.names restart.loaded_input other → program_view frac_value to_run.program ≡ program_view frac_value other.program
  views other is_to_run =
      one_program frac_limit joint_text (program_view frac_value to_run.program) (program_view frac_value other.program) of-long.accepted.is_program (of-last other is_to_run).accepted.is_program

  clean : joint_errors frac_value to_run.program (first_line source) long.before.names ≡ []
  clean =
      let other = restart.run.to_run in
      same-joint-errors to_run.program other.program (views other restart.run.is_to_run) (first_line source) long.before.names
      ∙ ap (joint_errors frac_value other.program (first_line source)) is_long.same_solvers
      ∙ (of-last other restart.run.is_to_run).accepted.no_error

  taken : numbers_of long.answers ≡ answers ++ further
  taken = both-answers first second long is_long.answers

  based : base_course source to_run long ≡ base_run frac_value frac_limit (first_line source) (world_of to_run.program long) (answers ++ further)
  based =
      ap (λ (j : ProgramToRun). course_of (first_of (length (saved_statements (first_line source) to_run.program)) j) long) of-long.is
      ∙ ap (base_run frac_value frac_limit (first_line source) (world_of to_run.program long)) taken

  says : SaysTheSame frac_value frac_limit (first_line source) (world_of saved first) (world_of to_run.program long) answers further
  says =
      says-the-same frac_limit frac_limit source file (world_of saved first) (world_of to_run.program long) answers further kept.accepted.is_program of-long.accepted.is_program (first.before.names, kept.accepted.no_error) clean is_long.same_solvers kept.halted kept.left (sym (ap (λ (c : Course). c.halted) based) ∙ reached)

  -- the long run is that of the saved source's statements, followed by that of the file
  is-both : (other : ProgramToRun) → IsProgramToRun second.before.names restart.loaded_input other → course_of to_run long ≡ run_after (base_course source to_run long) (course_of other second)
  is-both other is_to_run =
      let one = world_of to_run.program long in
      let two = world_of other.program second in
      let solvers : long.before.names ≡ second.before.names = is_long.same_solvers ∙ sym restart.same_solvers in
      ap (λ (j : ProgramToRun). course_of j long) of-long.is
      ∙ ap (whole_run frac_value frac_limit one) taken
      ∙ says.is
      ∙ ap₂ run_after (sym based) (restarted-alike frac_limit one two (views other is_to_run) solvers (first_line source) last further ∙ sym (ap (λ (j : ProgramToRun). course_of j second) (of-last other is_to_run).is))

  -- what the restarted run keeps is what the long run keeps
  keeps-both : (bytes : List ℕ) → SavesLast second restart.loaded_input bytes → SavesLast long (scripted (script_of joint_text)) bytes
  keeps-both bytes saves =
      let other = saves.to_run in
      let q = to_run.program in
      let old = (course_of other second).state in
      let now = (course_of to_run long).state in
      let alike = views other saves.is_to_run in
      let state : old ≡ now = sym (ap (λ (c : Course). c.state) (is-both other saves.is_to_run)) in
      let solvers : second.before.names ≡ long.before.names = restart.same_solvers ∙ sym is_long.same_solvers in
      let here : to_run.source ≡ joint_text = ap (λ (j : ProgramToRun). j.source) of-long.is in
      let sources : other.source ≡ to_run.source = ap (λ (j : ProgramToRun). j.source) (of-last other saves.is_to_run).is ∙ sym here in
      let text : bytes ≡ save_text to_run long = saves.text ∙ same-text other.source to_run.source other.program.names q.names old now second.before.names long.before.names sources (sym (same-names q other.program alike)) state solvers in
      record {
        to_run = to_run;
        is_to_run = is_long.is_to_run;
        text = text;
        is_save = record {
          is_program = subst (λ (it : List ℕ). IsProgram frac_limit it frac_value q) (sym here) of-long.accepted.is_program;
          is_saved = subst (λ (s : State). IsSavedBy q s (solver_name long.before.names s)) state
              (subst (λ (names : List (List ℕ)). IsSavedBy q old (solver_name names old)) solvers (same-saved other.program q (sym alike) old (solver_name second.before.names old) saves.is_save.is_saved));
          text = text;
        };
        placed = subst (λ (s : State). place_of_solver long.before.names (solver_name long.before.names s) ≡ Some s.settings.solver) state
            (subst (λ (names : List (List ℕ)). place_of_solver names (solver_name names old) ≡ Some old.settings.solver) solvers saves.placed);
      }

pub says_both : RestartsSayTheSame
says_both first second long source file restart to_run is_long reached = record {
  is = is-both first second long source file restart to_run is_long reached restart.run.to_run restart.run.is_to_run;
  taken =
      ap (λ (c : Course). c.taken) (based first second long source file restart to_run is_long reached)
      ∙ (says first second long source file restart to_run is_long reached).taken
      ∙ length-map first.answers (answer_numbers frac_value);
  keeps = keeps-both first second long source file restart to_run is_long reached;
}
