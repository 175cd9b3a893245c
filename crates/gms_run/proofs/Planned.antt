-- What each answer of a run says is true, from its start and from a save.
use Rattle.std.proofs.Common.{◌≡◌, ℕ, List, [], length, drop, sym, ap, ◌∙◌, subst}
use Rattle.gq_frac.specs.declared.frac.Frac.{Frac}
use Rattle.gq_frac.specs.Frac.{frac_value, frac_limit}
use Rattle.gms_ast.specs.declared.program.Program.{Program}
use Rattle.gms_parse.specs.Outcomes.{IsProgram}
use Rattle.gms_store.specs.State.{State}
use Rattle.gms_check.specs.CompileErrors.{compile_errors}
use Rattle.gms_check.specs.Loaded.{IsAccepted, loaded}
use Rattle.gms_exec.specs.Answering.{AreAnswered}
use Rattle.gms_exec.specs.Run.{World}
use Rattle.gms_save.specs.JointErrors.{joint_errors, resumed, saved_statements}
use Rattle.gms_save.specs.Saves.{IsSavedBy}
use Rattle.gms_laws.specs.Moments.{AnswersAreSo, run_with_answers}
use Rattle.gms_laws.proofs.Promised.{plans-from_save, plans-from_start}
use Rattle.lp_core.specs.declared.answer.Answer.{Answer}
use Rattle.lp_slot.specs.declared.solver.SolverRule.{SolverRule}
use Rattle.gms_run.specs.Solving.{Solving}
use Rattle.gms_run.specs.Scripts.{Script, from_start, from_save, LoadedInput, scripted, unrestored, IsJoint, script_of, joint_script, joint_source, first_line, errors_of_script}
use Rattle.gms_run.specs.ProgramsToRun.{ProgramToRun, program_to_run, course_of, HasRightAnswers}
use Rattle.gms_run.specs.Listings.{IsExecuted}
use Rattle.gms_run.specs.Laws.{RunsAreAnsweredRightly}

-- what the answers of a program's run say is true
abbrev FromStart : Type 0
FromStart = (world : World Frac) (rules : List SolverRule) (answers : List (Answer Frac)) → IsAccepted frac_value world.program → AreAnswered frac_value frac_limit rules answers (run_with_answers frac_value frac_limit world (loaded frac_value world.program) world.program.statements.items answers).events →
    AnswersAreSo frac_value frac_limit world (loaded frac_value world.program) world.program.statements.items answers

-- and those of a run from a save
abbrev FromSave : Type 0
FromSave = (limit : ℕ) (source file : List ℕ) (saved : Program Frac) (world : World Frac) (state : State) (solver : List ℕ) (rules : List SolverRule) (answers : List (Answer Frac)) → IsProgram frac_limit source frac_value saved → IsProgram frac_limit (joint_source source file) frac_value world.program →
    joint_errors frac_value world.program (first_line source) world.solvers ≡ [] → IsSavedBy saved state solver →
    AreAnswered frac_value limit rules answers (run_with_answers frac_value limit world (resumed frac_value state world.program) (drop (length (saved_statements (first_line source) world.program)) world.program.statements.items) answers).events →
    AnswersAreSo frac_value limit world (resumed frac_value state world.program) (drop (length (saved_statements (first_line source) world.program)) world.program.statements.items) answers

module _ (solving : Solving) (loaded_input : LoadedInput) (text : List ℕ) (run : IsExecuted solving loaded_input text) where
  abbrev program : Program Frac
  program = run.to_run.program

  abbrev world : World Frac
  world = record { program = program; solvers = solving.before.names }

  -- what holds of the program of a script holds of the program that was run
  says-so : (script : Script) → run.is_to_run.script ≡ script → (AreAnswered frac_value frac_limit solving.before.rules solving.answers (course_of (program_to_run script program) solving).events → HasRightAnswers (program_to_run script program) solving) → HasRightAnswers run.to_run solving
  says-so script same so =
      let is : run.to_run ≡ program_to_run script program = run.is_to_run.is_to_run ∙ ap (λ (s : Script). program_to_run s program) same in
      subst (λ (to_run : ProgramToRun). HasRightAnswers to_run solving) (sym is) (so (subst (λ (to_run : ProgramToRun). AreAnswered frac_value frac_limit solving.before.rules solving.answers (course_of to_run solving).events) is run.solved.answered))

  from-start : FromStart → (source : List ℕ) → run.is_to_run.script ≡ script_of source → HasRightAnswers run.to_run solving
  from-start plans source same =
      let none : compile_errors frac_value program solving.before.names ≡ [] = subst (λ (s : Script). errors_of_script s.saved s.line program solving.before.names ≡ []) same run.is_to_run.accepted.no_error in
      says-so (script_of source) same (plans world solving.before.rules solving.answers (solving.before.names, none))

  from-joint : FromSave → (save file : List ℕ) (script : Script) → IsJoint solving.before.names save file script → run.is_to_run.script ≡ script → HasRightAnswers run.to_run solving
  from-joint plans save file script joint same =
      let source = joint.saved.source.items in
      let is : run.is_to_run.script ≡ joint_script source joint.saved.store file = same ∙ joint.joint in
      let none : joint_errors frac_value program (first_line source) solving.before.names ≡ [] = subst (λ (s : Script). errors_of_script s.saved s.line program solving.before.names ≡ []) is run.is_to_run.accepted.no_error in
      let whole : IsProgram frac_limit (joint_source source file) frac_value program = subst (λ (s : Script). IsProgram frac_limit s.source frac_value program) is run.is_to_run.accepted.is_program in
      let saved = joint.restored.is_save in
      says-so (joint_script source joint.saved.store file) is (plans frac_limit source file joint.saved.program world joint.saved.store joint.restored.solver solving.before.rules solving.answers saved.is_program whole none saved.is_saved)

-- the script of what was executed
same-script : (solving : Solving) (script : Script) (text : List ℕ) (run : IsExecuted solving (scripted script) text) → run.is_to_run.script ≡ script
same-script solving script text run =
    let e = run.is_to_run.of_script in
    let is : script ≡ run.is_to_run.script = cc in sym is

-- What each answer of a run says is true.
pub runs-say-so : FromStart → FromSave → RunsAreAnsweredRightly
runs-say-so plans restarted solving (from_start source) (scripted script) text is run =
    from-start solving (scripted script) text run plans source (same-script solving script text run ∙ is)
runs-say-so plans restarted solving (from_start source) (unrestored fault) text is run = absurd is
runs-say-so plans restarted solving (from_save save file) (scripted script) text is run =
    from-joint solving (scripted script) text run restarted save file script is (same-script solving script text run)
runs-say-so plans restarted solving (from_save save file) (unrestored fault) text is run =
    absurd (let e = run.is_to_run.of_script in cc)

pub answered-rightly : RunsAreAnsweredRightly
answered-rightly = runs-say-so (plans-from_start frac_value frac_limit) plans-from_save
