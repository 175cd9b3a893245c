-- What the answers of a run say is true: from its start, and from a save.
use Rattle.std.proofs.Common.{◌≡◌, ℕ, List, [], length, take, drop, refl}
use Rattle.gq_number.specs.Number.{Number}
use Rattle.gq_frac.specs.declared.frac.Frac.{Frac}
use Rattle.gq_frac.specs.Frac.{frac_value, frac_limit}
use Rattle.gms_ast.specs.declared.program.Program.{Program}
use Rattle.gms_parse.specs.Outcomes.{IsProgram}
use Rattle.gms_store.specs.State.{State}
use Rattle.gms_check.specs.Loaded.{IsAccepted, loaded}
use Rattle.gms_exec.specs.Answering.{AreAnswered}
use Rattle.gms_exec.specs.Run.{World}
use Rattle.gms_run_laws.proofs.Lasting.{loaded-begins}
use Rattle.gms_run_laws.proofs.Starting.{begins-lasting}
use Rattle.gms_save.specs.JointErrors.{joint_errors, resumed, saved_statements}
use Rattle.gms_save.specs.Saves.{IsSavedBy, solvers_chosen}
use Rattle.gms_joint_source.specs.JointSources.{first_line, joint_source}
use Rattle.gms_restart.proofs.Continued.{resumed-begins, whole-accepted}
use Rattle.gms_laws.specs.Moments.{AnswersAreSo, run_with_answers}
use Rattle.gms_laws.proofs.Meant.{answers-are-so, take-drop}
use Rattle.lp_core.specs.declared.answer.Answer.{Answer}
use Rattle.lp_slot.specs.declared.solver.SolverRule.{SolverRule}

-- the run of a program from its start
pub plans-from_start : {F : Type 0} (value : F → Number) (limit : ℕ) → (world : World F) (rules : List SolverRule) (answers : List (Answer F)) → IsAccepted value world.program → AreAnswered value limit rules answers (run_with_answers value limit world (loaded value world.program) world.program.statements.items answers).events →
    AnswersAreSo value limit world (loaded value world.program) world.program.statements.items answers
plans-from_start value limit world rules answers accepted answered =
    answers-are-so value limit world accepted (loaded value world.program) (loaded-begins value world.program) [] world.program.statements.items refl rules answers answered

-- the run of a file from a save
pub plans-from_save : (limit : ℕ) (source file : List ℕ) (saved : Program Frac) (world : World Frac) (state : State) (solver : List ℕ) (rules : List SolverRule) (answers : List (Answer Frac)) → IsProgram frac_limit source frac_value saved → IsProgram frac_limit (joint_source source file) frac_value world.program →
    joint_errors frac_value world.program (first_line source) world.solvers ≡ [] → IsSavedBy saved state solver →
    AreAnswered frac_value limit rules answers (run_with_answers frac_value limit world (resumed frac_value state world.program) (drop (length (saved_statements (first_line source) world.program)) world.program.statements.items) answers).events →
    AnswersAreSo frac_value limit world (resumed frac_value state world.program) (drop (length (saved_statements (first_line source) world.program)) world.program.statements.items) answers
plans-from_save limit source file saved world state solver rules answers p q none is answered =
    let first = resumed frac_value state world.program in
    let n = length (saved_statements (first_line source) world.program) in
    let statements = world.program.statements.items in
    answers-are-so frac_value limit world (whole-accepted frac_limit source file saved world p q (solvers_chosen saved, is.no_error) none) first
    (begins-lasting frac_value world.program first (resumed-begins source file saved world state solver p q none is)) (take n statements) (drop n statements) (take-drop n statements) rules answers answered
