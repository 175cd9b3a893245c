-- A script with the state that it resumes from, if any: its errors, its first state and its
-- statements.
use Rattle.std.proofs.Common.{◌≡◌, ◌∙◌, ◌≤◌, ◌-◌, ℕ, Bool, true, false, List, [], Some, Result, Ok, Err, Vec, ap, arith, drop, length, subst, sym, take}
use Rattle.std.specs.Prelude.{filter, IfOk, OnOk}
use Rattle.std.proofs.lemmas.List.{length-drop, take_all}
use Rattle.std.specs.declared.alloc.Global.{Global}
use Rattle.gq_frac.specs.declared.frac.Frac.{Frac}
use Rattle.gq_frac.specs.Frac.{frac_value}
use Rattle.gms_ast.specs.declared.program.Program.{Program}
use Rattle.gms_ast.specs.declared.program.Stmt.{Stmt}
use Rattle.gms_store.specs.State.{State}
use Rattle.gms_check.specs.declared.error.CompileError.{CompileError}
use Rattle.gms_check.specs.CompileErrors.{compile_errors}
use Rattle.gms_check.specs.Loaded.{IsAccepted, loaded}
use Rattle.gms_save.specs.JointErrors.{HasNoErrors, is_saved, joint_errors, resumed}
use Rattle.gms_run.specs.Scripts.{errors_of_script, first_state, statements_to_run}
use Rattle.gms_run.specs.InnerReports.{saved_if}

module _ (joint : Bool) (line : ℕ) (program : Program Frac) where
  -- a joint script has the errors of a joint program, by the saved state
  pub errors_joint : {E : Type 0} (r : Result (Vec CompileError Global) E) (solvers : List (List ℕ)) → joint ≡ true → IfOk r (λ errors. errors.items ≡ joint_errors frac_value program line solvers) → IfOk r (λ errors. (state : State) → errors.items ≡ errors_of_script (saved_if joint state) line program solvers)
  errors_joint (Ok errors) solvers is found = λ state. found ∙ ap (λ (b : Bool). errors_of_script (saved_if b state) line program solvers) (sym is)
  errors_joint (Err e) solvers is found = tt

  pub none_joint : (state : State) → joint ≡ true → (solvers : List (List ℕ)) × (errors_of_script (saved_if joint state) line program solvers ≡ []) → HasNoErrors frac_value program line
  none_joint state is none = (none.0, ap (λ (b : Bool). errors_of_script (saved_if b state) line program none.0) (sym is) ∙ none.1)

  pub first_joint : {E : Type 0} (r : Result (Unit {0}) E) (state new : State) → joint ≡ true → OnOk r (new ≡ resumed frac_value state program) → OnOk r (new ≡ first_state (saved_if joint state) program)
  first_joint (Ok u) state new is found = found ∙ ap (λ (b : Bool). first_state (saved_if b state) program) (sym is)
  first_joint (Err e) state new is found = tt

  pub statements_joint : (state : State) → joint ≡ true → statements_to_run (Some state) line program ≡ statements_to_run (saved_if joint state) line program
  statements_joint state is = ap (λ (b : Bool). statements_to_run (saved_if b state) line program) (sym is)

  -- the statements after those that begin above the line
  pub statements_sliced : (all : List (Stmt Frac)) (count : ℕ) (state : State) → joint ≡ true → all ≡ program.statements.items → count ≡ length (filter (is_saved line) all) → take (length all - count) (drop count all) ≡ statements_to_run (saved_if joint state) line program
  statements_sliced all count state is same counted =
      take_all (length all - count) (drop count all) (subst (λ (n : ℕ). n ≤ length all - count) (sym (length-drop count all)) (omega arith))
      ∙ ap (λ (k : ℕ). drop k all) counted
      ∙ ap (λ (xs : List (Stmt Frac)). drop (length (filter (is_saved line) xs)) xs) same
      ∙ statements_joint state is

  -- one that is run from its start has those of the program, and begins in its loaded state
  pub errors_alone : {E : Type 0} (r : Result (Vec CompileError Global) E) (solvers : List (List ℕ)) → joint ≡ false → IfOk r (λ errors. errors.items ≡ compile_errors frac_value program solvers) → IfOk r (λ errors. (state : State) → errors.items ≡ errors_of_script (saved_if joint state) line program solvers)
  errors_alone (Ok errors) solvers is found = λ state. found ∙ ap (λ (b : Bool). errors_of_script (saved_if b state) line program solvers) (sym is)
  errors_alone (Err e) solvers is found = tt

  pub none_alone : (state : State) → joint ≡ false → (solvers : List (List ℕ)) × (errors_of_script (saved_if joint state) line program solvers ≡ []) → IsAccepted frac_value program
  none_alone state is none = (none.0, ap (λ (b : Bool). errors_of_script (saved_if b state) line program none.0) (sym is) ∙ none.1)

  pub first_alone : (state new : State) → joint ≡ false → new ≡ loaded frac_value program → new ≡ first_state (saved_if joint state) program
  first_alone state new is found = found ∙ ap (λ (b : Bool). first_state (saved_if b state) program) (sym is)

  pub statements_alone : (state : State) → joint ≡ false → program.statements.items ≡ statements_to_run (saved_if joint state) line program
  statements_alone state is = ap (λ (b : Bool). statements_to_run (saved_if b state) line program) (sym is)
