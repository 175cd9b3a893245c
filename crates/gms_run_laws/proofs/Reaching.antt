-- The states of a run are reached, and in each of them names stand for what they stood for before.
use Rattle.std.proofs.Common.{◌≡◌, ℕ, List, [], ◌∷◌, ◌++◌, map, None, refl, sym, ◌∙◌, subst, append_assoc}
use Rattle.gq_number.specs.Number.{Number}
use Rattle.gms_ast.specs.declared.program.Stmt.{Stmt}
use Rattle.gms_store.specs.State.{State, with_settings}
use Rattle.gms_scope.specs.DynamicSets.{assigned_names}
use Rattle.lp_core.specs.declared.answer.Answer.{Answer}
use Rattle.gms_exec.specs.Given.{after_given}
use Rattle.gms_exec.specs.Options.{after_options}
use Rattle.gms_exec.specs.Run.{World, of_statement, run_from}
use Rattle.gms_exec.specs.Solved.{after_end}
use Rattle.gms_exec.proofs.Staying.{Stays, stays-itself, stays-both, stays-given, stays-end}
use Rattle.gms_run_laws.specs.Reached.{IsStatementOf, IsReached, at_first, after}
use Rattle.gms_run_laws.proofs.Persisting.{EachKeeps, all-keep, AreAllowed, keeps-statement}

module _ {F : Type 0} (v : F → Number) (limit : ℕ) (world : World F) (first : State) where
  -- statements of the program, after others of it
  each-reaches : (before statements : List (Stmt F)) → world.program.statements.items ≡ before ++ statements → EachKeeps (IsReached v limit world first) (map (of_statement v limit world) statements)
  each-reaches before [] is = tt
  each-reaches before (s ∷ statements) is =
      let occurs : IsStatementOf world.program s = record { before = before; outer = s; occurs = (statements, is); depth = 0; inside = refl } in
      ((λ binding c reached. after s binding c occurs refl reached), each-reaches (before ++ s ∷ []) statements (is ∙ sym (append_assoc before (s ∷ []) statements)))

  -- the last state of a run of the last statements of the program is reached
  pub last-reaches : (before statements : List (Stmt F)) → world.program.statements.items ≡ before ++ statements → (answers : List (Answer Number)) → IsReached v limit world first (run_from v limit world first answers statements).state
  last-reaches before statements parts answers =
      all-keep (IsReached v limit world first) (map (of_statement v limit world) statements) (each-reaches before statements parts) [] (record { state = first; events = []; left = answers; taken = 0; halted = None }) at_first

  -- so is that of a run of all
  pub run-reaches : (answers : List (Answer Number)) → IsReached v limit world first (run_from v limit world first answers world.program.statements.items).state
  run-reaches answers = last-reaches [] world.program.statements.items refl answers

  all-allowed : (names : List ℕ) → AreAllowed v limit world (Stays first) (λ n. Unit {0}) (λ s kind name all may stays. stays-both first s (after_given kind name all s) stays (stays-given kind name all s)) (λ s model lp end stays. stays-both first s (after_end s model lp end) stays (stays-end s model lp end)) (λ s settings stays. stays-both first s (with_settings s (after_options v world.solvers s.settings settings)) stays (λ n. stays-itself s n)) names
  all-allowed [] = tt
  all-allowed (n ∷ names) = (tt, all-allowed names)

  -- each name of a reached state follows the name of the first
  pub reached-stays : (state : State) → IsReached v limit world first state → Stays first state
  reached-stays state at_first = stays-itself first
  reached-stays state (after {state = before} s binding c of_program same reached) =
      keeps-statement v limit world (Stays first) (λ n. Unit {0}) (λ s kind name all may stays. stays-both first s (after_given kind name all s) stays (stays-given kind name all s)) (λ s model lp end stays. stays-both first s (after_end s model lp end) stays (stays-end s model lp end)) (λ s settings stays. stays-both first s (with_settings s (after_options v world.solvers s.settings settings)) stays (λ n. stays-itself s n)) s (all-allowed (assigned_names s)) binding c (subst (Stays first) (sym same) (reached-stays before reached))
