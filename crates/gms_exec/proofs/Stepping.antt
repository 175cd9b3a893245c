-- How far a statement that is a loop has run: what its calls did so far, joined, and what remains
-- to be done.
use Rattle.std.proofs.Common.{◌≡◌, ℕ, List, ◌++◌, length, map, refl, subst}
use Rattle.gq_number.specs.Number.{Number}
use Rattle.gms_ast.specs.declared.program.Stmt.{Stmt}
use Rattle.lp_core.specs.declared.answer.Answer.{Answer}
use Rattle.lp_core.specs.declared.answer.Pivot.{Pivot}
use Rattle.lp_slot.specs.declared.solver.SolverRule.{SolverRule}
use Rattle.gms_exec.specs.ValidEvents.{ShowsValidEvents}
use Rattle.gms_exec.specs.Stepping.{RunView}
use Rattle.gms_exec.proofs.Joining.{answered-nothing, answered-both}
use Rattle.gms_exec.specs.Executing.{CanExecute, Leaves}
use Rattle.gms_exec.proofs.ValidSequences.{valid-nothing, valid-both}

module _ {S F : Type 0} (value : F → Number) (limit : ℕ) (name : S → List ℕ) (rule : S → SolverRule) (paths : S → List (List Pivot)) (statements : List (Stmt F)) where
  abbrev LeftBy : List S → List S → RunView F → RunView F → Type 0
  LeftBy old_solvers new_solvers old new = Leaves value limit name rule paths statements old_solvers new_solvers old new

  -- calls that did nothing leave this
  pub left-start : (solvers : List S) (old : RunView F) → CanExecute (length solvers) statements old.state → LeftBy solvers solvers old old
  left-start solvers old kept =
      record {
        answered = answered-nothing value limit name rule paths solvers old;
        valid = valid-nothing value limit (map rule solvers) old.answers old.events old.events refl;
        can_execute = kept;
      }

  -- one call after others
  pub left-both : (old_solvers mid_solvers new_solvers : List S) (old mid new : RunView F) (fresh : List (Answer F)) → new.answers ≡ mid.answers ++ fresh → length mid_solvers ≡ length old_solvers → LeftBy old_solvers mid_solvers old mid → LeftBy mid_solvers new_solvers mid new → LeftBy old_solvers new_solvers old new
  left-both old_solvers mid_solvers new_solvers old mid new fresh are many first second =
      record {
        answered = answered-both value limit name rule paths old_solvers mid_solvers new_solvers old mid new fresh are first.answered second.answered;
        valid =
            valid-both value limit (map rule old_solvers) mid.answers new.answers fresh old.events mid.events new.events are first.valid
            (subst (λ rules. ShowsValidEvents value limit rules new.answers mid.events new.events) first.answered.rules second.valid);
        can_execute = subst (λ n. CanExecute n statements new.state) many second.can_execute;
      }
