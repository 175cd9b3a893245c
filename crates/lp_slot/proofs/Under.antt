-- Whatever the rule of a solver, its answers are those of legal pivots.
use Rattle.std.proofs.Common.{ℕ, inl, inr, List}
use Rattle.gq_number.specs.Number.{Number}
use Rattle.lp_core.specs.declared.answer.Answer.{Answer}
use Rattle.lp_core.specs.declared.answer.Pivot.{Pivot}
use Rattle.lp_core.specs.declared.answer.Rule.TheVariants as by
use Rattle.lp_core.specs.declared.program.Lp.{Lp}
use Rattle.lp_core.specs.Answers.{IsAnswer}
use Rattle.lp_core.specs.Dictionary.{Dictionary, Improves}
use Rattle.lp_core.specs.LargestCoefficient.{IsNext}
use Rattle.lp_core.proofs.Rules.{bland_is_legal, legal_answer}
use Rattle.lp_slot.specs.Under.{IsNextImproving, IsAnswerUnder}
use Rattle.lp_slot.specs.declared.solver.SolverRule.{SolverRule}
use Rattle.lp_slot.specs.declared.solver.SolverRule.TheVariants.{Bland, LargestCoefficient, Turning, Legal}

greatest_improves : (first : Dictionary) (pivots : List Pivot) (d : Dictionary) (q : ℕ) → IsNext first pivots d q → Improves d q
greatest_improves first pivots d q (inl greatest) = greatest.1.improves
greatest_improves first pivots d q (inr turned) = turned.1.0

next_improves : (first : Dictionary) (pivots : List Pivot) (d : Dictionary) (q : ℕ) → IsNextImproving first pivots d q → Improves d q
next_improves first pivots d q (inl improves) = improves.1
next_improves first pivots d q (inr turned) = turned.1.0

module _ {F : Type 0} (value : F → Number) (limit : ℕ) (lp : Lp F) (iterlim : ℕ) where
  pub legal_under : (rule : SolverRule) (answer : Answer F) → IsAnswerUnder value limit lp iterlim rule answer → IsAnswer value limit lp iterlim by.Legal answer
  legal_under Bland answer is = bland_is_legal value limit lp iterlim answer is
  legal_under LargestCoefficient answer is = legal_answer value limit lp iterlim IsNext answer greatest_improves is
  legal_under Turning answer is = legal_answer value limit lp iterlim IsNextImproving answer next_improves is
  legal_under Legal answer is = is
