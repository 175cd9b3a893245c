-- That what is found is the only answer by the rule of the largest coefficient.
use Rattle.std.proofs.Common.{ℕ, ◌≡◌}
use Rattle.std.specs.Prelude.{Result, Ok, Err, IfOk}
use Rattle.gq_number.specs.Number.{Number}
use Rattle.lp_core.specs.declared.answer.Answer.{Answer}
use Rattle.lp_core.specs.declared.program.Lp.{Lp}
use Rattle.lp_core.specs.LargestCoefficient.{IsNext, IsLargestAnswer}
use Rattle.lp_core.specs.WellFormed.{IsWellFormed}
use Rattle.lp_simplex.proofs.Unique.{one_answer_by}
use Rattle.lp_simplex.specs.Only.{IsOnly}
use Rattle.lp_dantzig.specs.InnerNext.{next_improves}
use Rattle.lp_dantzig.proofs.Nexts.{next_once}

module _ {F : Type 0} (value : F → Number) (inj : (x y : F) → value x ≡ value y → x ≡ y) (limit : ℕ) (lp : Lp F) (iterlim : ℕ) (formed : IsWellFormed value lp) where
  pub only_if_ok : {E : Type 0} (r : Result (Answer F) E) → IfOk r (IsLargestAnswer value limit lp iterlim) → IfOk r (IsOnly (IsLargestAnswer value limit lp iterlim))
  only_if_ok (Ok answer) answers = λ other is. one_answer_by value inj limit lp iterlim IsNext next_improves next_once other answer formed is answers
  only_if_ok (Err e) answers = answers
