-- The numbers are those of the words, whether they are listed or not.
use Rattle.std.proofs.Common.{◌-◌, ◌^◌, refl, sym, subst}
use Rattle.std.proofs.lemmas.Result.{IfOk-from_err}
use Rattle.lp_integers.specs.Lines.{AreWithin}
use Rattle.lp_integers.proofs.numbers.Numbers.of_few.Goals as goal

pub invariant_of-result : goal.invariant_of-result
invariant_of-result c = c.keeps.ensures

pub returns-then-is_few : goal.returns-then-is_few
returns-then-is_few c = refl

pub returns-in_err-list : goal.returns-in_err-list
returns-in_err-list c = IfOk-from_err c.from_residual.result _ c.from_residual.ensures.0

pub invariant_of-result-2 : goal.invariant_of-result-2
invariant_of-result-2 c = subst (λ l. AreWithin l (2 ^ 63 - 1)) (sym c.in_ok-list.ensures) c.keeps.ensures

pub returns : goal.returns
returns c = c.in_ok-list.ensures
