-- The listed numbers are those of the words.
use Rattle.std.proofs.Common.{◌-◌, ◌^◌, sym, ap, ◌∙◌, subst}
use Rattle.std.proofs.lemmas.Result.{IfOk-from_err}
use Rattle.lp_integers.specs.Lines.{AreWithin}
use Rattle.lp_integers.specs.Widths.{listed}
use Rattle.lp_integers.proofs.numbers.Numbers.all_listed.Goals as goal

pub returns-in_err-list-in-Few : goal.returns-in_err-list-in-Few
returns-in_err-list-in-Few c = IfOk-from_err c.from_residual.result _ c.from_residual.ensures.0

pub invariant_of-result : goal.invariant_of-result
invariant_of-result c = subst (λ l. AreWithin l (2 ^ 63 - 1)) (sym c.in_ok-list-in-Few.ensures) c.keeps.ensures

pub returns-in_ok-list-in-Few : goal.returns-in_ok-list-in-Few
returns-in_ok-list-in-Few c = c.in_ok-list-in-Few.ensures ∙ sym (ap listed c.in-Few.is) ∙ c.self.view_is
