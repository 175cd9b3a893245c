-- A copy stores the numbers in the same way.
use Rattle.std.proofs.Common.{◌-◌, ◌^◌, sym, ap, ◌∙◌, subst}
use Rattle.std.proofs.lemmas.Result.{IfOk-from_err}
use Rattle.lp_integers.specs.Lines.{AreWithin}
use Rattle.lp_integers.specs.Widths.{listed, AreWithinWidth}
use Rattle.lp_integers.proofs.numbers.Numbers.copy.Goals as goal

pub returns-in_err-list-in-Few : goal.returns-in_err-list-in-Few
returns-in_err-list-in-Few c = IfOk-from_err c.from_residual.result _ c.from_residual.ensures.0

pub invariant_of-result : goal.invariant_of-result
invariant_of-result c = subst (λ l. AreWithin l (2 ^ 63 - 1)) (sym c.in_ok-list-in-Few.ensures) (subst AreWithinWidth c.in-Few.is c.self.invariant)

pub returns-in_ok-list-in-Few : goal.returns-in_ok-list-in-Few
returns-in_ok-list-in-Few c = c.in_ok-list-in-Few.ensures ∙ sym (ap listed c.in-Few.is) ∙ c.self.view_is

pub returns-in_err-list-in-Narrow : goal.returns-in_err-list-in-Narrow
returns-in_err-list-in-Narrow c = IfOk-from_err c.from_residual-in_err-list-in-Narrow.result _ c.from_residual-in_err-list-in-Narrow.ensures.0

pub invariant_of-result-in-Narrow : goal.invariant_of-result-in-Narrow
invariant_of-result-in-Narrow c =
    subst (λ l. AreWithin l (2 ^ 63 - 1)) (sym (c.in_ok-list-in-Narrow.ensures ∙ c.as_slice.ensures.value))
    (subst AreWithinWidth c.in-Narrow.is c.self.invariant)

pub returns-in_ok-list-in-Narrow : goal.returns-in_ok-list-in-Narrow
returns-in_ok-list-in-Narrow c = c.in_ok-list-in-Narrow.ensures ∙ c.as_slice.ensures.value ∙ sym (ap listed c.in-Narrow.is) ∙ c.self.view_is

pub returns-in_err-list-in-Wide : goal.returns-in_err-list-in-Wide
returns-in_err-list-in-Wide c = IfOk-from_err c.from_residual-in_err-list-in-Wide.result _ c.from_residual-in_err-list-in-Wide.ensures.0

pub returns-in_ok-list-in-Wide : goal.returns-in_ok-list-in-Wide
returns-in_ok-list-in-Wide c = c.in_ok-list-in-Wide.ensures.items ∙ c.as_slice-in-Wide.ensures.value ∙ sym (ap listed c.in-Wide.is) ∙ c.self.view_is
