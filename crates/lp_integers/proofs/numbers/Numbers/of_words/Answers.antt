-- The words store few numbers, or the list stores all.
use Rattle.std.proofs.Common.{◌≡◌, ◌-◌, ◌^◌, ℤ, List, Option, Some, sym, ◌∙◌, subst}
use Rattle.std.specs.Prelude.{IfSome}
use Rattle.std.proofs.lemmas.Result.{IfOk-from_err}
use Rattle.lp_integers.specs.Lines.{AreWithin}
use Rattle.lp_integers.proofs.numbers.Numbers.of_words.Goals as goal

at_some : (o : Option (List ℤ)) (list words : List ℤ) → o ≡ Some list → IfSome o (λ l. l ≡ words) → list ≡ words
at_some o list words some h = subst (λ r. IfSome r (λ l. l ≡ words)) some h

pub of-requires : goal.of-requires
of-requires c = subst (λ l. AreWithin l (2 ^ 63 - 1)) (sym c.as_slice.ensures.value) c.requires

pub returns-in_err-list : goal.returns-in_err-list
returns-in_err-list c = IfOk-from_err c.from_residual.result _ c.from_residual.ensures.0

pub invariant_of-result : goal.invariant_of-result
invariant_of-result c =
    subst (λ l. AreWithin l (2 ^ 63 - 1))
    (sym (at_some c.in_ok-list.field-0 c.in-Some.list c.as_slice.result.now c.in-Some.is c.in_ok-list.ensures ∙ c.as_slice.ensures.value)) c.requires

pub invariant_of-result-in-None : goal.invariant_of-result-in-None
invariant_of-result-in-None c = c.requires
