-- The words are copied.
use Rattle.std.proofs.Common.{◌-◌, ◌^◌, sym, ap, ◌∙◌, subst}
use Rattle.std.proofs.lemmas.Result.{IfOk-from_err}
use Rattle.lp_integers.specs.Words.{AreWords, spread_out}
use Rattle.lp_integers.proofs.few.Few.copied.Goals as goal

pub returns-in_err-words : goal.returns-in_err-words
returns-in_err-words c = IfOk-from_err c.from_residual.result _ c.from_residual.ensures.0

pub invariant_of-result : goal.invariant_of-result
invariant_of-result c = subst (AreWords (2 ^ 63 - 1) 0 c.self.inside.len) (sym (c.in_ok-words.ensures.items ∙ c.as_slice.ensures.value)) c.self.invariant

pub returns : goal.returns
returns c = ap (spread_out c.self.inside.len) (c.in_ok-words.ensures.items ∙ c.as_slice.ensures.value) ∙ c.self.view_is
