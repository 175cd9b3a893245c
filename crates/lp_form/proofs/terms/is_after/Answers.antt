use Rattle.std.proofs.Common.{sym, ap, ◌∙◌}
use Rattle.std.specs.Option.{option_copied}
use Rattle.lp_form.proofs.LoopSteps.{following-before, Less-from_test}
use Rattle.lp_form.proofs.terms.is_after.Goals as goal

pub returns-in-Some-Some : goal.returns-in-Some-Some
returns-in-Some-Some c =
    λ holds. following-before c.args.keys.now c.args.others.now c.in-Some-Some.key.now c.in-Some-Some.other.now (sym c.first.ensures.value ∙ ap option_copied c.in-Some-Some.is-0) (sym c.last.ensures.value ∙ ap option_copied c.in-Some-Some.is-1) c.requires (sym c.cmp.ensures ∙ Less-from_test c.cmp.result (sym c.is_lt.ensures ∙ holds))
