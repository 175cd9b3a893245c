use Rattle.std.proofs.Common.{sym, ap, ◌∙◌}
use Rattle.std.specs.Option.{option_copied}
use Rattle.lp_form.proofs.LoopSteps.{comes_after}
use Rattle.lp_form.proofs.terms.next_turn.Goals as goal

pub returns-in-Greater : goal.returns-in-Greater
returns-in-Greater c =
    comes_after _ _ c.in-Some-Some.key.now c.in-Some-Some.other.now (sym c.first.ensures.value ∙ ap option_copied c.in-Some-Some.is-0) (sym c.first-2.ensures.value ∙ ap option_copied c.in-Some-Some.is-1) (sym c.cmp.ensures ∙ c.in-Greater.is)
