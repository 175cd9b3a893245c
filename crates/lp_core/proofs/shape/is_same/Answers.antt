use Rattle.std.proofs.Common.{refl, sym, ap, ◌∙◌}
use Rattle.std.specs.Cmp.{tied_itself}
use Rattle.lp_form.specs.Keys.{key_cmp}
use Rattle.lp_form.proofs.KeyOrder.{key_cmp-Equal, key_cmp-total}
use Rattle.lp_core.proofs.shape.is_same.Goals as goal

pub returns-in-Equal : goal.returns-in-Equal
returns-in-Equal c = (λ _. key_cmp-Equal c.args.key.now c.args.other.now (sym c.cmp.ensures ∙ c.in-Equal.is), λ _. refl)

pub returns-in_default : goal.returns-in_default
returns-in_default c =
    (λ e. absurd (cc), λ same. absurd (c.in_default.not-Equal (c.cmp.ensures ∙ ap (λ k. key_cmp c.args.key.now k) (sym same) ∙ tied_itself key_cmp-total c.args.key.now)))
