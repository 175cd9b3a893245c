use Rattle.std.proofs.Common.{◌-◌, ◌^◌, subst}
use Rattle.lp_integers.specs.Words.{IsGreatestPlace, IsGreatestAbove}
use Rattle.lp_integers.proofs.Picking.{greatest_spread}
use Rattle.lp_integers.proofs.few.Few.greatest_above.Goals as goal

pub returns : goal.returns
returns c =
    subst (λ list. IsGreatestAbove list c.args.start c.greatest_above.result) c.self.view_is
    (greatest_spread c.self.inside.len c.self.inside.words.items (2 ^ 63 - 1) c.self.invariant c.args.start c.greatest_above.result (subst (λ words. IsGreatestPlace words c.args.start c.greatest_above.result) c.as_slice.ensures.value c.greatest_above.ensures))
