use Rattle.std.proofs.Common.{◌-◌, ◌^◌, subst}
use Rattle.lp_integers.specs.Words.{IsFirstPlace, IsFirstAbove}
use Rattle.lp_integers.proofs.Picking.{first_spread}
use Rattle.lp_integers.proofs.few.Few.first_above.Goals as goal

pub returns : goal.returns
returns c =
    subst (λ list. IsFirstAbove list c.args.start c.first_above.result) c.self.view_is
    (first_spread c.self.inside.len c.self.inside.words.items (2 ^ 63 - 1) c.self.invariant c.args.start c.first_above.result (subst (λ words. IsFirstPlace words c.args.start c.first_above.result) c.as_slice.ensures.value c.first_above.ensures))
