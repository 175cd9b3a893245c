use Rattle.std.proofs.Common.{ap, subst, ◌∙◌}
use Rattle.lp_fraction_dict.specs.Tableau.{IsPlace}
use Rattle.lp_fraction_dict.proofs.Kept.{place_tells}
use Rattle.lp_fraction_dict.proofs.dict.ExactDict.is_basic.Goals as goal

pub returns : goal.returns
returns g c =
    place_tells c.args.self.now.basic c.args.v c.place_of.result c.is_some.result (subst (λ b. IsPlace b c.args.v c.place_of.result) (c.as_slice.ensures.value ∙ ap (λ t. t.basic) c.self.view_is) c.place_of.ensures) c.is_some.ensures
