use Rattle.std.proofs.Common.{ap, subst, ◌∙◌}
use Rattle.lp_fraction_dict.specs.Tableau.{IsPlace}
use Rattle.lp_integer_dict.specs.Whole.{WholeTableau}
use Rattle.lp_integer_dict.proofs.whole.Whole.place_of.Goals as goal

pub returns : goal.returns
returns c = subst (λ b. IsPlace b c.args.v c.place_among.result) (c.as_slice.ensures.value ∙ ap (λ (t : WholeTableau). t.basic) c.self.view_is) c.place_among.ensures
