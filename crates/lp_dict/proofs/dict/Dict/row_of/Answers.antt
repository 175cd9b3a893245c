use Rattle.std.proofs.Common.{subst}
use Rattle.lp_core.specs.Dictionary.{Dictionary}
use Rattle.lp_fraction_dict.specs.Tableau.{IsPlace}
use Rattle.lp_dict.specs.declared.body.Body.TheVariants as body
use Rattle.lp_dict.proofs.Kept.{kept_is}
use Rattle.lp_dict.proofs.dict.Dict.row_of.Goals as goal

pub returns-in-Whole : goal.returns-in-Whole
returns-in-Whole g c =
    subst (λ (d : Dictionary). IsPlace d.basic c.args.v c.place_of.result)
    (kept_is g.F.ExactField.value c.args.self.now c.self.inside.body c.self.view_is (body.Whole c.in-Whole.rows c.in-Whole.field-1) c.in-Whole.is) c.place_of.ensures

pub returns-in-Exact : goal.returns-in-Exact
returns-in-Exact g c =
    subst (λ (d : Dictionary). IsPlace d.basic c.args.v c.place_among.result)
    (kept_is g.F.ExactField.value c.args.self.now c.self.inside.body c.self.view_is (body.Exact c.in-Exact.dict) c.in-Exact.is)
    (subst (λ b. IsPlace b c.args.v c.place_among.result) c.basic.ensures c.place_among.ensures)
