use Rattle.std.proofs.Common.{◌∙◌, length, ap}
use Rattle.lp_core.specs.Dictionary.{Dictionary}
use Rattle.lp_dict.specs.declared.body.Body.TheVariants as body
use Rattle.lp_dict.proofs.Kept.{kept_is}
use Rattle.lp_dict.proofs.dict.Dict.len.Goals as goal

pub returns-in-Whole : goal.returns-in-Whole
returns-in-Whole g c =
    ap length c.basic.ensures
    ∙ ap (λ (d : Dictionary). length d.basic) (kept_is g.F.ExactField.value c.args.self.now c.self.inside.body c.self.view_is (body.Whole c.in-Whole.rows c.in-Whole.field-1) c.in-Whole.is)

pub returns-in-Exact : goal.returns-in-Exact
returns-in-Exact g c =
    ap length c.basic-in-Exact.ensures
    ∙ ap (λ (d : Dictionary). length d.basic) (kept_is g.F.ExactField.value c.args.self.now c.self.inside.body c.self.view_is (body.Exact c.in-Exact.dict) c.in-Exact.is)
