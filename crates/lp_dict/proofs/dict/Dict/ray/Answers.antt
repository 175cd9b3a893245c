use Rattle.std.proofs.Common.{Some, sym, subst}
use Rattle.lp_fraction_dict.specs.Reading.{IsDone}
use Rattle.lp_dict.specs.declared.body.Body.TheVariants as body
use Rattle.lp_dict.specs.Tableau.{dictionary}
use Rattle.lp_dict.proofs.Kept.{kept_is}
use Rattle.lp_dict.proofs.dict.Dict.ray.Goals as goal

pub ray-requires-in-Exact : goal.ray-requires-in-Exact
ray-requires-in-Exact g c =
    subst (λ d. IsDone d (Some c.in-Some.variable))
    (sym (kept_is g.F.ExactField.value c.args.self.now c.self.inside.body c.self.view_is (body.Exact c.in-Exact.dict) c.in-Exact.is))
    (subst (IsDone (dictionary g.F.ExactField.value c.args.self.now)) c.in-Some.is c.requires)
