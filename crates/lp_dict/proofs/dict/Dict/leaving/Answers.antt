use Rattle.std.proofs.Common.{subst}
use Rattle.std.specs.Prelude.{IfOk}
use Rattle.lp_core.specs.Steps.{AllFit, ratio_steps}
use Rattle.lp_fraction_dict.specs.Pivots.{IsLeaving}
use Rattle.lp_dict.specs.declared.body.Body.TheVariants as body
use Rattle.lp_dict.specs.Tableau.{dictionary}
use Rattle.lp_dict.proofs.Kept.{kept_is, upcoming_is}
use Rattle.lp_dict.proofs.dict.Dict.leaving.Goals as goal

pub returns-in-Exact-clause-fits : goal.returns-in-Exact-clause-fits
returns-in-Exact-clause-fits g c =
    subst (λ n. IfOk c.leaving-in-Exact.result (λ _. AllFit (ratio_steps g.F.ExactField.limit n (dictionary g.F.ExactField.value c.args.self.now) c.args.enter)))
    (upcoming_is g.F.ExactField.value c.args.self.now c.self.inside.body c.self.view_is (body.Exact c.in-Exact.dict) c.in-Exact.is)
    (subst (λ d. IfOk c.leaving-in-Exact.result (λ _. AllFit (ratio_steps g.F.ExactField.limit c.in-Exact.dict.upcoming d c.args.enter)))
    (kept_is g.F.ExactField.value c.args.self.now c.self.inside.body c.self.view_is (body.Exact c.in-Exact.dict) c.in-Exact.is) c.leaving-in-Exact.ensures.fits)

pub returns-in-Exact-clause-choice : goal.returns-in-Exact-clause-choice
returns-in-Exact-clause-choice g c =
    subst (λ d. IfOk c.leaving-in-Exact.result (IsLeaving d c.args.enter))
    (kept_is g.F.ExactField.value c.args.self.now c.self.inside.body c.self.view_is (body.Exact c.in-Exact.dict) c.in-Exact.is) c.leaving-in-Exact.ensures.choice
