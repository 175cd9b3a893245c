use Rattle.std.proofs.Common.{◌+◌, ◌^◌, ◌<◌, ◌≤◌, length, subst}
use Rattle.lp_core.specs.Dictionary.{Dictionary}
use Rattle.lp_fraction_dict.specs.Pivots.{IsProper}
use Rattle.lp_dict.specs.declared.body.Body.TheVariants as body
use Rattle.lp_dict.specs.Tableau.{Tableau, dictionary}
use Rattle.lp_dict.proofs.Kept.{kept_is}
use Rattle.lp_dict.proofs.dict.Dict.keeps.Goals as goal

pub returns-in-Whole-clause-proper : goal.returns-in-Whole-clause-proper
returns-in-Whole-clause-proper g c = subst (λ (t : Tableau _). IsProper (dictionary g.F.ExactField.value t)) c.self.view_is c.self.invariant.proper

pub returns-in-Whole-clause-few : goal.returns-in-Whole-clause-few
returns-in-Whole-clause-few g c = subst (λ (t : Tableau _). length t.basic ≤ t.variables) c.self.view_is c.self.invariant.few

pub returns-in-Whole-clause-sized : goal.returns-in-Whole-clause-sized
returns-in-Whole-clause-sized g c =
    subst (λ (d : Dictionary). d.variables + 2 < 2 ^ 32)
    (kept_is g.F.ExactField.value c.args.self.now c.self.inside.body c.self.view_is (body.Whole c.in-Whole.rows c.in-Whole.field-1) c.in-Whole.is) c.keeps.ensures.sized

pub returns-in-Exact-clause-proper : goal.returns-in-Exact-clause-proper
returns-in-Exact-clause-proper g c = subst (λ (t : Tableau _). IsProper (dictionary g.F.ExactField.value t)) c.self.view_is c.self.invariant.proper

pub returns-in-Exact-clause-few : goal.returns-in-Exact-clause-few
returns-in-Exact-clause-few g c = subst (λ (t : Tableau _). length t.basic ≤ t.variables) c.self.view_is c.self.invariant.few

pub returns-in-Exact-clause-sized : goal.returns-in-Exact-clause-sized
returns-in-Exact-clause-sized g c =
    subst (λ (d : Dictionary). d.variables + 2 < 2 ^ 32)
    (kept_is g.F.ExactField.value c.args.self.now c.self.inside.body c.self.view_is (body.Exact c.in-Exact.dict) c.in-Exact.is) c.keeps-in-Exact.ensures.sized
