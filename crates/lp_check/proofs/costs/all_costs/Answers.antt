use Rattle.std.proofs.Common.{◌<◌, IfSome, ap, sym, ◌∙◌, subst, arith}
use Rattle.lp_check.specs.Partials.{costs_of}
use Rattle.lp_check.proofs.Reduced.{objective_put}
use Rattle.lp_check.proofs.costs.all_costs.Goals as goal

pub returns-clause-costs : goal.returns-clause-costs
returns-clause-costs g c =
    let there : c.in-Some.column < c.args.count = subst (λ o. IfSome o (λ column. column < c.args.count)) c.in-Some.is c.requires in
    λ j. objective_put g.F.ExactField.value c.in_ok-list.list.items c.in-Some.column c.one.result c.in_ok-list.ensures.zeros (omega (arith, there, c.in_ok-list.ensures.sized)) c.one.ensures j ∙ ap (λ o. costs_of o j) (sym c.in-Some.is)
