use Rattle.std.proofs.Common.{[], sym, subst}
use Rattle.std.specs.Prelude.{IfOk}
use Rattle.lp_simplex.specs.InnerCounting.{Remembers}
use Rattle.lp_simplex.specs.Turn.{IsTurningAnswer}
use Rattle.lp_simplex.proofs.Counted.{begins}
use Rattle.lp_simplex.proofs.Few.{few_if_ok, ends_if_ok}
use Rattle.lp_simplex.proofs.turning_answer.solve_with.Goals as goal

pub solve_by-requires-clause-fresh : goal.solve_by-requires-clause-fresh
solve_by-requires-clause-fresh g c d = subst (λ s. Remembers s d [] d) (sym c.new-choice.ensures.count) (begins d)

pub returns-clause-few : goal.returns-clause-few
returns-clause-few g c =
    few_if_ok (g.P.Picking.picks c.args.rule) g.F.ExactField.value g.F.ExactField.limit c.args.lp.now c.args.iterlim c.requires c.solve_by.result
    (subst (λ rule. IfOk c.solve_by.result (IsTurningAnswer g.F.ExactField.value g.F.ExactField.limit (g.P.Picking.picks rule) c.args.lp.now c.args.iterlim)) c.new-choice.ensures.rule c.solve_by.ensures.chosen)

pub returns-clause-to_the_end : goal.returns-clause-to_the_end
returns-clause-to_the_end g c =
    ends_if_ok (g.P.Picking.picks c.args.rule) g.F.ExactField.value g.F.ExactField.limit c.args.lp.now c.args.iterlim c.requires c.solve_by.result
    (subst (λ rule. IfOk c.solve_by.result (IsTurningAnswer g.F.ExactField.value g.F.ExactField.limit (g.P.Picking.picks rule) c.args.lp.now c.args.iterlim)) c.new-choice.ensures.rule c.solve_by.ensures.chosen)
