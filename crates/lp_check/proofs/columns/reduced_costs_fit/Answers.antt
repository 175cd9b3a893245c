use Rattle.std.proofs.Common.{map, ap, arith}
use Rattle.std.proofs.lemmas.List.{drop_all}
use Rattle.std.proofs.lemmas.Result.{err_from_is_err_and}
use Rattle.lp_check.specs.BoundSteps.{all_reduced_steps, reduced_cost_bound_steps}
use Rattle.lp_check.specs.Partials.{costs_of}
use Rattle.lp_check.proofs.Fits.{bound_for_count, count_on, count_stops, count_ends}
use Rattle.lp_check.proofs.StepSequences.{all_reduced_from}
use Rattle.lp_check.proofs.columns.reduced_costs_fit.Goals as goal

pub reduced_cost-requires-clause-within_bound : goal.reduced_cost-requires-clause-within_bound
reduced_cost-requires-clause-within_bound g c =
    rw c.cost_of-sum.ensures (bound_for_count _ _ _ _ c.loop-j.invariant (reduced_cost_bound_steps g.F.ExactField.value g.F.ExactField.limit c.loop-j.j (costs_of c.args.objective c.loop-j.j) c.args.rows.now (map g.F.ExactField.value c.args.duals.now)) _
    (all_reduced_from g.F.ExactField.value g.F.ExactField.limit c.args.columns.now c.loop-j.j c.index-columns-j.result c.loop-j-test.true c.index-columns-j.is (costs_of c.args.objective) c.args.rows.now (map g.F.ExactField.value c.args.duals.now)))

pub loop-j-init : goal.loop-j-init
loop-j-init g c = record { within_bound = omega arith; so_far = λ result h. h }

pub loop-j-preserved : goal.loop-j-preserved
loop-j-preserved g c =
    count_on _ _ _ _ c.loop-j.invariant (reduced_cost_bound_steps g.F.ExactField.value g.F.ExactField.limit c.loop-j.j (costs_of c.args.objective c.loop-j.j) c.args.rows.now (map g.F.ExactField.value c.args.duals.now)) _
    (all_reduced_from g.F.ExactField.value g.F.ExactField.limit c.args.columns.now c.loop-j.j c.index-columns-j.result c.loop-j-test.true c.index-columns-j.is (costs_of c.args.objective) c.args.rows.now (map g.F.ExactField.value c.args.duals.now))
    c.in_ok-reduced.reduced.taken
    (rw c.cost_of-sum.ensures at c.in_ok-reduced.ensures.0)

pub returns-in_err-reduced : goal.returns-in_err-reduced
returns-in_err-reduced g c =
    let p = err_from_is_err_and c.from_residual.result c.from_residual.ensures.1 in
    rw (p.1, p.2) (count_stops _ _ _ _ c.loop-j.invariant (reduced_cost_bound_steps g.F.ExactField.value g.F.ExactField.limit c.loop-j.j (costs_of c.args.objective c.loop-j.j) c.args.rows.now (map g.F.ExactField.value c.args.duals.now)) _
    (all_reduced_from g.F.ExactField.value g.F.ExactField.limit c.args.columns.now c.loop-j.j c.index-columns-j.result c.loop-j-test.true c.index-columns-j.is (costs_of c.args.objective) c.args.rows.now (map g.F.ExactField.value c.args.duals.now))
    c.in_err-reduced.field-0.0 (rw c.cost_of-sum.ensures at c.in_err-reduced.ensures))

pub returns : goal.returns
returns g c =
    count_ends _ _ _ _ c.loop-j.invariant (ap (λ columns. all_reduced_steps g.F.ExactField.value g.F.ExactField.limit (costs_of c.args.objective) c.args.rows.now (map g.F.ExactField.value c.args.duals.now) c.loop-j.j columns) (drop_all c.loop-j.j c.args.columns.now (omega arith)))
