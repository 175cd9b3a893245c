use Rattle.std.proofs.Common.{◌≡◌, ◌∙◌, ◌+◌, None, length, map, drop, sym, ap, subst, arith, refl}
use Rattle.std.proofs.lemmas.List.{drop_all, length-append}
use Rattle.std.proofs.lemmas.Result.{err_from_is_err_and}
use Rattle.lp_core.specs.Feasible.{bound_value}
use Rattle.lp_check.specs.BoundSteps.{all_reduced_steps, reduced_cost_bound_steps, plus_steps, columns_steps, columns_sum}
use Rattle.lp_check.specs.Partials.{costs_of, reduced_costs, reduced_sum, first_unfit}
use Rattle.lp_check.proofs.Fits.{bound_for, continues, stops, ends, first_fits, second_fits, fit_no_stop}
use Rattle.lp_check.proofs.StepSequences.{all_reduced_from, columns_from, columns_sum_from}
use Rattle.lp_check.proofs.columns.columns_part.Goals as goal

pub reduced_cost-requires-clause-within_bound : goal.reduced_cost-requires-clause-within_bound
reduced_cost-requires-clause-within_bound g c =
    rw c.cost_of-sum.ensures (omega (arith, c.loop-j.invariant.bounded, ap length (all_reduced_from g.F.ExactField.value g.F.ExactField.limit c.args.columns.now c.loop-j.j c.index-columns-j.result c.loop-j-test.true c.index-columns-j.is (costs_of c.args.objective) c.args.rows.now (map g.F.ExactField.value c.args.duals.now)), length-append (reduced_cost_bound_steps g.F.ExactField.value g.F.ExactField.limit c.loop-j.j (costs_of c.args.objective c.loop-j.j) c.args.rows.now (map g.F.ExactField.value c.args.duals.now)) (all_reduced_steps g.F.ExactField.value g.F.ExactField.limit (costs_of c.args.objective) c.args.rows.now (map g.F.ExactField.value c.args.duals.now) (c.loop-j.j + 1) (drop (c.loop-j.j + 1) c.args.columns.now))))

pub returns-in_err-reduced : goal.returns-in_err-reduced
returns-in_err-reduced g c =
    let fit : first_unfit (reduced_cost_bound_steps g.F.ExactField.value g.F.ExactField.limit c.loop-j.j (costs_of c.args.objective c.loop-j.j) c.args.rows.now (map g.F.ExactField.value c.args.duals.now)) ≡ None = first_fits (reduced_cost_bound_steps g.F.ExactField.value g.F.ExactField.limit c.loop-j.j (costs_of c.args.objective c.loop-j.j) c.args.rows.now (map g.F.ExactField.value c.args.duals.now)) (all_reduced_steps g.F.ExactField.value g.F.ExactField.limit (costs_of c.args.objective) c.args.rows.now (map g.F.ExactField.value c.args.duals.now) (c.loop-j.j + 1) (drop (c.loop-j.j + 1) c.args.columns.now)) (subst (λ fits. first_unfit fits ≡ None) (all_reduced_from g.F.ExactField.value g.F.ExactField.limit c.args.columns.now c.loop-j.j c.index-columns-j.result c.loop-j-test.true c.index-columns-j.is (costs_of c.args.objective) c.args.rows.now (map g.F.ExactField.value c.args.duals.now)) c.loop-j.invariant.fit) in
    absurd (fit_no_stop 0 (reduced_cost_bound_steps g.F.ExactField.value g.F.ExactField.limit c.loop-j.j (costs_of c.args.objective c.loop-j.j) c.args.rows.now (map g.F.ExactField.value c.args.duals.now)) c.in_err-reduced.field-0.0 fit (rw c.cost_of-sum.ensures at c.in_err-reduced.ensures))

pub plus-requires : goal.plus-requires
plus-requires g c =
    let reduced : g.F.ExactField.value c.in_ok-reduced.reduced.sum ≡ reduced_costs g.F.ExactField.value (costs_of c.args.objective) c.args.rows.now (map g.F.ExactField.value c.args.duals.now) c.loop-j.j = c.in_ok-reduced.ensures.1 ∙ ap (λ n. reduced_sum g.F.ExactField.value c.loop-j.j n c.args.rows.now (map g.F.ExactField.value c.args.duals.now)) c.cost_of-sum.ensures in
    bound_for g.F.ExactField.value _ _ _ _ _ _ c.loop-j.invariant.going (plus_steps g.F.ExactField.limit (g.F.ExactField.value c.loop-j.partial.sum) (g.F.ExactField.value c.in_ok-reduced.reduced.sum) (bound_value g.F.ExactField.value c.column_bound-bound.result)) _
    (columns_from g.F.ExactField.value g.F.ExactField.limit c.args.columns.now c.loop-j.j c.index-columns-j.result c.loop-j-test.true c.index-columns-j.is c.args.above (reduced_costs g.F.ExactField.value (costs_of c.args.objective) c.args.rows.now (map g.F.ExactField.value c.args.duals.now)) (g.F.ExactField.value c.loop-j.partial.sum) _ (g.F.ExactField.value c.in_ok-reduced.reduced.sum) (bound_value g.F.ExactField.value c.column_bound-bound.result) reduced c.column_bound-bound.ensures refl)

pub returns-in_err-partial : goal.returns-in_err-partial
returns-in_err-partial g c =
    let p = err_from_is_err_and c.from_residual-in_err-partial.result c.from_residual-in_err-partial.ensures.1 in
    let reduced : g.F.ExactField.value c.in_ok-reduced.reduced.sum ≡ reduced_costs g.F.ExactField.value (costs_of c.args.objective) c.args.rows.now (map g.F.ExactField.value c.args.duals.now) c.loop-j.j = c.in_ok-reduced.ensures.1 ∙ ap (λ n. reduced_sum g.F.ExactField.value c.loop-j.j n c.args.rows.now (map g.F.ExactField.value c.args.duals.now)) c.cost_of-sum.ensures in
    rw (p.1, p.2) (stops g.F.ExactField.value _ _ _ _ _ _ c.loop-j.invariant.going (plus_steps g.F.ExactField.limit (g.F.ExactField.value c.loop-j.partial.sum) (g.F.ExactField.value c.in_ok-reduced.reduced.sum) (bound_value g.F.ExactField.value c.column_bound-bound.result)) _
    (columns_from g.F.ExactField.value g.F.ExactField.limit c.args.columns.now c.loop-j.j c.index-columns-j.result c.loop-j-test.true c.index-columns-j.is c.args.above (reduced_costs g.F.ExactField.value (costs_of c.args.objective) c.args.rows.now (map g.F.ExactField.value c.args.duals.now)) (g.F.ExactField.value c.loop-j.partial.sum) _ (g.F.ExactField.value c.in_ok-reduced.reduced.sum) (bound_value g.F.ExactField.value c.column_bound-bound.result) reduced c.column_bound-bound.ensures refl)
    c.in_err-partial.field-0.0 c.in_err-partial.ensures)

pub loop-j-init : goal.loop-j-init
loop-j-init g c = record { going = record { within_bound = c.requires.within_bound; so_far = λ result h. h }; fit = c.requires.fit; bounded = c.requires.bounded }

pub loop-j-preserved : goal.loop-j-preserved
loop-j-preserved g c =
    let reduced : g.F.ExactField.value c.in_ok-reduced.reduced.sum ≡ reduced_costs g.F.ExactField.value (costs_of c.args.objective) c.args.rows.now (map g.F.ExactField.value c.args.duals.now) c.loop-j.j = c.in_ok-reduced.ensures.1 ∙ ap (λ n. reduced_sum g.F.ExactField.value c.loop-j.j n c.args.rows.now (map g.F.ExactField.value c.args.duals.now)) c.cost_of-sum.ensures in
    record {
      going = continues g.F.ExactField.value _ _ _ _ _ _ c.loop-j.invariant.going (plus_steps g.F.ExactField.limit (g.F.ExactField.value c.loop-j.partial.sum) (g.F.ExactField.value c.in_ok-reduced.reduced.sum) (bound_value g.F.ExactField.value c.column_bound-bound.result)) _
          (columns_from g.F.ExactField.value g.F.ExactField.limit c.args.columns.now c.loop-j.j c.index-columns-j.result c.loop-j-test.true c.index-columns-j.is c.args.above (reduced_costs g.F.ExactField.value (costs_of c.args.objective) c.args.rows.now (map g.F.ExactField.value c.args.duals.now)) (g.F.ExactField.value c.loop-j.partial.sum) (g.F.ExactField.value c.in_ok-partial.partial.sum) (g.F.ExactField.value c.in_ok-reduced.reduced.sum) (bound_value g.F.ExactField.value c.column_bound-bound.result) reduced c.column_bound-bound.ensures c.in_ok-partial.ensures.1)
          c.in_ok-partial.partial.taken _
          (columns_sum_from g.F.ExactField.value g.F.ExactField.limit c.args.columns.now c.loop-j.j c.index-columns-j.result c.loop-j-test.true c.index-columns-j.is c.args.above (reduced_costs g.F.ExactField.value (costs_of c.args.objective) c.args.rows.now (map g.F.ExactField.value c.args.duals.now)) (g.F.ExactField.value c.loop-j.partial.sum) (g.F.ExactField.value c.in_ok-partial.partial.sum) (g.F.ExactField.value c.in_ok-reduced.reduced.sum) (bound_value g.F.ExactField.value c.column_bound-bound.result) reduced c.column_bound-bound.ensures c.in_ok-partial.ensures.1)
          c.in_ok-partial.ensures.0;
      fit = second_fits (reduced_cost_bound_steps g.F.ExactField.value g.F.ExactField.limit c.loop-j.j (costs_of c.args.objective c.loop-j.j) c.args.rows.now (map g.F.ExactField.value c.args.duals.now)) (all_reduced_steps g.F.ExactField.value g.F.ExactField.limit (costs_of c.args.objective) c.args.rows.now (map g.F.ExactField.value c.args.duals.now) (c.loop-j.j + 1) (drop (c.loop-j.j + 1) c.args.columns.now)) (subst (λ fits. first_unfit fits ≡ None) (all_reduced_from g.F.ExactField.value g.F.ExactField.limit c.args.columns.now c.loop-j.j c.index-columns-j.result c.loop-j-test.true c.index-columns-j.is (costs_of c.args.objective) c.args.rows.now (map g.F.ExactField.value c.args.duals.now)) c.loop-j.invariant.fit);
      bounded = omega (arith, c.loop-j.invariant.bounded, ap length (all_reduced_from g.F.ExactField.value g.F.ExactField.limit c.args.columns.now c.loop-j.j c.index-columns-j.result c.loop-j-test.true c.index-columns-j.is (costs_of c.args.objective) c.args.rows.now (map g.F.ExactField.value c.args.duals.now)), length-append (reduced_cost_bound_steps g.F.ExactField.value g.F.ExactField.limit c.loop-j.j (costs_of c.args.objective c.loop-j.j) c.args.rows.now (map g.F.ExactField.value c.args.duals.now)) (all_reduced_steps g.F.ExactField.value g.F.ExactField.limit (costs_of c.args.objective) c.args.rows.now (map g.F.ExactField.value c.args.duals.now) (c.loop-j.j + 1) (drop (c.loop-j.j + 1) c.args.columns.now)));
    }

pub returns : goal.returns
returns g c =
    ends g.F.ExactField.value _ _ _ _ _ _ c.loop-j.invariant.going (ap (λ columns. columns_steps g.F.ExactField.value g.F.ExactField.limit c.args.above (reduced_costs g.F.ExactField.value (costs_of c.args.objective) c.args.rows.now (map g.F.ExactField.value c.args.duals.now)) (g.F.ExactField.value c.loop-j.partial.sum) c.loop-j.j columns) (drop_all c.loop-j.j c.args.columns.now (omega arith))) c.loop-j.partial refl (sym (ap (λ columns. columns_sum g.F.ExactField.value c.args.above (reduced_costs g.F.ExactField.value (costs_of c.args.objective) c.args.rows.now (map g.F.ExactField.value c.args.duals.now)) (g.F.ExactField.value c.loop-j.partial.sum) c.loop-j.j columns) (drop_all c.loop-j.j c.args.columns.now (omega arith))))
