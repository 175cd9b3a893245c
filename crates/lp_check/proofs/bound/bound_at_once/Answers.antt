use Rattle.std.proofs.Common.{◌≡◌, ◌∙◌, pos, map, ap}
use Rattle.gq_number.specs.Number.{whole}
use Rattle.lp_core.specs.Sums.{value_of_column}
use Rattle.lp_check.specs.BoundSteps.{row_bound_steps, rows_sum}
use Rattle.lp_check.specs.Partials.{Took, costs_of, reduced_costs}
use Rattle.lp_check.proofs.Reduced.{all_fit, bound_for_columns, all_over_fit, sum_same}
use Rattle.lp_check.proofs.bound.bound_at_once.Goals as goal

pub columns_part_by-requires-clause-within_bound : goal.columns_part_by-requires-clause-within_bound
columns_part_by-requires-clause-within_bound g c =
    let reduced : value_of_column (map g.F.ExactField.value c.as_slice.result.now) ≡ reduced_costs g.F.ExactField.value (costs_of c.args.objective) c.args.rows.now (map g.F.ExactField.value c.args.duals.now) = λ i j. (ap (λ list. value_of_column (map g.F.ExactField.value list) j) c.as_slice.ensures.value ∙ c.in_ok-costs.ensures.costs j) i in
    let sum : g.F.ExactField.value c.in-Ok.part.sum ≡ rows_sum g.F.ExactField.value c.args.above (whole (pos 0)) c.args.rows.now (map g.F.ExactField.value c.args.duals.now) = rw c.zero-sum.ensures at c.in-Ok.ensures.1 in
    let took : Took 0 (row_bound_steps g.F.ExactField.value g.F.ExactField.limit c.args.above (whole (pos 0)) c.args.rows.now (map g.F.ExactField.value c.args.duals.now)) c.in-Ok.part.taken = rw c.zero-sum.ensures at c.in-Ok.ensures.0 in
    bound_for_columns g.F.ExactField.value g.F.ExactField.limit c.args.above (costs_of c.args.objective) c.args.rows.now c.args.columns.now (map g.F.ExactField.value c.args.duals.now) (value_of_column (map g.F.ExactField.value c.as_slice.result.now)) (g.F.ExactField.value c.in-Ok.part.sum) reduced sum c.in-Ok.part.taken took.1 c.requires.within_bound

pub returns-clause-fit : goal.returns-clause-fit
returns-clause-fit g c =
    let reduced : value_of_column (map g.F.ExactField.value c.as_slice.result.now) ≡ reduced_costs g.F.ExactField.value (costs_of c.args.objective) c.args.rows.now (map g.F.ExactField.value c.args.duals.now) = λ i j. (ap (λ list. value_of_column (map g.F.ExactField.value list) j) c.as_slice.ensures.value ∙ c.in_ok-costs.ensures.costs j) i in
    let sum : g.F.ExactField.value c.in-Ok.part.sum ≡ rows_sum g.F.ExactField.value c.args.above (whole (pos 0)) c.args.rows.now (map g.F.ExactField.value c.args.duals.now) = rw c.zero-sum.ensures at c.in-Ok.ensures.1 in
    let took : Took 0 (row_bound_steps g.F.ExactField.value g.F.ExactField.limit c.args.above (whole (pos 0)) c.args.rows.now (map g.F.ExactField.value c.args.duals.now)) c.in-Ok.part.taken = rw c.zero-sum.ensures at c.in-Ok.ensures.0 in
    all_over_fit g.F.ExactField.value g.F.ExactField.limit c.args.above (costs_of c.args.objective) c.args.rows.now c.args.columns.now (map g.F.ExactField.value c.args.duals.now) (value_of_column (map g.F.ExactField.value c.as_slice.result.now)) (g.F.ExactField.value c.in-Ok.part.sum) reduced sum
    (all_fit g.F.ExactField.value g.F.ExactField.limit (costs_of c.args.objective) c.args.rows.now (map g.F.ExactField.value c.args.duals.now) 0 c.args.columns.now c.in_ok-costs.ensures.fit) took.0 c.in-Ok-columns_part_by.ensures.0.0

pub returns-clause-value : goal.returns-clause-value
returns-clause-value g c =
    let reduced : value_of_column (map g.F.ExactField.value c.as_slice.result.now) ≡ reduced_costs g.F.ExactField.value (costs_of c.args.objective) c.args.rows.now (map g.F.ExactField.value c.args.duals.now) = λ i j. (ap (λ list. value_of_column (map g.F.ExactField.value list) j) c.as_slice.ensures.value ∙ c.in_ok-costs.ensures.costs j) i in
    let sum : g.F.ExactField.value c.in-Ok.part.sum ≡ rows_sum g.F.ExactField.value c.args.above (whole (pos 0)) c.args.rows.now (map g.F.ExactField.value c.args.duals.now) = rw c.zero-sum.ensures at c.in-Ok.ensures.1 in
    c.in-Ok-columns_part_by.ensures.1 ∙ sum_same g.F.ExactField.value g.F.ExactField.limit c.args.above (costs_of c.args.objective) c.args.rows.now c.args.columns.now (map g.F.ExactField.value c.args.duals.now) (value_of_column (map g.F.ExactField.value c.as_slice.result.now)) (g.F.ExactField.value c.in-Ok.part.sum) reduced sum
