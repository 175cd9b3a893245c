use Rattle.std.proofs.Common.{◌≡◌, ◌++◌, pos, map, subst, arith}
use Rattle.std.proofs.lemmas.List.{length-append}
use Rattle.std.proofs.lemmas.Result.{err_from_is_err_and}
use Rattle.gq_number.specs.Number.{whole}
use Rattle.lp_check.specs.BoundSteps.{all_reduced_steps, row_bound_steps, rows_sum, columns_steps, columns_sum}
use Rattle.lp_check.specs.Partials.{costs_of, reduced_costs, Took, Reaches}
use Rattle.lp_check.proofs.Fits.{reaches_after, stops_before, stops_after, took_both}
use Rattle.lp_check.proofs.bound.bound_over.Goals as goal

pub reduced_costs_fit-requires-clause-within_bound : goal.reduced_costs_fit-requires-clause-within_bound
reduced_costs_fit-requires-clause-within_bound g c = omega (arith, c.requires.within_bound, length-append ((all_reduced_steps g.F.ExactField.value g.F.ExactField.limit (costs_of c.args.objective) c.args.rows.now (map g.F.ExactField.value c.args.duals.now) 0 c.args.columns.now) ++ (row_bound_steps g.F.ExactField.value g.F.ExactField.limit c.args.above (whole (pos 0)) c.args.rows.now (map g.F.ExactField.value c.args.duals.now))) (columns_steps g.F.ExactField.value g.F.ExactField.limit c.args.above (reduced_costs g.F.ExactField.value (costs_of c.args.objective) c.args.rows.now (map g.F.ExactField.value c.args.duals.now)) (rows_sum g.F.ExactField.value c.args.above (whole (pos 0)) c.args.rows.now (map g.F.ExactField.value c.args.duals.now)) 0 c.args.columns.now), length-append (all_reduced_steps g.F.ExactField.value g.F.ExactField.limit (costs_of c.args.objective) c.args.rows.now (map g.F.ExactField.value c.args.duals.now) 0 c.args.columns.now) (row_bound_steps g.F.ExactField.value g.F.ExactField.limit c.args.above (whole (pos 0)) c.args.rows.now (map g.F.ExactField.value c.args.duals.now)))

pub rows_part-requires-clause-within_bound : goal.rows_part-requires-clause-within_bound
rows_part-requires-clause-within_bound g c = rw c.zero-sum.ensures (omega (arith, c.requires.within_bound, c.in_ok-taken.ensures.1, length-append ((all_reduced_steps g.F.ExactField.value g.F.ExactField.limit (costs_of c.args.objective) c.args.rows.now (map g.F.ExactField.value c.args.duals.now) 0 c.args.columns.now) ++ (row_bound_steps g.F.ExactField.value g.F.ExactField.limit c.args.above (whole (pos 0)) c.args.rows.now (map g.F.ExactField.value c.args.duals.now))) (columns_steps g.F.ExactField.value g.F.ExactField.limit c.args.above (reduced_costs g.F.ExactField.value (costs_of c.args.objective) c.args.rows.now (map g.F.ExactField.value c.args.duals.now)) (rows_sum g.F.ExactField.value c.args.above (whole (pos 0)) c.args.rows.now (map g.F.ExactField.value c.args.duals.now)) 0 c.args.columns.now), length-append (all_reduced_steps g.F.ExactField.value g.F.ExactField.limit (costs_of c.args.objective) c.args.rows.now (map g.F.ExactField.value c.args.duals.now) 0 c.args.columns.now) (row_bound_steps g.F.ExactField.value g.F.ExactField.limit c.args.above (whole (pos 0)) c.args.rows.now (map g.F.ExactField.value c.args.duals.now))))

pub columns_part-requires-clause-bounded : goal.columns_part-requires-clause-bounded
columns_part-requires-clause-bounded g c = omega (arith, c.requires.within_bound, length-append ((all_reduced_steps g.F.ExactField.value g.F.ExactField.limit (costs_of c.args.objective) c.args.rows.now (map g.F.ExactField.value c.args.duals.now) 0 c.args.columns.now) ++ (row_bound_steps g.F.ExactField.value g.F.ExactField.limit c.args.above (whole (pos 0)) c.args.rows.now (map g.F.ExactField.value c.args.duals.now))) (columns_steps g.F.ExactField.value g.F.ExactField.limit c.args.above (reduced_costs g.F.ExactField.value (costs_of c.args.objective) c.args.rows.now (map g.F.ExactField.value c.args.duals.now)) (rows_sum g.F.ExactField.value c.args.above (whole (pos 0)) c.args.rows.now (map g.F.ExactField.value c.args.duals.now)) 0 c.args.columns.now), length-append (all_reduced_steps g.F.ExactField.value g.F.ExactField.limit (costs_of c.args.objective) c.args.rows.now (map g.F.ExactField.value c.args.duals.now) 0 c.args.columns.now) (row_bound_steps g.F.ExactField.value g.F.ExactField.limit c.args.above (whole (pos 0)) c.args.rows.now (map g.F.ExactField.value c.args.duals.now)))

pub columns_part-requires-clause-fit : goal.columns_part-requires-clause-fit
columns_part-requires-clause-fit g c = c.in_ok-taken.ensures.0

pub columns_part-requires-clause-within_bound : goal.columns_part-requires-clause-within_bound
columns_part-requires-clause-within_bound g c =
    let sum : g.F.ExactField.value c.in_ok-part.part.sum ≡ rows_sum g.F.ExactField.value c.args.above (whole (pos 0)) c.args.rows.now (map g.F.ExactField.value c.args.duals.now) = rw c.zero-sum.ensures at c.in_ok-part.ensures.1 in
    let took : Took c.in_ok-taken.taken (row_bound_steps g.F.ExactField.value g.F.ExactField.limit c.args.above (whole (pos 0)) c.args.rows.now (map g.F.ExactField.value c.args.duals.now)) c.in_ok-part.part.taken = rw c.zero-sum.ensures at c.in_ok-part.ensures.0 in
    rw sum (omega (arith, c.requires.within_bound, c.in_ok-taken.ensures.1, took.1, length-append ((all_reduced_steps g.F.ExactField.value g.F.ExactField.limit (costs_of c.args.objective) c.args.rows.now (map g.F.ExactField.value c.args.duals.now) 0 c.args.columns.now) ++ (row_bound_steps g.F.ExactField.value g.F.ExactField.limit c.args.above (whole (pos 0)) c.args.rows.now (map g.F.ExactField.value c.args.duals.now))) (columns_steps g.F.ExactField.value g.F.ExactField.limit c.args.above (reduced_costs g.F.ExactField.value (costs_of c.args.objective) c.args.rows.now (map g.F.ExactField.value c.args.duals.now)) (rows_sum g.F.ExactField.value c.args.above (whole (pos 0)) c.args.rows.now (map g.F.ExactField.value c.args.duals.now)) 0 c.args.columns.now), length-append (all_reduced_steps g.F.ExactField.value g.F.ExactField.limit (costs_of c.args.objective) c.args.rows.now (map g.F.ExactField.value c.args.duals.now) 0 c.args.columns.now) (row_bound_steps g.F.ExactField.value g.F.ExactField.limit c.args.above (whole (pos 0)) c.args.rows.now (map g.F.ExactField.value c.args.duals.now))))

pub returns-in_err-taken : goal.returns-in_err-taken
returns-in_err-taken g c =
    let p = err_from_is_err_and c.from_residual.result c.from_residual.ensures.1 in
    rw (p.1, p.2) (stops_before 0 ((all_reduced_steps g.F.ExactField.value g.F.ExactField.limit (costs_of c.args.objective) c.args.rows.now (map g.F.ExactField.value c.args.duals.now) 0 c.args.columns.now) ++ (row_bound_steps g.F.ExactField.value g.F.ExactField.limit c.args.above (whole (pos 0)) c.args.rows.now (map g.F.ExactField.value c.args.duals.now))) (columns_steps g.F.ExactField.value g.F.ExactField.limit c.args.above (reduced_costs g.F.ExactField.value (costs_of c.args.objective) c.args.rows.now (map g.F.ExactField.value c.args.duals.now)) (rows_sum g.F.ExactField.value c.args.above (whole (pos 0)) c.args.rows.now (map g.F.ExactField.value c.args.duals.now)) 0 c.args.columns.now) c.in_err-taken.field-0.0 (stops_before 0 (all_reduced_steps g.F.ExactField.value g.F.ExactField.limit (costs_of c.args.objective) c.args.rows.now (map g.F.ExactField.value c.args.duals.now) 0 c.args.columns.now) (row_bound_steps g.F.ExactField.value g.F.ExactField.limit c.args.above (whole (pos 0)) c.args.rows.now (map g.F.ExactField.value c.args.duals.now)) c.in_err-taken.field-0.0 c.in_err-taken.ensures))

pub returns-in_err-part : goal.returns-in_err-part
returns-in_err-part g c =
    let p = err_from_is_err_and c.from_residual-in_err-part.result c.from_residual-in_err-part.ensures.1 in
    rw (p.1, p.2) (stops_before 0 ((all_reduced_steps g.F.ExactField.value g.F.ExactField.limit (costs_of c.args.objective) c.args.rows.now (map g.F.ExactField.value c.args.duals.now) 0 c.args.columns.now) ++ (row_bound_steps g.F.ExactField.value g.F.ExactField.limit c.args.above (whole (pos 0)) c.args.rows.now (map g.F.ExactField.value c.args.duals.now))) (columns_steps g.F.ExactField.value g.F.ExactField.limit c.args.above (reduced_costs g.F.ExactField.value (costs_of c.args.objective) c.args.rows.now (map g.F.ExactField.value c.args.duals.now)) (rows_sum g.F.ExactField.value c.args.above (whole (pos 0)) c.args.rows.now (map g.F.ExactField.value c.args.duals.now)) 0 c.args.columns.now) c.in_err-part.field-0.0 (stops_after 0 c.in_ok-taken.taken (all_reduced_steps g.F.ExactField.value g.F.ExactField.limit (costs_of c.args.objective) c.args.rows.now (map g.F.ExactField.value c.args.duals.now) 0 c.args.columns.now) (row_bound_steps g.F.ExactField.value g.F.ExactField.limit c.args.above (whole (pos 0)) c.args.rows.now (map g.F.ExactField.value c.args.duals.now)) c.in_err-part.field-0.0 c.in_ok-taken.ensures (rw c.zero-sum.ensures at c.in_err-part.ensures)))

pub returns : goal.returns
returns g c =
    let sum : g.F.ExactField.value c.in_ok-part.part.sum ≡ rows_sum g.F.ExactField.value c.args.above (whole (pos 0)) c.args.rows.now (map g.F.ExactField.value c.args.duals.now) = rw c.zero-sum.ensures at c.in_ok-part.ensures.1 in
    let took : Took c.in_ok-taken.taken (row_bound_steps g.F.ExactField.value g.F.ExactField.limit c.args.above (whole (pos 0)) c.args.rows.now (map g.F.ExactField.value c.args.duals.now)) c.in_ok-part.part.taken = rw c.zero-sum.ensures at c.in_ok-part.ensures.0 in
    reaches_after g.F.ExactField.value 0 c.in_ok-part.part.taken ((all_reduced_steps g.F.ExactField.value g.F.ExactField.limit (costs_of c.args.objective) c.args.rows.now (map g.F.ExactField.value c.args.duals.now) 0 c.args.columns.now) ++ (row_bound_steps g.F.ExactField.value g.F.ExactField.limit c.args.above (whole (pos 0)) c.args.rows.now (map g.F.ExactField.value c.args.duals.now))) (columns_steps g.F.ExactField.value g.F.ExactField.limit c.args.above (reduced_costs g.F.ExactField.value (costs_of c.args.objective) c.args.rows.now (map g.F.ExactField.value c.args.duals.now)) (rows_sum g.F.ExactField.value c.args.above (whole (pos 0)) c.args.rows.now (map g.F.ExactField.value c.args.duals.now)) 0 c.args.columns.now) (columns_sum g.F.ExactField.value c.args.above (reduced_costs g.F.ExactField.value (costs_of c.args.objective) c.args.rows.now (map g.F.ExactField.value c.args.duals.now)) (rows_sum g.F.ExactField.value c.args.above (whole (pos 0)) c.args.rows.now (map g.F.ExactField.value c.args.duals.now)) 0 c.args.columns.now) c.columns_part.result
    (took_both 0 c.in_ok-taken.taken c.in_ok-part.part.taken (all_reduced_steps g.F.ExactField.value g.F.ExactField.limit (costs_of c.args.objective) c.args.rows.now (map g.F.ExactField.value c.args.duals.now) 0 c.args.columns.now) (row_bound_steps g.F.ExactField.value g.F.ExactField.limit c.args.above (whole (pos 0)) c.args.rows.now (map g.F.ExactField.value c.args.duals.now)) c.in_ok-taken.ensures took)
    (subst (λ n. Reaches g.F.ExactField.value c.in_ok-part.part.taken (columns_steps g.F.ExactField.value g.F.ExactField.limit c.args.above (reduced_costs g.F.ExactField.value (costs_of c.args.objective) c.args.rows.now (map g.F.ExactField.value c.args.duals.now)) n 0 c.args.columns.now) (columns_sum g.F.ExactField.value c.args.above (reduced_costs g.F.ExactField.value (costs_of c.args.objective) c.args.rows.now (map g.F.ExactField.value c.args.duals.now)) n 0 c.args.columns.now) c.columns_part.result) sum c.columns_part.ensures)
