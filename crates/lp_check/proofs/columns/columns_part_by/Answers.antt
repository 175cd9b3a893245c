use Rattle.std.proofs.Common.{◌≡◌, map, ap, sym, arith, refl}
use Rattle.std.proofs.lemmas.List.{drop_all}
use Rattle.std.proofs.lemmas.Result.{err_from_is_err_and}
use Rattle.lp_core.specs.Feasible.{bound_value}
use Rattle.lp_core.specs.Sums.{value_of_column}
use Rattle.lp_core.proofs.Checks.{number_of-map}
use Rattle.lp_check.specs.BoundSteps.{columns_steps, columns_sum, plus_steps}
use Rattle.lp_check.proofs.Fits.{continues, stops, ends}
use Rattle.lp_check.proofs.StepSequences.{columns_from, columns_sum_from}
use Rattle.lp_check.proofs.columns.columns_part_by.Goals as goal

pub returns-in_err-partial : goal.returns-in_err-partial
returns-in_err-partial g c =
    let p = err_from_is_err_and c.from_residual.result c.from_residual.ensures.1 in
    let reduced : g.F.ExactField.value c.index-costs-j.result ≡ value_of_column (map g.F.ExactField.value c.args.costs.now) c.loop-j.j = sym (number_of-map g.F.ExactField.value c.args.costs.now c.loop-j.j c.index-costs-j.result (omega (arith, c.requires.sized)) c.index-costs-j.is) in
    rw (p.1, p.2) (stops g.F.ExactField.value _ _ _ _ _ _ c.loop-j.invariant (plus_steps g.F.ExactField.limit (g.F.ExactField.value c.loop-j.partial.sum) (g.F.ExactField.value c.index-costs-j.result) (bound_value g.F.ExactField.value c.column_bound-bound.result)) _
    (columns_from g.F.ExactField.value g.F.ExactField.limit c.args.columns.now c.loop-j.j c.index-columns-j.result c.loop-j-test.true c.index-columns-j.is c.args.above (value_of_column (map g.F.ExactField.value c.args.costs.now)) (g.F.ExactField.value c.loop-j.partial.sum) _ (g.F.ExactField.value c.index-costs-j.result) (bound_value g.F.ExactField.value c.column_bound-bound.result) reduced c.column_bound-bound.ensures refl)
    c.in_err-partial.field-0.0 c.in_err-partial.ensures)

pub loop-j-preserved : goal.loop-j-preserved
loop-j-preserved g c =
    let reduced : g.F.ExactField.value c.index-costs-j.result ≡ value_of_column (map g.F.ExactField.value c.args.costs.now) c.loop-j.j = sym (number_of-map g.F.ExactField.value c.args.costs.now c.loop-j.j c.index-costs-j.result (omega (arith, c.requires.sized)) c.index-costs-j.is) in
    continues g.F.ExactField.value _ _ _ _ _ _ c.loop-j.invariant (plus_steps g.F.ExactField.limit (g.F.ExactField.value c.loop-j.partial.sum) (g.F.ExactField.value c.index-costs-j.result) (bound_value g.F.ExactField.value c.column_bound-bound.result)) _
    (columns_from g.F.ExactField.value g.F.ExactField.limit c.args.columns.now c.loop-j.j c.index-columns-j.result c.loop-j-test.true c.index-columns-j.is c.args.above (value_of_column (map g.F.ExactField.value c.args.costs.now)) (g.F.ExactField.value c.loop-j.partial.sum) (g.F.ExactField.value c.in_ok-partial.partial.sum) (g.F.ExactField.value c.index-costs-j.result) (bound_value g.F.ExactField.value c.column_bound-bound.result) reduced c.column_bound-bound.ensures c.in_ok-partial.ensures.1)
    c.in_ok-partial.partial.taken _
    (columns_sum_from g.F.ExactField.value g.F.ExactField.limit c.args.columns.now c.loop-j.j c.index-columns-j.result c.loop-j-test.true c.index-columns-j.is c.args.above (value_of_column (map g.F.ExactField.value c.args.costs.now)) (g.F.ExactField.value c.loop-j.partial.sum) (g.F.ExactField.value c.in_ok-partial.partial.sum) (g.F.ExactField.value c.index-costs-j.result) (bound_value g.F.ExactField.value c.column_bound-bound.result) reduced c.column_bound-bound.ensures c.in_ok-partial.ensures.1)
    c.in_ok-partial.ensures.0

pub returns : goal.returns
returns g c =
    ends g.F.ExactField.value _ _ _ _ _ _ c.loop-j.invariant (ap (columns_steps g.F.ExactField.value g.F.ExactField.limit c.args.above (value_of_column (map g.F.ExactField.value c.args.costs.now)) (g.F.ExactField.value c.loop-j.partial.sum) c.loop-j.j) (drop_all c.loop-j.j c.args.columns.now (omega arith))) c.loop-j.partial refl (sym (ap (columns_sum g.F.ExactField.value c.args.above (value_of_column (map g.F.ExactField.value c.args.costs.now)) (g.F.ExactField.value c.loop-j.partial.sum) c.loop-j.j) (drop_all c.loop-j.j c.args.columns.now (omega arith))))
