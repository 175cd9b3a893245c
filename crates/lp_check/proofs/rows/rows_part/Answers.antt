use Rattle.std.proofs.Common.{map, drop, sym, ap, arith, refl}
use Rattle.std.proofs.lemmas.List.{drop_all}
use Rattle.std.proofs.lemmas.Result.{err_from_is_err_and}
use Rattle.lp_core.specs.Feasible.{bound_value}
use Rattle.lp_check.specs.BoundSteps.{row_bound_steps, rows_sum, plus_steps}
use Rattle.lp_check.proofs.Fits.{bound_for, continues, stops, ends}
use Rattle.lp_check.proofs.StepSequences.{rows_from, rows_sum_from}
use Rattle.lp_check.proofs.rows.rows_part.Goals as goal

pub plus-requires : goal.plus-requires
plus-requires g c =
    bound_for g.F.ExactField.value _ _ _ _ _ _ c.loop-i.invariant (plus_steps g.F.ExactField.limit (g.F.ExactField.value c.loop-i.partial.sum) (g.F.ExactField.value c.index-duals-i.result) (bound_value g.F.ExactField.value c.row_bound-bound.result)) _
    (rows_from g.F.ExactField.value g.F.ExactField.limit c.args.rows.now c.args.duals.now c.loop-i.i c.index-rows-i.result c.index-duals-i.result c.loop-i-test.true c.index-rows-i.is (omega (arith, c.requires.sized)) c.index-duals-i.is c.args.above (g.F.ExactField.value c.loop-i.partial.sum) _ (bound_value g.F.ExactField.value c.row_bound-bound.result) c.row_bound-bound.ensures refl)

pub loop-i-init : goal.loop-i-init
loop-i-init g c = record { within_bound = c.requires.within_bound; so_far = λ result h. h }

pub loop-i-preserved : goal.loop-i-preserved
loop-i-preserved g c =
    continues g.F.ExactField.value _ _ _ _ _ _ c.loop-i.invariant (plus_steps g.F.ExactField.limit (g.F.ExactField.value c.loop-i.partial.sum) (g.F.ExactField.value c.index-duals-i.result) (bound_value g.F.ExactField.value c.row_bound-bound.result)) _
    (rows_from g.F.ExactField.value g.F.ExactField.limit c.args.rows.now c.args.duals.now c.loop-i.i c.index-rows-i.result c.index-duals-i.result c.loop-i-test.true c.index-rows-i.is (omega (arith, c.requires.sized)) c.index-duals-i.is c.args.above (g.F.ExactField.value c.loop-i.partial.sum) (g.F.ExactField.value c.in_ok-partial.partial.sum) (bound_value g.F.ExactField.value c.row_bound-bound.result) c.row_bound-bound.ensures c.in_ok-partial.ensures.1)
    c.in_ok-partial.partial.taken _
    (rows_sum_from g.F.ExactField.value g.F.ExactField.limit c.args.rows.now c.args.duals.now c.loop-i.i c.index-rows-i.result c.index-duals-i.result c.loop-i-test.true c.index-rows-i.is (omega (arith, c.requires.sized)) c.index-duals-i.is c.args.above (g.F.ExactField.value c.loop-i.partial.sum) (g.F.ExactField.value c.in_ok-partial.partial.sum) (bound_value g.F.ExactField.value c.row_bound-bound.result) c.row_bound-bound.ensures c.in_ok-partial.ensures.1)
    c.in_ok-partial.ensures.0

pub returns-in_err-partial : goal.returns-in_err-partial
returns-in_err-partial g c =
    let p = err_from_is_err_and c.from_residual.result c.from_residual.ensures.1 in
    rw (p.1, p.2) (stops g.F.ExactField.value _ _ _ _ _ _ c.loop-i.invariant (plus_steps g.F.ExactField.limit (g.F.ExactField.value c.loop-i.partial.sum) (g.F.ExactField.value c.index-duals-i.result) (bound_value g.F.ExactField.value c.row_bound-bound.result)) _
    (rows_from g.F.ExactField.value g.F.ExactField.limit c.args.rows.now c.args.duals.now c.loop-i.i c.index-rows-i.result c.index-duals-i.result c.loop-i-test.true c.index-rows-i.is (omega (arith, c.requires.sized)) c.index-duals-i.is c.args.above (g.F.ExactField.value c.loop-i.partial.sum) _ (bound_value g.F.ExactField.value c.row_bound-bound.result) c.row_bound-bound.ensures refl)
    c.in_err-partial.field-0.0 c.in_err-partial.ensures)

pub returns : goal.returns
returns g c =
    ends g.F.ExactField.value _ _ _ _ _ _ c.loop-i.invariant (ap (λ rows. row_bound_steps g.F.ExactField.value g.F.ExactField.limit c.args.above (g.F.ExactField.value c.loop-i.partial.sum) rows (drop c.loop-i.i (map g.F.ExactField.value c.args.duals.now))) (drop_all c.loop-i.i c.args.rows.now (omega arith))) c.loop-i.partial refl (sym (ap (λ rows. rows_sum g.F.ExactField.value c.args.above (g.F.ExactField.value c.loop-i.partial.sum) rows (drop c.loop-i.i (map g.F.ExactField.value c.args.duals.now))) (drop_all c.loop-i.i c.args.rows.now (omega arith))))
