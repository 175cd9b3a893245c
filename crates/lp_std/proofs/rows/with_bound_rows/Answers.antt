use Rattle.std.proofs.Common.{◌≡◌, ◌+◌, ◌∙◌, drop, length, ap, arith}
use Rattle.std.proofs.lemmas.Result.{err_from_is_err_and}
use Rattle.lp_core.specs.StandardForm as form
use Rattle.lp_core.specs.Steps.{bounds_steps}
use Rattle.lp_std.specs.InnerSteps.{first_stop}
use Rattle.lp_std.proofs.RowSteps.{stops_on}
use Rattle.lp_std.proofs.BoundSteps.{bounds_stop, bounds_go, bounds_count, bounds_length, bounds_made}
use Rattle.lp_std.proofs.rows.with_bound_rows.Goals as goal

pub push_bound_row-requires-clause-within_bound : goal.push_bound_row-requires-clause-within_bound
push_bound_row-requires-clause-within_bound g c = omega (arith, c.loop-j.invariant.counted, c.requires.within_bound)

pub returns-in_err-push_bound_row-clause-err : goal.returns-in_err-push_bound_row-clause-err
returns-in_err-push_bound_row-clause-err g c =
    let p = err_from_is_err_and c.from_residual.result c.from_residual.ensures.1 in
    rw (p.1, p.2) (stops_on (bounds_steps g.F.ExactField.value g.F.ExactField.limit (length c.args.rows.items + 1) 0 c.args.bounded.now) (bounds_steps g.F.ExactField.value g.F.ExactField.limit (length c.loop-j.all.items + 1) c.loop-j.j (drop c.loop-j.j c.args.bounded.now)) c.in_err-push_bound_row.field-0.0 c.loop-j.invariant.steps (bounds_stop g.F.ExactField.value g.F.ExactField.limit c.args.columns.now c.args.bounded.now c.loop-j.j c.index-bounded-j.result c.index-columns-j.result (omega arith) c.index-bounded-j.is (omega (arith, c.requires.sized)) c.index-columns-j.is (length c.loop-j.all.items + 1) c.in_err-push_bound_row.field-0.0 c.in_err-push_bound_row.ensures))

pub loop-j-preserved : goal.loop-j-preserved
loop-j-preserved g c =
    let len = bounds_length g.F.ExactField.value g.F.ExactField.limit c.args.columns.now c.args.bounded.now c.loop-j.j c.index-bounded-j.result c.index-columns-j.result (omega arith) c.index-bounded-j.is (omega (arith, c.requires.sized)) c.index-columns-j.is c.loop-j.all.items c.push_bound_row.new.rows.items c.in_ok-push_bound_row.ensures.1 in
    let numbers : length c.loop-j.all.items + 1 + form.rows_of_bounds c.index-bounded-j.result.lower c.index-bounded-j.result.upper ≡ length c.push_bound_row.new.rows.items + 1 = omega (arith, len) in
    record {
      counted = omega (arith, len, bounds_count g.F.ExactField.value g.F.ExactField.limit c.args.columns.now c.args.bounded.now c.loop-j.j c.index-bounded-j.result c.index-columns-j.result (omega arith) c.index-bounded-j.is (omega (arith, c.requires.sized)) c.index-columns-j.is, c.loop-j.invariant.counted);
      steps = c.loop-j.invariant.steps ∙ bounds_go g.F.ExactField.value g.F.ExactField.limit c.args.columns.now c.args.bounded.now c.loop-j.j c.index-bounded-j.result c.index-columns-j.result (omega arith) c.index-bounded-j.is (omega (arith, c.requires.sized)) c.index-columns-j.is (length c.loop-j.all.items + 1) c.in_ok-push_bound_row.ensures.0 ∙ ap (λ n. first_stop (bounds_steps g.F.ExactField.value g.F.ExactField.limit n (c.loop-j.j + 1) (drop (c.loop-j.j + 1) c.args.bounded.now))) numbers;
      made = bounds_made g.F.ExactField.value g.F.ExactField.limit c.args.columns.now c.args.bounded.now c.loop-j.j c.index-bounded-j.result c.index-columns-j.result (omega arith) c.index-bounded-j.is (omega (arith, c.requires.sized)) c.index-columns-j.is c.loop-j.all.items c.push_bound_row.new.rows.items c.in_ok-push_bound_row.ensures.1 ∙ c.loop-j.invariant.made;
    }
