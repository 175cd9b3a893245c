use Rattle.std.proofs.Common.{map}
use Rattle.std.specs.List.{fold}
use Rattle.lp_core.specs.Numbers.{lp_numbers}
use Rattle.gms_exec.specs.Solved.{keys_of_columns, points, with_point}
use Rattle.gms_exec.proofs.Levels.{column-at, put-more}
use Rattle.gms_exec.proofs.solving.put_columns.Goals as goal

pub loop-place-preserved : goal.loop-place-preserved
loop-place-preserved g c =
    let v = g.F.ExactField.value in
    let lp = c.args.lp.now in
    let column = c.column-item.result in
    let at = column-at v lp c.as_slice-column-items.result.now c.loop-place.place column c.as_slice-column-items.ensures c.loop-place-test.true c.column-item.is in
    put-more (keys_of_columns (lp_numbers v lp)) (map v c.args.levels.now) (map v c.args.marginals.now)
    (fold with_point c.args.store.now (points (keys_of_columns (lp_numbers v lp)) (map v c.args.levels.now) (map v c.args.marginals.now)))
    c.loop-place.store c.put_point.new.store c.loop-place.place column.key (v c.number_at-level.result) (v c.number_at-marginal.result)
    at.0 at.1 c.number_at-level.ensures c.number_at-marginal.ensures c.in_ok-put_point.ensures c.loop-place.invariant
