use Rattle.std.proofs.Common.{◌≡◌, map}
use Rattle.std.specs.List.{fold}
use Rattle.lp_core.specs.Numbers.{lp_numbers}
use Rattle.gms_exec.specs.Solved.{keys_of_columns, points, with_point}
use Rattle.gms_exec.proofs.Levels.{left_at}
use Rattle.gms_exec.proofs.solving.put_columns.Given as goal

-- the remaining points lead from here to where all lead from the first state
abbrev pub invariant-loop-place : goal.invariant-loop-place
invariant-loop-place g l =
    let v = g.F.ExactField.value in
    fold with_point l.store (left_at (keys_of_columns (lp_numbers v l.lp)) (map v l.levels) (map v l.marginals) l.place)
    ≡ fold with_point l.fn.store (points (keys_of_columns (lp_numbers v l.lp)) (map v l.levels) (map v l.marginals))
