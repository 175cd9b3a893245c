use Rattle.std.proofs.Common.{◌≡◌, [], ◌++◌, map, take}
use Rattle.gms_rows.specs.Rows.{distinct_numbers}
use Rattle.gms_rows.proofs.equations.listed.Given as goal

abbrev pub invariant-loop-equation : goal.invariant-loop-equation
invariant-loop-equation l =
    l.names ≡ distinct_numbers ([] ++ map (λ equation. equation.name) (take l.equation-index l.equation-items))
