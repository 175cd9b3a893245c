use Rattle.std.proofs.Common.{◌≡◌, ◌≤◌, ◌+◌, ◌*◌, ◌-◌, ◌^◌, map, drop, length, sum}
use Rattle.lp_core.specs.declared.program.Row.{Row}
use Rattle.gms_list.proofs.solves.nonzeros.Given as goal

abbrev pub invariant-loop-row : goal.invariant-loop-row
invariant-loop-row g l =
    (l.count + sum (map (λ (row : Row _). length row.entries) (drop l.row-index l.rows)) ≡ sum (map (λ (row : Row _). length row.entries) l.rows)) × (l.count ≤ l.row-index * (2 ^ 64 - 1))
