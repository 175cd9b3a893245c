use Rattle.std.proofs.Common.{◌≢◌, ◌↔◌, drop}
use Rattle.std.specs.List.{AllPairs}
use Rattle.lp_core.proofs.shape.rows_differ.Given as goal

abbrev pub invariant-loop-i : goal.invariant-loop-i
invariant-loop-i g l = AllPairs (λ a b. a.key ≢ b.key) l.rows ↔ AllPairs (λ a b. a.key ≢ b.key) (drop l.i l.rows)
