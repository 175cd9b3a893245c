use Rattle.std.proofs.Common.{◌≡◌, ℕ, List, ◌++◌, map, take}
use Rattle.gms_rows.specs.Rows.{distinct_numbers}
use Rattle.gms_rows.proofs.equations.push_names.Given as goal

abbrev pub invariant-loop-item : goal.invariant-loop-item
invariant-loop-item g l =
    (before : List ℕ) → l.initial.names ≡ distinct_numbers before → l.names ≡ distinct_numbers (before ++ map (λ item. item.named.name) (take l.item-index l.items))
