use Rattle.std.proofs.Common.{◌≡◌, drop}
use Rattle.std.specs.Prelude.{flat_map}
use Rattle.gms_scope.specs.Data.{least_after}
use Rattle.gms_scope.proofs.data.least_after_parts.Given as goal

abbrev pub invariant-loop-part : goal.invariant-loop-part
invariant-loop-part l = least_after l.least (flat_map (λ labels. labels) (drop l.part-index l.parts)) ≡ least_after l.fn.least (flat_map (λ labels. labels) l.parts)
