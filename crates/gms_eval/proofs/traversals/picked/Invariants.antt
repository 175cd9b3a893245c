use Rattle.std.proofs.Common.{◌≡◌, ◌++◌, take, length}
use Rattle.gms_eval.specs.InnerLeading.{picked}
use Rattle.gms_eval.proofs.traversals.picked.Given as goal

abbrev pub invariant-loop-place : goal.invariant-loop-place
invariant-loop-place l =
    (l.element ≡ picked (take l.place-index l.places) (l.tuple ++ l.rest)) × (length l.element ≡ l.place-index)
