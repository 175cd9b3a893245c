use Rattle.std.proofs.Common.{◌≡◌, drop}
use Rattle.gms_eval.specs.InnerLeading.{indices_tree}
use Rattle.gms_eval.specs.Leaders.{is_plain_index}
use Rattle.gms_eval.proofs.leading.place_of.Given as goal

abbrev pub invariant-loop-place : goal.invariant-loop-place
invariant-loop-place g l = is_plain_index l.set (indices_tree (drop l.place l.indices)) ≡ is_plain_index l.set (indices_tree l.indices)
