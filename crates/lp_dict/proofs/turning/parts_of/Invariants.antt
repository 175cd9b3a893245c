use Rattle.std.proofs.Common.{◌≡◌, map, take}
use Rattle.lp_dict.specs.InnerConversions.{part_of}
use Rattle.lp_dict.proofs.turning.parts_of.Given as goal

abbrev pub invariant-loop-entry : goal.invariant-loop-entry
invariant-loop-entry g l = l.parts.items ≡ map (part_of g.F.ExactField.value) (take l.entry-index l.row)
