use Rattle.std.proofs.Common.{◌≡◌, take, map}
use Rattle.gq_field.specs.Values.{half_value}
use Rattle.gq_frac.specs.Frac.{frac_value}
use Rattle.lp_width.proofs.widen.widen_all.Given as goal

abbrev pub invariant-loop-number : goal.invariant-loop-number
invariant-loop-number l = map frac_value l.made.items ≡ map half_value (take l.number-index l.number-items)
