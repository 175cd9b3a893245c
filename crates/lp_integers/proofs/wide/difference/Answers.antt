-- The difference of stored numbers is theirs, and it fits.
use Rattle.std.specs.Int.{w128}
use Rattle.lp_integers.proofs.Lines.{difference_fits, difference_again}
use Rattle.lp_integers.proofs.wide.difference.Goals as goal

pub overflow_sub-result : goal.overflow_sub-result
overflow_sub-result c = difference_fits w128 c.args.a c.args.b c.ranges.a c.ranges.b c.requires

pub returns : goal.returns
returns c = difference_again w128 c.args.a c.args.b c.ranges.a c.ranges.b c.requires
