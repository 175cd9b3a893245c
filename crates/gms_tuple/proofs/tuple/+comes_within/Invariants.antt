use Rattle.std.proofs.Common.{length}
use Rattle.gms_tuple.proofs.tuple.+comes_within.Given as goal

abbrev pub decreases-comes_within : goal.decreases-comes_within
decreases-comes_within l = length l.labels.now
