use Rattle.std.proofs.Common.{length}
use Rattle.gms_tuple.proofs.tuple.+compared.Given as goal

abbrev pub decreases-compared : goal.decreases-compared
decreases-compared l = length l.labels.now
