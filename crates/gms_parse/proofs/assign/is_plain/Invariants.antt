use Rattle.std.proofs.Common.{take}
use Rattle.gms_parse.proofs.Lags.{AreLagless}
use Rattle.gms_parse.proofs.assign.is_plain.Given as goal

abbrev pub invariant-loop-index : goal.invariant-loop-index
invariant-loop-index g l = AreLagless (take l.index-index l.index-items)
