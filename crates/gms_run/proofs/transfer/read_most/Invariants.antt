use Rattle.std.proofs.Common.{◌+◌, ◌-◌, length}
use Rattle.gms_run.proofs.Transfers.{ReadSoFar}
use Rattle.gms_run.proofs.transfer.read_most.Given as goal

abbrev pub invariant-loop-buffer : goal.invariant-loop-buffer
invariant-loop-buffer g l = ReadSoFar (l.most + 1) (g.H.Host.meaning l.fn.host) (g.H.Host.meaning l.host) l.source.items

abbrev pub decreases-loop-buffer : goal.decreases-loop-buffer
decreases-loop-buffer g l = l.most + 1 - length l.source.items
