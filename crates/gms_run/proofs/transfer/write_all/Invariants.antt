use Rattle.std.proofs.Common.{length}
use Rattle.gms_host.specs.Rules.{CountsWriting}
use Rattle.gms_host.specs.Spooling.{Passes}
use Rattle.gms_host.proofs.Counting.{all_done}
use Rattle.gms_run.proofs.transfer.write_all.Given as goal

abbrev pub invariant-loop-rest : goal.invariant-loop-rest
invariant-loop-rest g l = record {
  passes : Passes (g.H.Host.meaning l.fn.host).outside (g.H.Host.meaning l.host).outside l.bytes l.rest;
  counts : CountsWriting all_done (g.H.Host.meaning l.fn.host).counts (g.H.Host.meaning l.host).counts;
}

abbrev pub decreases-loop-rest : goal.decreases-loop-rest
decreases-loop-rest g l = length l.rest
