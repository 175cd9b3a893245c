use Rattle.gms_host.proofs.Counting.{writing_more, writing_done}
use Rattle.gms_host.proofs.WrittenPrefixes.{passes_write}
use Rattle.gms_run.proofs.transfer.write_all.Goals as goal

pub loop-rest-preserved : goal.loop-rest-preserved
loop-rest-preserved g c =
    let call = c.in_ok-count.ensures in
    record {
      passes = passes_write _ _ _ c.args.bytes.now c.loop-rest.rest.now c.in_ok-count.count c.loop-rest.invariant.passes call.outside;
      counts = writing_more tt c.loop-rest.invariant.counts (writing_done c.in_ok-count.count tt call.counts);
    }
