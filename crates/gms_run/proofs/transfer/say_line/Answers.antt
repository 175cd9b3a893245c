use Rattle.gms_host.proofs.Counting.{writing_more, writing_done}
use Rattle.gms_host.proofs.WrittenPrefixes.{speaks_say}
use Rattle.gms_run.proofs.transfer.say_line.Goals as goal

pub loop-rest-preserved : goal.loop-rest-preserved
loop-rest-preserved g c =
    let call = c.in_ok-count.ensures in
    record {
      speaks = speaks_say _ _ _ c.args.line.now c.loop-rest.rest.now c.in_ok-count.count c.loop-rest.invariant.speaks call.outside;
      counts = writing_more tt c.loop-rest.invariant.counts (writing_done c.in_ok-count.count tt call.counts);
    }
