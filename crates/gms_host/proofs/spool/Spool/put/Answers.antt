use Rattle.std.proofs.lemmas.Result.{err_from_is_err_and}
use Rattle.gms_host.proofs.Counting.{writing_more}
use Rattle.gms_host.proofs.Spools.{put_more, put_short}
use Rattle.gms_host.proofs.spool.Spool.put.Goals as goal

pub loop-rest-preserved : goal.loop-rest-preserved
loop-rest-preserved g c =
    let made = c.in_ok-write_if_full.ensures in
    record {
      put = put_more _ _ _ _ _ _ c.loop-rest.rest.now _ c.min-count.result c.loop-rest.invariant.put made.outside c.append.ensures;
      counts = writing_more tt c.loop-rest.invariant.counts made.counts;
    }

pub returns-in_err-write_if_full-clause-outside : goal.returns-in_err-write_if_full-clause-outside
returns-in_err-write_if_full-clause-outside g c =
    let p = err_from_is_err_and c.from_residual.result c.from_residual.ensures.1 in
    put_short _ _ _ _ _ _ c.loop-rest.rest.now c.from_residual.result p.0 p.1 c.loop-rest.invariant.put c.in_err-write_if_full.ensures.outside
