use Rattle.gms_run.proofs.Runs.{fault_of, mentioned, prints_prefix, says_whole}
use Rattle.gms_run.proofs.top_call.mention.Goals as goal

pub returns-in-Ok-clause-said : goal.returns-in-Ok-clause-said
returns-in-Ok-clause-said g c = says_whole _ _ c.args.line.now (rw (← c.as_bytes.ensures.value) c.in-Ok.ensures.outside)

pub returns-in-Ok-clause-counts : goal.returns-in-Ok-clause-counts
returns-in-Ok-clause-counts g c = mentioned _ _ _ c.in-Ok.ensures.counts

pub returns-in-Err-Fault-clause-said : goal.returns-in-Err-Fault-clause-said
returns-in-Err-Fault-clause-said g c = prints_prefix _ _ c.args.line.now (rw (← c.as_bytes.ensures.value) c.in-Err-Fault.ensures.outside) (c.in-Err-Fault.ensures.counts.own.fault (fault_of _ _ c.in-Err-Fault.field-0-is))

pub returns-in-Err-Fault-clause-counts : goal.returns-in-Err-Fault-clause-counts
returns-in-Err-Fault-clause-counts g c = mentioned _ _ _ c.in-Err-Fault.ensures.counts

pub returns-in-Err-Memory-clause-counts : goal.returns-in-Err-Memory-clause-counts
returns-in-Err-Memory-clause-counts g c = mentioned _ _ _ c.in-Err-Memory.ensures.counts
