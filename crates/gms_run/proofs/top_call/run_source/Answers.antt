-- A source resumes from no state.
use Rattle.gms_run.proofs.top_call.run_source.Goals as goal

pub run_loaded-requires-clause-sound : goal.run_loaded-requires-clause-sound
run_loaded-requires-clause-sound g c = tt

pub returns-clause-ran : goal.returns-clause-ran
returns-clause-ran g c = c.run_loaded.ensures.ran
