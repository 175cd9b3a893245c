use Rattle.std.proofs.Common.{◌∙◌}
use Rattle.gms_run.proofs.Runs.{counts_so, ran_so}
use Rattle.gms_run.proofs.top_call.run_loaded.Goals as goal

pub write_report-requires-clause-named : goal.write_report-requires-clause-named
write_report-requires-clause-named g c = c.as_str-name.ensures.value ∙ c.in_ok-output.ensures

pub returns-clause-ran : goal.returns-clause-ran
returns-clause-ran g c = ran_so c.write_report.result c.status_of.result _ _ _ _ _ c.status_of.ensures c.write_report.ensures.outside

pub returns-clause-counts : goal.returns-clause-counts
returns-clause-counts g c = counts_so c.write_report.result c.status_of.result _ _ _ _ _ _ _ c.status_of.ensures c.write_report.ensures.counts c.write_report.ensures.outside
