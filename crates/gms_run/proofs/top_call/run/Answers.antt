-- The answers of the run are those of the ended run.
use Rattle.gms_run.proofs.Completeness.{completes, refused_so, refuses}
use Rattle.gms_run.proofs.Headlined.{headlined}
use Rattle.gms_run.proofs.Planned.{answered-rightly}
use Rattle.gms_run.proofs.Stopping.{stopped_so}
use Rattle.gms_run.proofs.top_call.run.Goals as goal

pub returns-in_err-status-clause-steady : goal.returns-in_err-status-clause-steady
returns-in_err-status-clause-steady g c = λ ready. c.in_err-status.ensures.counts.stay ready

pub returns-clause-headline : goal.returns-clause-headline
returns-clause-headline g c = λ file output.
    rw (c.replace-answers.ensures.value)
    (headlined c.in_ok-status.status _ _ _ _ file output (answered-rightly _) c.in_ok-status.ensures.ran)

pub returns-clause-answers : goal.returns-clause-answers
returns-clause-answers g c = answered-rightly _

pub returns-clause-run : goal.returns-clause-run
returns-clause-run g c = rw (c.replace-answers.ensures.value) c.in_ok-status.ensures.ran

pub returns-clause-counts : goal.returns-clause-counts
returns-clause-counts g c = c.in_ok-status.ensures.counts.said

pub returns-clause-steady : goal.returns-clause-steady
returns-clause-steady g c = λ ready. c.in_ok-status.ensures.counts.stay ready

pub returns-clause-no_fault : goal.returns-clause-no_fault
returns-clause-no_fault g c = λ ready. c.in_ok-status.ensures.counts.unmet ready

pub returns-clause-usage : goal.returns-clause-usage
returns-clause-usage g c = refused_so c.in_ok-status.status _ _ _ _ c.in_ok-status.ensures.ran

pub returns-clause-compile : goal.returns-clause-compile
returns-clause-compile g c = λ n. refuses c.in_ok-status.status _ _ _ _ c.in_ok-status.ensures.ran c.in_ok-status.ensures.counts.said c.in_ok-status.ensures.counts.unmet n

pub returns-clause-execution : goal.returns-clause-execution
returns-clause-execution g c = λ n. rw (c.replace-answers.ensures.value) (stopped_so c.in_ok-status.status _ _ _ _ c.in_ok-status.ensures.ran c.in_ok-status.ensures.counts.said c.in_ok-status.ensures.counts.unmet n)

pub returns-clause-complete : goal.returns-clause-complete
returns-clause-complete g c = completes c.in_ok-status.status _ _ _ _ c.in_ok-status.ensures.ran c.in_ok-status.ensures.counts.said c.in_ok-status.ensures.counts.unmet
