use Rattle.std.proofs.Common.{List, ℕ, ◌∙◌, subst}
use Rattle.gms_run.specs.Statuses.{SaysLine}
use Rattle.gms_run.proofs.Runs.{mentioned_none}
use Rattle.gms_run.proofs.top_call.report_read_fault.Goals as goal

pub returns-in_err-line-clause-counts : goal.returns-in_err-line-clause-counts
returns-in_err-line-clause-counts g c = mentioned_none _

pub returns-clause-said : goal.returns-clause-said
returns-clause-said g c =
    let old = g.H.Host.meaning c.args.host.now in
    subst (λ (text : List ℕ). SaysLine old (g.H.Host.meaning c.mention.new.host) old.outside text) (c.as_str.ensures.value ∙ c.in_ok-line.ensures) c.in_ok-mention.ensures.said
