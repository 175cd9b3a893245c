use Rattle.std.proofs.Common.{arith}
use Rattle.std.proofs.lemmas.List.Elements.{All-from_all_within, AllWithin-upto}
use Rattle.std.proofs.lemmas.Bool.{both_ways}
use Rattle.lp_core.specs.Proofs.{Crosses}
use Rattle.lp_core.specs.declared.program.Column.{Column}
use Rattle.lp_std.proofs.RowSteps.{slice_get_here, within_more}
use Rattle.lp_std.proofs.bounds.first_crossed.Goals as goal

pub returns-then-crosses : goal.returns-then-crosses
returns-then-crosses g c =
    ((c.index-columns-j.result, slice_get_here c.args.columns.now c.loop-j.j c.index-columns-j.result (omega arith) c.index-columns-j.is, c.crosses.ensures.0 c.if-crosses.true), c.loop-j.invariant)

pub loop-j-preserved : goal.loop-j-preserved
loop-j-preserved g c =
    within_more (λ (column : Column _). ¬ (Crosses g.F.ExactField.value column.lower column.upper)) c.args.columns.now c.loop-j.j c.index-columns-j.result (omega arith) c.index-columns-j.is c.loop-j.invariant (λ h. both_ways c.crosses.result c.if-crosses.false (c.crosses.ensures.1 h))

pub returns : goal.returns
returns g c =
    All-from_all_within (λ (column : Column _). ¬ (Crosses g.F.ExactField.value column.lower column.upper)) c.args.columns.now (AllWithin-upto (λ (column : Column _). ¬ (Crosses g.F.ExactField.value column.lower column.upper)) c.args.columns.now 0 c.loop-j.j _ (omega arith) c.loop-j.invariant)
