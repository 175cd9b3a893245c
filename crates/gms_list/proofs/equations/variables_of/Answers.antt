use Rattle.std.proofs.Common.{◌∙◌, arith, ap, map}
use Rattle.lp_core.specs.declared.program.Column.{Column}
use Rattle.gms_list.proofs.Once.{gathered, gathered_step, gathered_done, gathered_none}
use Rattle.gms_list.proofs.equations.variables_of.Goals as goal

pub loop-column-init : goal.loop-column-init
loop-column-init g c =
    ap (λ ns. gathered ns (map (λ (column : Column _). column.key.symbol) c.args.columns.now)) c.new-variables.ensures.items ∙ gathered_none (map (λ (column : Column _). column.key.symbol) c.args.columns.now)

pub loop-column-preserved : goal.loop-column-preserved
loop-column-preserved g c =
    gathered_step (λ (column : Column _). column.key.symbol) c.args.columns.now c.loop-column.column-index c.column-item.result c.loop-column.variables.items _ _ (omega arith) c.column-item.is c.loop-column.invariant c.in_ok-push_once.ensures

pub returns : goal.returns
returns g c = gathered_done (λ (column : Column _). column.key.symbol) c.args.columns.now c.loop-column.column-index c.loop-column.variables.items _ (omega arith) c.loop-column.invariant
