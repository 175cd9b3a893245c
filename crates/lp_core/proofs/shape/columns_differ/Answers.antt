use Rattle.std.proofs.Common.{◌≢◌, arith}
use Rattle.std.proofs.lemmas.Bool.{both_ways}
use Rattle.lp_core.specs.declared.program.Column.{Column}
use Rattle.lp_core.proofs.ShapeSteps.{pairs_stop, pairs_go, pairs_end}
use Rattle.lp_core.proofs.shape.columns_differ.Goals as goal

pub loop-i-init : goal.loop-i-init
loop-i-init g c = (λ pairs. pairs, λ pairs. pairs)

pub loop-i-preserved : goal.loop-i-preserved
loop-i-preserved g c =
    pairs_go (λ (a b : Column _). a.key ≢ b.key) c.args.columns.now c.loop-i.i c.index-columns-i.result c.loop-i-test.true c.index-columns-i.is c.loop-i.invariant (c.is_new_column.ensures.0 c.if-not-is_new_column.false)

pub returns-then-not-is_new_column : goal.returns-then-not-is_new_column
returns-then-not-is_new_column g c =
    pairs_stop (λ (a b : Column _). a.key ≢ b.key) c.args.columns.now c.loop-i.i c.index-columns-i.result c.loop-i-test.true c.index-columns-i.is c.loop-i.invariant (λ all. both_ways c.is_new_column.result c.if-not-is_new_column.true (c.is_new_column.ensures.1 all))

pub returns : goal.returns
returns g c = pairs_end (λ (a b : Column _). a.key ≢ b.key) c.args.columns.now c.loop-i.i (omega arith) c.loop-i.invariant
