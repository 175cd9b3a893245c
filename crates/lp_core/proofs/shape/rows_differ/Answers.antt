use Rattle.std.proofs.Common.{◌≢◌, arith}
use Rattle.std.proofs.lemmas.Bool.{both_ways}
use Rattle.lp_core.specs.declared.program.Row.{Row}
use Rattle.lp_core.proofs.ShapeSteps.{pairs_stop, pairs_go, pairs_end}
use Rattle.lp_core.proofs.shape.rows_differ.Goals as goal

pub loop-i-init : goal.loop-i-init
loop-i-init g c = (λ pairs. pairs, λ pairs. pairs)

pub loop-i-preserved : goal.loop-i-preserved
loop-i-preserved g c =
    pairs_go (λ (a b : Row _). a.key ≢ b.key) c.args.rows.now c.loop-i.i c.index-rows-i.result c.loop-i-test.true c.index-rows-i.is c.loop-i.invariant (c.is_new_row.ensures.0 c.if-not-is_new_row.false)

pub returns-then-not-is_new_row : goal.returns-then-not-is_new_row
returns-then-not-is_new_row g c =
    pairs_stop (λ (a b : Row _). a.key ≢ b.key) c.args.rows.now c.loop-i.i c.index-rows-i.result c.loop-i-test.true c.index-rows-i.is c.loop-i.invariant (λ all. both_ways c.is_new_row.result c.if-not-is_new_row.true (c.is_new_row.ensures.1 all))

pub returns : goal.returns
returns g c = pairs_end (λ (a b : Row _). a.key ≢ b.key) c.args.rows.now c.loop-i.i (omega arith) c.loop-i.invariant
