use Rattle.std.proofs.Common.{refl}
use Rattle.gms_exec.proofs.LeftSides.{any-here, any-later, any-end}
use Rattle.gms_exec.proofs.assignment.is_one_of.Goals as goal

pub loop-one-init : goal.loop-one-init
loop-one-init c = refl

pub returns-then-one-set : goal.returns-then-one-set
returns-then-one-set c = any-here c.args.set c.args.sets.now c.loop-one.one-index c.loop-one-test.true c.loop-one.invariant c.if-one-set.true

pub loop-one-preserved : goal.loop-one-preserved
loop-one-preserved c = any-later c.args.set c.args.sets.now c.loop-one.one-index c.loop-one-test.true c.loop-one.invariant c.if-one-set.false

pub returns : goal.returns
returns c = any-end c.args.set c.args.sets.now c.loop-one.one-index c.loop-one-test.false c.loop-one.invariant
