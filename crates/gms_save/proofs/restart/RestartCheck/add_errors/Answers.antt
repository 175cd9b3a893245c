use Rattle.std.proofs.Common.{refl, arith}
use Rattle.gms_save.specs.InnerRestartChecks.{error_by}
use Rattle.gms_save.proofs.Joints.{each-first, each-more, each-all}
use Rattle.gms_save.proofs.restart.RestartCheck.add_errors.Goals as goal

pub loop-place-init : goal.loop-place-init
loop-place-init c = each-first (error_by c.args.self.now) c.args.each.now c.args.statements.now

pub loop-place-preserved : goal.loop-place-preserved
loop-place-preserved c =
    each-more (error_by c.args.self.now) c.args.each.now c.args.statements.now c.loop-place.place c.index-statements-place.result c.loop-place.each _ c.sooner.result c.error_of.result c.loop-place-test.true c.index-statements-place.is c.loop-place.invariant c.error_of.ensures c.sooner.ensures refl

pub returns : goal.returns
returns c =
    each-all (error_by c.args.self.now) c.args.each.now c.args.statements.now c.loop-place.place c.loop-place.each (omega arith) c.loop-place.invariant
