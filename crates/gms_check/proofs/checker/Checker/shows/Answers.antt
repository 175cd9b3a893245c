use Rattle.gms_check.specs.InnerChecking.{seen}
use Rattle.gms_check.specs.StatementUses.{show_uses}
use Rattle.gms_check.proofs.Noting.{noted-more}
use Rattle.gms_check.proofs.checker.Checker.shows.Goals as goal

pub loop-item-preserved : goal.loop-item-preserved
loop-item-preserved g c =
    noted-more g.F.ExactField.value show_uses c.args.items.now c.loop-item.item-index c.item-item.result (seen c.args.self.now) (seen c.loop-item.self) (seen c.show.new.self) c.loop-item-test.true c.item-item.is c.loop-item.invariant c.show.ensures
