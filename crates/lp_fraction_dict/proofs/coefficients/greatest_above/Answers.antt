use Rattle.std.proofs.Common.{◌-◌, refl, subst, arith}
use Rattle.lp_fraction_dict.proofs.Greatest.{BestOf, best_begins, best_goes, none_best, some_best}
use Rattle.lp_fraction_dict.proofs.coefficients.greatest_above.Goals as goal

pub loop-entry-init : goal.loop-entry-init
loop-entry-init g c = best_begins g.F.ExactField.value c.args.row.now

pub loop-entry-preserved : goal.loop-entry-preserved
loop-entry-preserved g c =
    best_goes g.F.ExactField.value c.args.row.now c.loop-entry.entry-index c.entry-item.result 0 c.requires.0 c.requires.1 c.loop-entry-test.true c.entry-item.is c.loop-entry.best c.better-best.result c.loop-entry.invariant c.better-best.ensures

pub returns-in-Some : goal.returns-in-Some
returns-in-Some g c =
    some_best g.F.ExactField.value c.args.row.now c.loop-entry.entry-index (omega arith) c.in-Some.entry (c.in-Some.entry.column - 1) refl (subst (BestOf g.F.ExactField.value c.args.row.now c.loop-entry.entry-index) c.in-Some.is c.loop-entry.invariant)

pub returns-in-None : goal.returns-in-None
returns-in-None g c =
    none_best g.F.ExactField.value c.args.row.now c.loop-entry.entry-index (omega arith) (subst (BestOf g.F.ExactField.value c.args.row.now c.loop-entry.entry-index) c.in-None.is c.loop-entry.invariant)
