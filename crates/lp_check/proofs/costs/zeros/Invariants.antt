use Rattle.std.proofs.Common.{◌≡◌, length}
use Rattle.lp_check.proofs.Reduced.{AreZeros}
use Rattle.lp_check.proofs.costs.zeros.Given as goal

abbrev pub invariant-loop-column : goal.invariant-loop-column
invariant-loop-column g l =
    record {
      sized : length l.list.items ≡ l._column;
      zeros : AreZeros g.F.ExactField.value l.list.items;
    }
