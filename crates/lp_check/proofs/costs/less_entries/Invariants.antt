use Rattle.std.proofs.Common.{◌≡◌, length, map, take}
use Rattle.lp_core.specs.Sums.{value_of_column}
use Rattle.lp_check.specs.BoundSteps.{entry_of}
use Rattle.lp_check.specs.Partials.{Lessened}
use Rattle.lp_check.proofs.costs.less_entries.Given as goal

abbrev pub invariant-loop-entry : goal.invariant-loop-entry
invariant-loop-entry g l =
    record {
      sized : length l.costs ≡ length l.fn.costs;
      less : Lessened g.F.ExactField.limit (g.F.ExactField.value l.factor) (entry_of g.F.ExactField.value (take l.entry-index l.entries)) (value_of_column (map g.F.ExactField.value l.fn.costs)) (value_of_column (map g.F.ExactField.value l.costs));
    }
