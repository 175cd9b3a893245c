use Rattle.std.proofs.Common.{◌≡◌, length, map}
use Rattle.lp_core.specs.Sums.{value_of_column}
use Rattle.lp_check.specs.Partials.{costs_of}
use Rattle.lp_check.proofs.Reduced.{Lessening}
use Rattle.lp_check.proofs.costs.all_reduced_costs.Given as goal

abbrev pub invariant-loop-i : goal.invariant-loop-i
invariant-loop-i g l =
    record {
      sized : length l.costs.items ≡ l.count;
      going : Lessening g.F.ExactField.value g.F.ExactField.limit (costs_of l.fn.objective) l.rows (map g.F.ExactField.value l.duals) l.i (value_of_column (map g.F.ExactField.value l.costs.items));
    }
