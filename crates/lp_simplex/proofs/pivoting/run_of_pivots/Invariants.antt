use Rattle.std.proofs.Common.{◌≡◌, length}
use Rattle.lp_dict.specs.Tableau.{dictionary}
use Rattle.lp_simplex.specs.InnerStates.{IsSoFar}
use Rattle.lp_simplex.proofs.pivoting.run_of_pivots.Given as goal

abbrev pub invariant-loop-taken : goal.invariant-loop-taken
invariant-loop-taken g l =
    record {
      so_far : IsSoFar g.F.ExactField.limit g.F.ExactField.value (g.C.Choosing.chooses (g.C.Choosing.rule l.fn.choice)) (g.C.Choosing.remembers l.choice (dictionary g.F.ExactField.value l.fn.first)) (dictionary g.F.ExactField.value l.fn.first) l.pivots.items l.dict;
      rule : g.C.Choosing.rule l.choice ≡ g.C.Choosing.rule l.fn.choice;
      count : length l.pivots.items ≡ l._taken;
    }
