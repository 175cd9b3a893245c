use Rattle.std.proofs.Common.{◌≢◌, true, false, map, None, sym, ◌∙◌, subst}
use Rattle.lp_check.specs.BoundSteps.{objective_bound}
use Rattle.gms_tests.proofs.Bounds.{bound_there}
use Rattle.gms_tests.proofs.programs.bound_by_two.Goals as goal

pub dual_bound-requires-clause-there : goal.dual_bound-requires-clause-there
dual_bound-requires-clause-there g c =
    subst (λ duals. objective_bound g.F.ExactField.value true (record { columns = c.one_of-2.result; rows = c.one_of-3.result; objective = 0; maximize = false }) (map g.F.ExactField.value duals) ≢ None) (sym (c.as_slice.ensures ∙ c.one_of-duals.ensures))
    (bound_there g.F.ExactField.value c.key.result c.key-2.result c.number-zero.result c.number-right.result c.number-hundred.result c.number-two.result c.number-hundred.ensures c.number-two.ensures c.one_of.result c.one_of-2.result c.one_of-3.result c.one_of.ensures c.one_of-2.ensures c.one_of-3.ensures)
