use Rattle.std.proofs.Common.{sym, ◌∙◌}
use Rattle.lp_core.proofs.Rays.{further_feasible, passes_below, passes_above}
use Rattle.lp_core.proofs.laws.unbounded_ray.Goals as goal

pub returns-clause-feasible : goal.returns-clause-feasible
returns-clause-feasible g c = λ lp levels row_levels ray t formed proof above. further_feasible g.F.ExactField.value lp levels ray t proof.feasible proof.along above

pub returns-clause-least : goal.returns-clause-least
returns-clause-least g c =
    λ lp levels row_levels ray goal formed proof least. passes_below g.F.ExactField.value lp levels ray goal (proof.along.sized ∙ sym proof.feasible.sized) proof.along least

pub returns-clause-greatest : goal.returns-clause-greatest
returns-clause-greatest g c =
    λ lp levels row_levels ray goal formed proof greatest. passes_above g.F.ExactField.value lp levels ray goal (proof.along.sized ∙ sym proof.feasible.sized) proof.along greatest
