use Rattle.std.proofs.Common.{◌∙◌, false, map, refl, ap}
use Rattle.lp_core.specs.StandardForm as form
use Rattle.lp_std.proofs.recovery.infeasible.Goals as goal

pub returns : goal.returns
returns g c = (
  c.in_ok-duals.ensures.0,
  (ap (map g.F.ExactField.value) c.new.ensures ∙ c.in_ok-duals.ensures.1 ∙ ap (λ n. map (form.directed false) (form.duals_from (form.multiplier n (map g.F.ExactField.value c.args.dict.now.costs)) 0 c.args.lp.now.rows)) c.requires.variables, refl),
)
