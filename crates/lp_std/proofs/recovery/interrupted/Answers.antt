use Rattle.std.proofs.Common.{◌∙◌, map, refl, ap}
use Rattle.lp_std.proofs.recovery.interrupted.Goals as goal

pub returns : goal.returns
returns g c = (
  c.in_ok-point.ensures.all_fit,
  (refl, ap (map g.F.ExactField.value) c.new.ensures ∙ c.in_ok-point.ensures.levels, ap (map g.F.ExactField.value) c.new-2.ensures ∙ c.in_ok-point.ensures.row_levels),
)
