-- One more where the rest is at least half the denominator.
use Rattle.std.proofs.Common.{◌∙◌, ap}
use Rattle.gq_number.specs.Number.{whole}
use Rattle.gq_field.proofs.Roundings.{nearest_above, nearest_below}
use Rattle.gq_field.proofs.rounding.to_nearest.Goals as goal

pub returns-then-rest-x : goal.returns-then-rest-x
returns-then-rest-x c = c.whole.ensures ∙ ap whole (nearest_above c.args.x c.if-rest-x.true)

pub returns-else-rest-x : goal.returns-else-rest-x
returns-else-rest-x c = c.whole-else-rest-x.ensures ∙ ap whole (nearest_below c.args.x c.if-rest-x.false)
