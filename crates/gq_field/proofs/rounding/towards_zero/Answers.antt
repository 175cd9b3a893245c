-- The quotient of the magnitudes.
use Rattle.std.proofs.Common.{◌∙◌, ap}
use Rattle.gq_number.specs.Number.{whole}
use Rattle.gq_field.proofs.Roundings.{towards_zero_is}
use Rattle.gq_field.proofs.rounding.towards_zero.Goals as goal

pub returns : goal.returns
returns c = c.whole.ensures ∙ ap whole (towards_zero_is c.args.x)
