-- Below 0 the quotient of one less, and one.
use Rattle.std.proofs.Common.{◌∙◌, ap, sym}
use Rattle.gq_number.specs.Number.{whole}
use Rattle.gq_field.proofs.Roundings.{down_if_negative, down_if_not}
use Rattle.gq_field.proofs.rounding.down.Goals as goal

pub returns-then-is_negative : goal.returns-then-is_negative
returns-then-is_negative c = c.whole.ensures ∙ ap whole (down_if_negative c.args.x (sym c.if-is_negative.ensures))

pub returns-else-is_negative : goal.returns-else-is_negative
returns-else-is_negative c = c.whole-else-is_negative.ensures ∙ ap whole (down_if_not c.args.x (sym c.if-is_negative.ensures))
