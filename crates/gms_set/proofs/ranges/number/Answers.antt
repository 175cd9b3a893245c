use Rattle.std.proofs.Common.{sym}
use Rattle.gms_set.proofs.Numbers.{number-from}
use Rattle.gms_set.proofs.ranges.number.Goals as goal

-- src/ranges.rt:86:1
pub returns : goal.returns
returns c = number-from c.args.label.now c.parts.result.1.now c.parse.result c.parts.ensures.digits c.parts.ensures.decimal (sym c.if-is_empty.ensures) c.if-digits-gt-MOST_DIGITS.false c.parse.ensures.value.0 c.ok.result c.ok.ensures.value
