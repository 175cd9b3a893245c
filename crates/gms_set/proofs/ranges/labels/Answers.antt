use Rattle.std.proofs.Common.{string_bytes}
use Rattle.gms_set.proofs.Numbers.{one-label}
use Rattle.gms_set.proofs.ranges.labels.Goals as goal

-- src/ranges.rt:66:5
pub loop-place-preserved : goal.loop-place-preserved
loop-place-preserved c = one-label string_bytes c.args.from.now c.parts.result.0.now c.parts.result.1.now c.width-width.result c.args.first c.loop-place.place c.loop-place.labels.items c.push.new.self.items c.in_ok-label.field-0 c.in_ok-push.ensures.items c.loop-place.invariant c.in_ok-label.ensures c.parts.ensures.text c.parts.ensures.digits c.width-width.ensures
