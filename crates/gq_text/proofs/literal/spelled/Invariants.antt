-- The number so far is that of the digits so far.
use Rattle.std.proofs.Common.{◌≡◌, ◌+◌, ◌*◌, ◌^◌, ◌<◌, take}
use Rattle.gq_text.specs.Numeral.{spelled}
use Rattle.gq_text.proofs.literal.spelled.Given as goal

abbrev pub invariant-loop-digit : goal.invariant-loop-digit
invariant-loop-digit l = (l.value ≡ l.prefix * 10 ^ l.digit-index + spelled (take l.digit-index l.digits)) × (l.value < 2 ^ 128)
