-- A divisor that is not 0 has a magnitude.
use Rattle.std.proofs.Common.{◌∙◌, sym}
use Rattle.gq_field.proofs.Signs.{zero_from_magnitude}
use Rattle.gq_field.proofs.field.ExactField.div.Goals as goal

pub quotient-requires-clause-divisor : goal.quotient-requires-clause-divisor
quotient-requires-clause-divisor g c = λ none. c.requires (sym c.widened-2.ensures ∙ zero_from_magnitude c.widened-2.result none)
