-- A negated value fits.
use Rattle.std.proofs.Common.{ap, ◌∙◌}
use Rattle.gq_number.specs.Number.{neg_ℚ}
use Rattle.gq_field.specs.Fits.{fits}
use Rattle.gq_field.proofs.Signs.{fits-neg}
use Rattle.gq_field.proofs.field.ExactField.neg.Goals as goal

pub narrowed-requires : goal.narrowed-requires
narrowed-requires g c =
    ap (fits g.Self.ExactField.limit) (c.negated.ensures ∙ ap neg_ℚ c.widened.ensures) ∙ fits-neg g.Self.ExactField.limit (g.Self.ExactField.value c.args.self) ∙ g.met.Self.ExactField.within c.args.self
