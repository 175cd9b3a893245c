-- A rounded value fits.
use Rattle.std.proofs.Common.{◌∙◌, ap}
use Rattle.gq_number.specs.Number.{whole, truncated}
use Rattle.gq_field.specs.Fits.{fits}
use Rattle.gq_field.proofs.Roundings.{truncated_fits}
use Rattle.gq_field.proofs.field.ExactField.trunc.Goals as goal

pub narrowed-requires : goal.narrowed-requires
narrowed-requires g c =
    ap (fits g.Self.ExactField.limit) (c.towards_zero.ensures ∙ ap (λ v. whole (truncated v)) c.widened.ensures) ∙ truncated_fits g.Self.ExactField.limit (g.Self.ExactField.value c.args.self) (g.met.Self.ExactField.within c.args.self)
