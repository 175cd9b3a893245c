-- A rounded value fits.
use Rattle.std.proofs.Common.{◌∙◌, ap}
use Rattle.gq_number.specs.Number.{whole, ceiling_of}
use Rattle.gq_field.specs.Fits.{fits}
use Rattle.gq_field.proofs.Roundings.{ceiling_fits}
use Rattle.gq_field.proofs.field.ExactField.ceil.Goals as goal

pub narrowed-requires : goal.narrowed-requires
narrowed-requires g c =
    ap (fits g.Self.ExactField.limit) (c.up.ensures ∙ ap (λ v. whole (ceiling_of v)) c.widened.ensures) ∙ ceiling_fits g.Self.ExactField.limit (g.Self.ExactField.value c.args.self) (g.met.Self.ExactField.within c.args.self)
