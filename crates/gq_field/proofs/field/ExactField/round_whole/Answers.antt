-- A rounded value fits.
use Rattle.std.proofs.Common.{◌∙◌, ap}
use Rattle.gq_number.specs.Number.{whole, rounded}
use Rattle.gq_field.specs.Fits.{fits}
use Rattle.gq_field.proofs.Roundings.{rounded_fits}
use Rattle.gq_field.proofs.field.ExactField.round_whole.Goals as goal

pub narrowed-requires : goal.narrowed-requires
narrowed-requires g c =
    ap (fits g.Self.ExactField.limit) (c.to_nearest.ensures ∙ ap (λ v. whole (rounded v)) c.widened.ensures) ∙ rounded_fits g.Self.ExactField.limit (g.Self.ExactField.value c.args.self) (g.met.Self.ExactField.within c.args.self)
