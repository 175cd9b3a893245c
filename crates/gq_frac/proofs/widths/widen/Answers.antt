-- What fits over 63 bits fits over 127.
use Rattle.std.proofs.Common.{◌∙◌, ◌-◌, ◌^◌, ap, arith}
use Rattle.gq_field.specs.Fits.{fits}
use Rattle.gq_field.specs.Values.{half_value}
use Rattle.gq_field.specs.FieldLaws.{half_within}
use Rattle.gq_frac.proofs.Steps.{fits_more}
use Rattle.gq_frac.proofs.widths.widen.Goals as goal

pub narrowed-requires : goal.narrowed-requires
narrowed-requires c =
    ap (fits (2 ^ 127 - 1)) c.widened.ensures ∙ fits_more (2 ^ 63 - 1) (2 ^ 127 - 1) (half_value c.args.h) (omega arith) (half_within c.args.h)
