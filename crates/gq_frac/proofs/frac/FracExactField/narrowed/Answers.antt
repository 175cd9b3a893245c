-- The parts of a fraction that fits.
use Rattle.gq_field.proofs.Casts.{fitting, cast_once}
use Rattle.gq_frac.specs.Frac.{frac_value}
use Rattle.gq_frac.proofs.frac.FracExactField.narrowed.Goals as goal

pub invariant_of-result : goal.invariant_of-result
invariant_of-result c =
    record { parts = (fitting 127 c.args.fraction _ (cast_once c.args.fraction _ c.numerator.ensures) c.requires).parts }

pub returns : goal.returns
unfolding frac_value
returns c = (fitting 127 c.args.fraction _ (cast_once c.args.fraction _ c.numerator.ensures) c.requires).same _
