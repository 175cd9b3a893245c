-- The parts of a fraction that fits.
use Rattle.std.proofs.Common.{arith, w8}
use Rattle.gq_field.specs.Values.{tiny_value}
use Rattle.gq_field.proofs.Casts.{narrowed_fits}
use Rattle.gq_field.proofs.tiny.TinyExactField.narrowed.Goals as goal

pub overflow_cast-result-2 : goal.overflow_cast-result-2
overflow_cast-result-2 c =
    let parts = (narrowed_fits w8 c.args.fraction _ (omega arith) c.numerator.ensures c.requires).parts in
    record { fits = omega arith }

pub invariant_of-result : goal.invariant_of-result
invariant_of-result c = record { parts = (narrowed_fits w8 c.args.fraction _ (omega arith) c.numerator.ensures c.requires).parts }

pub returns : goal.returns
unfolding tiny_value
returns c = (narrowed_fits w8 c.args.fraction _ (omega arith) c.numerator.ensures c.requires).same _
