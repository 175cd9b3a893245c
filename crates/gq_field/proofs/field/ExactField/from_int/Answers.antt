-- A whole number within the limit fits.
use Rattle.std.proofs.Common.{arith, w64, SFits}
use Rattle.std.proofs.lemmas.Int.{to_z-of_z}
use Rattle.gq_field.proofs.Signs.{integer_fits}
use Rattle.gq_field.proofs.field.ExactField.from_int.Goals as goal

pub narrowed-requires : goal.narrowed-requires
narrowed-requires g c =
    let fits_n : SFits w64 c.args.n = c.ranges.n in
    integer_fits c.whole.result c.args.n c.unsigned_abs.result g.Self.ExactField.limit (simp to_z-of_z at c.whole.ensures) (simp to_z-of_z at c.unsigned_abs.ensures.value) c.requires (omega (arith, g.met.Self.ExactField.limit_range.0))
