-- Over one denominator the numerators decide.
use Rattle.std.proofs.Common.{◌∙◌}
use Rattle.gq_field.proofs.Compares.{cmp_over_same}
use Rattle.gq_field.proofs.compare.compare_magnitudes.Goals as goal

pub returns-then-b-d : goal.returns-then-b-d
returns-then-b-d c = c.cmp.ensures ∙ cmp_over_same c.args.a c.args.b c.args.c c.args.d c.requires.first c.if-b-d.true
