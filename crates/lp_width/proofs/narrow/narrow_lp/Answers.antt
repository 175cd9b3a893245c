use Rattle.std.proofs.Common.{sym}
use Rattle.gq_field.specs.Values.{half_value}
use Rattle.gq_frac.specs.Frac.{frac_value}
use Rattle.lp_width.proofs.Programs.{well_formed_same}
use Rattle.lp_width.proofs.narrow.narrow_lp.Goals as goal

pub returns-in-Ok-clause-well_formed : goal.returns-in-Ok-clause-well_formed
returns-in-Ok-clause-well_formed c = well_formed_same frac_value half_value c.args.lp.now c.in-Ok.narrow (sym c.in-Ok.ensures.0)
