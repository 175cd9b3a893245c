use Rattle.std.proofs.Common.{refl}
use Rattle.lp_integer_rows.proofs.Putting.{forgotten_line}
use Rattle.lp_integer_rows.proofs.deferral.forget.Goals as goal

pub returns : goal.returns
returns c = forgotten_line c.args.line.now _ c.requires.line c.requires.within c.clear.ensures refl refl refl c.of-line.ensures
