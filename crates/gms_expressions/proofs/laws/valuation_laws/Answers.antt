-- A text that means a number means one.
use Rattle.gms_expressions.proofs.Valued.{number_in_is}
use Rattle.gms_expressions.proofs.laws.valuation_laws.Goals as goal

pub returns : goal.returns
returns c = number_in_is
