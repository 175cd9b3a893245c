use Rattle.lp_nocycle.proofs.Doubled.{bound_below, bound_past}
use Rattle.lp_nocycle.proofs.sets.bound.Goals as goal

pub returns-then-variables-lt63 : goal.returns-then-variables-lt63
returns-then-variables-lt63 c = record { twice_sets = bound_below c.args.variables c.if-variables-lt63.true }

pub returns : goal.returns
returns c = record { twice_sets = bound_past c.args.variables c.if-variables-lt63.false }
