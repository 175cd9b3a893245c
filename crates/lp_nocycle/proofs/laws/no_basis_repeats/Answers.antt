use Rattle.lp_nocycle.proofs.Following.{none_repeats}
use Rattle.lp_nocycle.proofs.laws.no_basis_repeats.Goals as goal

pub returns : goal.returns
returns g c = record { none_repeats = none_repeats g.F.ExactField.value }
