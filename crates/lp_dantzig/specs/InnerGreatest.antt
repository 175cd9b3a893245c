-- That the variable with the greatest coefficient improves.
use Rattle.std.specs.Prelude.{ℕ}
use Rattle.lp_core.specs.Dictionary.{Dictionary, Improves}
use Rattle.lp_core.specs.LargestCoefficient.{HasGreatest}

pub greatest_improves : (d : Dictionary) (q : ℕ) → HasGreatest d q → Improves d q
greatest_improves d q greatest = greatest.improves
