-- A variable that Bland's rule chooses improves.
use Rattle.std.specs.Prelude.{ℕ}
use Rattle.lp_core.specs.declared.answer.Rule.TheVariants.{Bland}
use Rattle.lp_core.specs.Dictionary.{Dictionary, Improves}
use Rattle.lp_core.specs.Pivots.{IsChosen}

pub least_improves : (d : Dictionary) (q : ℕ) → IsChosen Bland d q → Improves d q
least_improves d q chosen = chosen.0
