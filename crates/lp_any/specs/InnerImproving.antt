-- A rule that may pick any variable that improves.
use Rattle.std.specs.Prelude.{ℕ}
use Rattle.lp_core.specs.Dictionary.{Dictionary, Improves}

pub itself : (d : Dictionary) (q : ℕ) → Improves d q → Improves d q
itself d q improves = improves
