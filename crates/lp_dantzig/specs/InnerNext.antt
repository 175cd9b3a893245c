-- That what enters next improves.
use Rattle.std.proofs.Common.{ℕ, List, inl, inr}
use Rattle.lp_core.specs.declared.answer.Pivot.{Pivot}
use Rattle.lp_core.specs.Dictionary.{Dictionary, Improves}
use Rattle.lp_core.specs.LargestCoefficient.{IsNext}

pub next_improves : (first : Dictionary) (pivots : List Pivot) (d : Dictionary) (q : ℕ) → IsNext first pivots d q → Improves d q
next_improves first pivots d q (inl greatest) = greatest.1.improves
next_improves first pivots d q (inr turned) = turned.1.0
