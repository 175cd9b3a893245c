-- That what enters next improves, where what the rule picks does.
use Rattle.std.proofs.Common.{ℕ, List, inl, inr}
use Rattle.lp_core.specs.declared.answer.Pivot.{Pivot}
use Rattle.lp_core.specs.Dictionary.{Dictionary, Improves}
use Rattle.lp_simplex.specs.Turn.{IsNextBy}

pub next_improves : (Picks : Dictionary → ℕ → Type 0) → ((d : Dictionary) (q : ℕ) → Picks d q → Improves d q) → (first : Dictionary) (pivots : List Pivot) (d : Dictionary) (q : ℕ) → IsNextBy Picks first pivots d q → Improves d q
next_improves Picks improving first pivots d q (inl picked) = improving d q picked.1
next_improves Picks improving first pivots d q (inr turned) = turned.1.0
