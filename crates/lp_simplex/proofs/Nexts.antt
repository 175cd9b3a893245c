-- What the rule picks is next while the turn has not come, and Bland's variable once it has.
use Rattle.std.proofs.Common.{ℕ, inl, inr, List, Option, Some, None}
use Rattle.std.specs.Prelude.{MatchOption}
use Rattle.lp_core.specs.declared.answer.Pivot.{Pivot}
use Rattle.lp_core.specs.declared.answer.Rule.TheVariants.{Bland}
use Rattle.lp_core.specs.Dictionary.{Dictionary, Improves}
use Rattle.lp_core.specs.Pivots.{IsChosen}
use Rattle.lp_core.specs.LargestCoefficient.{HasTurned}
use Rattle.lp_simplex.specs.Turn.{IsNextBy}

module _ (Picks : Dictionary → ℕ → Type 0) (improving : (d : Dictionary) (q : ℕ) → Picks d q → Improves d q) (d : Dictionary) (Known : Dictionary → List Pivot → Type 0) where
  pub next_by_pick : (r : Option ℕ) → MatchOption r ((v : ℕ) → ¬ (Improves d v)) (Picks d) → ((first : Dictionary) (pivots : List Pivot) → Known first pivots → ¬ (HasTurned first pivots d))
      → MatchOption r ((v : ℕ) → ¬ (Improves d v)) (λ q. Improves d q × ((first : Dictionary) (pivots : List Pivot) → Known first pivots → IsNextBy Picks first pivots d q))
  next_by_pick None h turned = h
  next_by_pick (Some q) h turned = (improving d q h, λ first pivots known. inl (turned first pivots known, h))

  pub next_by_least : (r : Option ℕ) → MatchOption r ((v : ℕ) → ¬ (Improves d v)) (IsChosen Bland d) → ((first : Dictionary) (pivots : List Pivot) → Known first pivots → HasTurned first pivots d)
      → MatchOption r ((v : ℕ) → ¬ (Improves d v)) (λ q. Improves d q × ((first : Dictionary) (pivots : List Pivot) → Known first pivots → IsNextBy Picks first pivots d q))
  next_by_least None h turned = h
  next_by_least (Some q) h turned = (h.0, λ first pivots known. inr (turned first pivots known, h))
