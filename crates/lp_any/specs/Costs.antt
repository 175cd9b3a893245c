-- The variable that a rule picks by costs: the cheapest of those that improve.
use Rattle.std.specs.Prelude.{◌≡◌, ◌⊎◌, ℕ, ◌<◌, ◌≤◌, Option, Some, None}
use Rattle.lp_core.specs.Dictionary.{Dictionary, Improves}
use Rattle.lp_any.specs.declared.costs.Candidate.{Candidate}

-- Variable q is the cheapest at the dictionary d: it improves and has the cost `cost`. Each
-- improving variable v has a cost that is not less; if that cost is equal, q is at most v.
-- `Costs d v n` says that n is a cost of v at d.
pub record IsCheapest (Costs : Dictionary → ℕ → ℕ → Type 0) (d : Dictionary) (q : ℕ) : Type 0 where
  pub improves : Improves d q
  pub cost : ℕ
  pub costs : Costs d q cost
  pub least : (v : ℕ) → Improves d v → (n : ℕ) × Costs d v n × (cost ≤ n) × (cost ≡ n → q ≤ v)

pub cheapest_improves : (Costs : Dictionary → ℕ → ℕ → Type 0) (d : Dictionary) (q : ℕ) → IsCheapest Costs d q → Improves d q
cheapest_improves Costs d q cheapest = cheapest.improves

-- `better` is whichever costs less, `other` or the best candidate so far; the best so far if both
-- cost the same, and `other` if there is none so far
abbrev pub IsCheaper : Option Candidate → Candidate → Candidate → Type 0
IsCheaper None other better = better ≡ other
IsCheaper (Some best) other better = ((best.cost ≤ other.cost) × (better ≡ best)) ⊎ ((other.cost < best.cost) × (better ≡ other))

-- the best candidate after variable v is tried: the best so far if v does not improve, else the
-- cheaper of that and v
abbrev pub IsTried : (Dictionary → ℕ → ℕ → Type 0) → Dictionary → ℕ → Option Candidate → Option Candidate → Type 0
IsTried Costs d v best after =
    (¬ (Improves d v) × (after ≡ best))
    ⊎ ((other better : Candidate) × (other.variable ≡ v) × Improves d v × Costs d v other.cost × IsCheaper best other better × (after ≡ Some better))
