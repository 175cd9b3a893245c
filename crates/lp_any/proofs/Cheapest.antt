-- The cheapest of the variables below a number.
use Rattle.std.proofs.Common.{◌≡◌, inl, inr, ℕ, ◌+◌, ◌<◌, ◌≤◌, Option, Some, None, sym, subst, arith}
use Rattle.std.proofs.lemmas.Bool.{cases_lt}
use Rattle.lp_core.specs.Dictionary.{Dictionary, Improves}
use Rattle.lp_any.specs.declared.costs.Candidate.{Candidate}
use Rattle.lp_any.specs.Costs.{IsCheaper, IsCheapest, IsTried}

module _ (Costs : Dictionary → ℕ → ℕ → Type 0) (d : Dictionary) where
  -- A candidate is the cheapest of those that improve below a number.
  pub record IsBest (i : ℕ) (b : Candidate) : Type 0 where
    pub below : b.variable < i
    pub improves : Improves d b.variable
    pub costs : Costs d b.variable b.cost
    pub least : (v : ℕ) → v < i → Improves d v → (n : ℕ) × Costs d v n × (b.cost ≤ n) × (b.cost ≡ n → b.variable ≤ v)

  abbrev Best : ℕ → Option Candidate → Type 0
  Best i None = (v : ℕ) → v < i → ¬ (Improves d v)
  Best i (Some b) = IsBest i b

  -- What is known after the variables below a number.
  pub record CheapestTo (i : ℕ) (best : Option Candidate) : Type 0 where
    pub is : Best i best

  pub begins : CheapestTo 0 None
  begins = record { is = λ v less. absurd (omega arith) }

  -- the variable i does not improve
  stays : (i : ℕ) → ¬ (Improves d i) → (best : Option Candidate) → CheapestTo i best → CheapestTo (i + 1) best
  stays i none None h =
      record { is = λ v less improves. elim (cases_lt v i) [ inl early ↦ h.is v early improves | inr late ↦ let same : v ≡ i = omega arith in none (subst (Improves d) same improves) ] }
  stays i none (Some b) h =
      let below = h.is.below in
      record {
        is = record {
          below = omega arith;
          improves = h.is.improves;
          costs = h.is.costs;
          least = λ v less improves. elim (cases_lt v i) [ inl early ↦ h.is.least v early improves | inr late ↦ let same : v ≡ i = omega arith in absurd (none (subst (Improves d) same improves)) ];
        };
      }

  module _ (i : ℕ) (other : Candidate) (at : other.variable ≡ i) (improves : Improves d other.variable) (costs : Costs d other.variable other.cost) where
    -- it is the first that improves
    alone : CheapestTo i None → IsBest (i + 1) other
    alone h =
        record {
          below = omega arith;
          improves = improves;
          costs = costs;
          least = λ v less better. elim (cases_lt v i) [
            | inl early ↦ absurd (h.is v early better)
            | inr late ↦ let same : other.variable ≡ v = omega arith in (other.cost, subst (λ w. Costs d w other.cost) same costs, omega arith, λ e. omega arith)
          ];
        }

    -- it costs less
    cheaper : (b : Candidate) → IsBest i b → other.cost < b.cost → IsBest (i + 1) other
    cheaper b h less =
        record {
          below = omega arith;
          improves = improves;
          costs = costs;
          least = λ v within better. elim (cases_lt v i) [
            | inl early ↦ let old = h.least v early better in let more = old.2 in (old.0, old.1, omega arith, λ e. absurd (omega arith))
            | inr late ↦ let same : other.variable ≡ v = omega arith in (other.cost, subst (λ w. Costs d w other.cost) same costs, omega arith, λ e. omega arith)
          ];
        }

    -- it does not
    dearer : (b : Candidate) → IsBest i b → b.cost ≤ other.cost → IsBest (i + 1) b
    dearer b h most =
        let below = h.below in
        record {
          below = omega arith;
          improves = h.improves;
          costs = h.costs;
          least = λ v within better. elim (cases_lt v i) [
            | inl early ↦ h.least v early better
            | inr late ↦ let same : other.variable ≡ v = omega arith in (other.cost, subst (λ w. Costs d w other.cost) same costs, most, λ e. omega arith)
          ];
        }

    of_better : (best : Option Candidate) (better : Candidate) → CheapestTo i best → IsCheaper best other better → IsBest (i + 1) better
    of_better None better h is = subst (IsBest (i + 1)) (sym is) (alone h)
    of_better (Some b) better h (inl old) = subst (IsBest (i + 1)) (sym old.1) (dearer b h.is old.0)
    of_better (Some b) better h (inr new) = subst (IsBest (i + 1)) (sym new.1) (cheaper b h.is new.0)

  pub goes : (i : ℕ) (best after : Option Candidate) → CheapestTo i best → IsTried Costs d i best after → CheapestTo (i + 1) after
  goes i best after h (inl stay) = subst (CheapestTo (i + 1)) (sym stay.1) (stays i stay.0 best h)
  goes i best after h (inr new) =
      let at = new.2 in
      let improves = subst (Improves d) (sym at) new.3 in
      let costs = subst (λ w. Costs d w new.0.cost) (sym at) new.4 in
      subst (CheapestTo (i + 1)) (sym new.6) (record { is = of_better i new.0 at improves costs best new.1 h new.5 })

  pub none_found : (i : ℕ) → d.variables < i → CheapestTo i None → (v : ℕ) → ¬ (Improves d v)
  none_found i all h v improves = let there = improves.there in h.is v (omega arith) improves

  pub some_found : (i : ℕ) (b : Candidate) → d.variables < i → CheapestTo i (Some b) → IsCheapest Costs d b.variable
  some_found i b all h =
      record {
        improves = h.is.improves;
        cost = b.cost;
        costs = h.is.costs;
        least = λ v improves. let there = improves.there in h.is.least v (omega arith) improves;
      }
