-- A rule that always picks still does so with the turn: wherever legal pivots lead, it is decidable
-- whether the search has turned.
use Rattle.std.proofs.Common.{◌≡◌, ℕ, ◌⊎◌, inl, inr, Bool, true, false, pos, List, [], ◌∷◌, ◌++◌, append_assoc, append-nil, refl, sym, subst, subst₂}
use Rattle.std.specs.Prelude.{◌==◌, ◌↔◌, IsTrue, not}
use Rattle.gq_number.specs.Number.{Number, whole}
use Rattle.gq_number.proofs.Order.{≤ℚ_or_above, ≤ℚ_antisymm, not_above, ≤ℚ_from_≡}
use Rattle.lp_core.specs.declared.answer.Pivot.{Pivot}
use Rattle.lp_core.specs.declared.answer.Rule.TheVariants.{Legal}
use Rattle.lp_core.specs.Dictionary.{Dictionary, constant_at, exchanged}
use Rattle.lp_core.specs.Pivots.{ByRule, Leads}
use Rattle.lp_core.specs.LargestCoefficient.{HasTurned}
use Rattle.lp_fraction_dict.specs.Pivots.{IsProper}
use Rattle.lp_fraction_dict.proofs.Proper.{proper_after}
use Rattle.lp_simplex.proofs.PivotSteps.{leaves_row}
use Rattle.lp_simplex.specs.Choices.{AlwaysChooses}
use Rattle.lp_simplex.proofs.Deciding.{least_or_none}
use Rattle.lp_simplex.proofs.Existing.{proper_there}
use Rattle.lp_simplex.specs.declared.turning.Count.{Count}
use Rattle.lp_simplex.specs.declared.turning.Count.TheVariants as counts
use Rattle.lp_simplex.specs.InnerCounting.{Remembers, after}
use Rattle.lp_simplex.specs.Turn.{IsNextBy, AlwaysPicks}
use Rattle.lp_simplex.proofs.Counted.{begins, noted}

-- whether a number is 0
zero_tells : (x : Number) → (b : Bool) × (IsTrue b ↔ (x ≡ whole (pos 0)))
zero_tells x =
    elim (≤ℚ_or_above x (whole (pos 0))) [
      | inr above ↦ (false, (λ t. absurd (cc), λ none. absurd (not_above x (whole (pos 0)) (≤ℚ_from_≡ x (whole (pos 0)) none) above)))
      | inl most ↦ elim (≤ℚ_or_above (whole (pos 0)) x) [
        | inl least ↦ (true, (λ t. ≤ℚ_antisymm x (whole (pos 0)) most least, λ none. refl))
        | inr below ↦ (false, (λ t. absurd (cc), λ none. absurd (not_above (whole (pos 0)) x (≤ℚ_from_≡ (whole (pos 0)) x (sym none)) below)))
      ]
    ]

-- what is remembered along legal pivots
remembered : (first : Dictionary) (done : List Pivot) (d : Dictionary) (pivots : List Pivot) (last : Dictionary) → Leads (ByRule Legal) done d pivots last → IsProper d → (s : Count) → Remembers s first done d → (new : Count) × Remembers new first (done ++ pivots) last
remembered first done d [] last way proper s h = (s, subst₂ (λ (l : List Pivot) (e : Dictionary). Remembers s first l e) (sym (append-nil done)) (sym way) h)
remembered first done d (p ∷ pivots) last way proper s h =
    let zero = zero_tells (constant_at d way.0) in
    let new : Count = after s (p.leave == 0) (not zero.0) d.variables in
    let one = noted first done d p way.0 proper (way.0, way.1) (leaves_row d p way.0 way.1) s new zero.0 (constant_at d way.0) refl zero.1 refl h in
    let all = remembered first (done ++ p ∷ []) (exchanged d p.enter way.0) pivots last way.2 (proper_after d p way.0 proper way.1) new one in
    (all.0, subst (λ (l : List Pivot). Remembers all.0 first l last) (append_assoc done (p ∷ []) pivots) all.1)

decided : (s : Count) (first : Dictionary) (pivots : List Pivot) (d : Dictionary) → Remembers s first pivots d → HasTurned first pivots d ⊎ ¬ (HasTurned first pivots d)
decided (counts.Still count) first pivots d h = inr h.not_turned
decided counts.Turned first pivots d h = inl h.1

pub always_chooses : (Picks : Dictionary → ℕ → Type 0) → AlwaysPicks Picks → AlwaysChooses (IsNextBy Picks)
always_chooses Picks picks first pivots d proper led some =
    let here = proper_there [] first pivots d proper led in
    let known = remembered first [] first pivots d led proper (counts.Still 0) (begins first) in
    elim (decided known.0 first pivots d known.1) [
      | inr not_turned ↦ let found = picks d here some in (found.0, inl (not_turned, found.1))
      | inl turned ↦ elim (least_or_none d here) [
        | inl found ↦ (found.0, inr (turned, (found.1, found.2)))
        | inr none ↦ absurd (none some.0 some.1)
      ]
    ]
