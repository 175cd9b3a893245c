-- What a pivot answers, by the row of the variable that leaves.
use Rattle.std.proofs.Common.{◌≡◌, ℕ, ◌+◌, ◌≤◌, inr, List, length, Some, Result, Ok, Err, ap, ◌∙◌, subst}
use Rattle.std.specs.Prelude.{slice_get, Contains, IfOk, IfErr}
use Rattle.lp_core.specs.declared.answer.Pivot.{Pivot}
use Rattle.lp_core.specs.Dictionary.{IsLegal, exchanged}
use Rattle.lp_core.specs.Steps.{AllFit, exchange_steps}
use Rattle.lp_fraction_dict.proofs.Proper.{leaves_at}
use Rattle.lp_fraction_dict.proofs.Kept.{contains_get}
use Rattle.lp_integer_dict.specs.Pairs.{ArePairsFit, IsSomePairCrowded}
use Rattle.lp_integer_dict.specs.Whole.{WholeTableau, integer_dictionary, IsWhole, AreCrowded, IsPivotCrowded, IsPivoted}
use Rattle.lp_integer_dict.proofs.Pairing.{steps_fit}
use Rattle.lp_integer_rows.proofs.Plans.{get_within}
use Rattle.lp_integer_dict.proofs.Pivoting.{pivot_there}

module _ (t : WholeTableau) (w : IsWhole t) (p : Pivot) (legal : (k : ℕ) × IsLegal (integer_dictionary t) p k) where
  leaves : slice_get t.basic legal.0 ≡ Some p.leave
  leaves = leaves_at (integer_dictionary t) p legal.0 w.proper legal.1

  pub must_be : ¬ (Contains t.basic p.leave) → ⊥
  must_be none = none (contains_get t.basic legal.0 p.leave leaves)

  pub legal_at : (place : ℕ) → slice_get t.basic place ≡ Some p.leave → IsLegal (integer_dictionary t) p place
  legal_at place at = subst (IsLegal (integer_dictionary t) p) (w.proper.distinct legal.0 place p.leave leaves at) legal.1

  pub fits_at : (place : ℕ) → slice_get t.basic place ≡ Some p.leave → ArePairsFit t.lines t.deferred place (p.enter + 1) t.bound (length t.lines) → (limit pivot k : ℕ) → t.bound ≤ limit → slice_get t.basic k ≡ Some p.leave → AllFit (exchange_steps limit pivot (integer_dictionary t) p.enter k)
  fits_at place there h limit pivot k within_bound at =
      let same : place ≡ k = w.proper.distinct place k p.leave there at in
      steps_fit t w p.enter k (get_within t.basic k p.leave at) (pivot_there t w p k (legal_at k at))
      (subst (λ j. ArePairsFit t.lines t.deferred j (p.enter + 1) t.bound (length t.lines)) same h) limit pivot within_bound

  pub exchanged_at : (place : ℕ) → slice_get t.basic place ≡ Some p.leave → (r : Result WholeTableau WholeTableau) → IsPivoted t p place r → IfOk r (λ after. (k : ℕ) → slice_get t.basic k ≡ Some p.leave → integer_dictionary after ≡ exchanged (integer_dictionary t) p.enter k)
  exchanged_at place at (Ok after) h = λ k there. h.0.0 ∙ ap (exchanged (integer_dictionary t) p.enter) (w.proper.distinct place k p.leave at there)
  exchanged_at place at (Err same) h = tt

  pub crowded_at : (place : ℕ) → slice_get t.basic place ≡ Some p.leave → IsSomePairCrowded t.lines t.deferred place (p.enter + 1) t.bound → (k : ℕ) → slice_get t.basic k ≡ Some p.leave → IsSomePairCrowded t.lines t.deferred k (p.enter + 1) t.bound
  crowded_at place there h k at = subst (λ j. IsSomePairCrowded t.lines t.deferred j (p.enter + 1) t.bound) (w.proper.distinct place k p.leave there at) h

  crowded_in : (place : ℕ) → slice_get t.basic place ≡ Some p.leave → (r : Result WholeTableau WholeTableau) → IfErr r (λ same. (integer_dictionary same ≡ integer_dictionary t) × (same.bound ≡ t.bound) × AreCrowded same p place) → IfErr r (λ same. (k : ℕ) → slice_get t.basic k ≡ Some p.leave → AreCrowded same p k)
  crowded_in place at (Ok after) h = tt
  crowded_in place at (Err same) h = λ k there. subst (AreCrowded same p) (w.proper.distinct place k p.leave at there) h.2

  pub cause_at : (place : ℕ) → slice_get t.basic place ≡ Some p.leave → (r : Result WholeTableau WholeTableau) → IsPivoted t p place r → IfErr r (λ same. (k : ℕ) → slice_get t.basic k ≡ Some p.leave → AreCrowded same p k)
  cause_at place at r h = crowded_in place at r h.1

pub bound_at : (t : WholeTableau) (p : Pivot) (place : ℕ) (r : Result WholeTableau WholeTableau) → IsPivoted t p place r → IfOk r (λ after. after.bound ≡ t.bound)
bound_at t p place (Ok after) h = h.0.1
bound_at t p place (Err same) h = tt

pub same_at : (t : WholeTableau) (p : Pivot) (place : ℕ) (r : Result WholeTableau WholeTableau) → IsPivoted t p place r → IfErr r (λ same. (integer_dictionary same ≡ integer_dictionary t) × (same.bound ≡ t.bound))
same_at t p place r h = without r h.1
  where
    without : (r : Result WholeTableau WholeTableau) → IfErr r (λ same. (integer_dictionary same ≡ integer_dictionary t) × (same.bound ≡ t.bound) × AreCrowded same p place) → IfErr r (λ same. (integer_dictionary same ≡ integer_dictionary t) × (same.bound ≡ t.bound))
    without (Ok after) h = tt
    without (Err same) h = (h.0, h.1)

pub pivot_crowded : {E : Type 0} (basic : List ℕ) (p : Pivot) (r : Result (Result WholeTableau WholeTableau) E) → IfOk r (λ s. IfErr s (λ same. (k : ℕ) → slice_get basic k ≡ Some p.leave → AreCrowded same p k)) → IfOk r (λ s. IfErr s (λ same. (k : ℕ) → slice_get basic k ≡ Some p.leave → IsPivotCrowded same p k))
pivot_crowded basic p (Ok (Ok after)) h = tt
pivot_crowded basic p (Ok (Err same)) h = λ k at. inr (h k at)
pivot_crowded basic p (Err e) h = tt
