-- Runs of pivots as functions of the place: what a pivot does to the basic variables, and what a
-- run preserves.
use Rattle.std.proofs.Common.{◌≡◌, ◌≢◌, ℕ, zero, suc, ◌<◌, ◌≤◌, ◌⊎◌, inl, inr, length, Some, refl, sym, ap, ◌∙◌, subst, arith}
use Rattle.std.specs.Prelude.{slice_get, Contains}
use Rattle.lp_core.specs.declared.answer.Pivot.{Pivot}
use Rattle.lp_core.specs.declared.answer.Rule.TheVariants.{Bland}
use Rattle.lp_core.specs.Dictionary.{Dictionary, OpeningIsRequired, IsLegal, exchanged}
use Rattle.lp_core.specs.Pivots.{IsChosen, IsTaken}
use Rattle.lp_fraction_dict.specs.Pivots.{IsProper}
use Rattle.lp_fraction_dict.proofs.Kept.{contains_get}
use Rattle.lp_fraction_dict.proofs.Improving.{same_or_not}
use Rattle.lp_fraction_dict.proofs.Proper
use Rattle.lp_nocycle.proofs.Agreeing.{Agrees, agrees_itself, agrees_on, agrees_back, agrees_after}
use Rattle.lp_nocycle.proofs.Units.{some_is, place_of}

-- ---- deciding below a bound

-- some number below m is sent to v, or none is
pub some_below : (f : ℕ → ℕ) (v m : ℕ) → ((j : ℕ) × (j < m) × (f j ≡ v)) ⊎ ((j : ℕ) → j < m → f j ≢ v)
some_below f v zero = inr (λ j less. absurd (omega arith))
some_below f v (suc m) =
    elim (same_or_not (f m) v) [
      | inl here ↦ inl (m, omega arith, here)
      | inr other ↦ elim (some_below f v m) [
        | inl found ↦ let less = found.1 in inl (found.0, omega arith, found.2)
        | inr none ↦ inr (λ j less. elim (same_or_not j m) [ inl same ↦ λ is. other (ap f (sym same) ∙ is) | inr apart ↦ none j (omega arith) ])
      ]
    ]

-- the greatest below a bound that is not 0
pub greatest_below : (f : ℕ → ℕ) (m : ℕ) → (a : ℕ) × (a < suc m) × ((j : ℕ) → j < suc m → f j ≤ f a)
greatest_below f zero = (0, omega arith, λ j less. let same : f j ≡ f 0 = ap f (let h : j ≡ 0 = omega arith in h) in omega arith)
greatest_below f (suc m) =
    let rest = greatest_below f m in
    let within = rest.1 in
    elim (nat_le_or (f (suc m)) (f rest.0)) [
      | inl most ↦ (rest.0, omega arith, λ j less. elim (same_or_not j (suc m)) [ inl same ↦ (let is : f j ≡ f (suc m) = ap f same in omega arith) | inr other ↦ rest.2 j (omega arith) ])
      | inr more ↦ (suc m, omega arith, λ j less. elim (same_or_not j (suc m)) [ inl same ↦ (let is : f j ≡ f (suc m) = ap f same in omega arith) | inr other ↦ (let h = rest.2 j (omega arith) in omega arith) ])
    ]
  where
    nat_le_or : (x y : ℕ) → (x ≤ y) ⊎ (y < x)
    nat_le_or zero y = inl (omega arith)
    nat_le_or (suc x) zero = inr (omega arith)
    nat_le_or (suc x) (suc y) = elim (nat_le_or x y) [ inl h ↦ inl (omega arith) | inr h ↦ inr (omega arith) ]

-- ---- one exchange

module _ (d : Dictionary) (p : Pivot) (k : ℕ) (proper : IsProper d) (legal : IsLegal d p k) where
  -- a variable that is not basic and does not enter
  stays_out : (v : ℕ) → p.enter ≢ v → ¬ (Contains d.basic v) → ¬ (Contains (exchanged d p.enter k).basic v)
  stays_out v other none h =
      let at = place_of (exchanged d p.enter k).basic v h in
      elim (Proper.basic_after d p k proper legal at.0 v at.1) [ inl new ↦ other (sym new.1) | inr old ↦ none (contains_get d.basic at.0 v old.1) ]

  -- a variable that is basic in another row
  stays_there : (i v : ℕ) → k ≢ i → slice_get d.basic i ≡ Some v → slice_get (exchanged d p.enter k).basic i ≡ Some v
  stays_there i v other at = Proper.set_other d.basic k i p.enter (λ same. other (sym same)) ∙ at

  -- a basic variable that does not leave
  stays_in : (v : ℕ) → p.leave ≢ v → Contains d.basic v → Contains (exchanged d p.enter k).basic v
  stays_in v other h =
      let at = place_of d.basic v h in
      contains_get (exchanged d p.enter k).basic at.0 v (stays_there at.0 v (λ same. other (some_is p.leave v (sym (Proper.leaves_at d p k proper legal) ∙ ap (slice_get d.basic) same ∙ at.1))) at.1)

  has_entered : Contains (exchanged d p.enter k).basic p.enter
  has_entered = contains_get (exchanged d p.enter k).basic k p.enter (Proper.set_same d.basic k p.enter (Proper.place_within d p k proper legal))

  -- the variable that leaves is gone
  has_left : ¬ (Contains (exchanged d p.enter k).basic p.leave)
  has_left h =
      let at = place_of (exchanged d p.enter k).basic p.leave h in
      let leaves = Proper.leaves_at d p k proper legal in
      elim (Proper.basic_after d p k proper legal at.0 p.leave at.1) [
        | inl new ↦ Proper.enters_new d p k proper legal k p.leave leaves new.1
        | inr old ↦ old.0 (proper.distinct at.0 k p.leave old.1 leaves)
      ]

  not_yet_in : ¬ (Contains d.basic p.enter)
  not_yet_in h = let at = place_of d.basic p.enter h in Proper.enters_new d p k proper legal at.0 p.enter at.1 refl

-- ---- runs

-- A run of m pivots from a proper dictionary: each pivot is legal, each dictionary is the exchange
-- of the one before it, and `row j` is the row of the variable that leaves.
pub record IsRun (m : ℕ) (at : ℕ → Dictionary) (pivot : ℕ → Pivot) (row : ℕ → ℕ) : Type 0 where
  pub proper : IsProper (at 0)
  pub legal : (j : ℕ) → j < m → IsLegal (at j) (pivot j) (row j)
  pub next : (j : ℕ) → j < m → at (suc j) ≡ exchanged (at j) (pivot j).enter (row j)

-- each pivot of a run is Bland's
abbrev pub AreBlands : ℕ → (ℕ → Dictionary) → (ℕ → Pivot) → Type 0
AreBlands m at pivot = (j : ℕ) → j < m → IsTaken (IsChosen Bland (at j)) (at j) (pivot j)

-- what a step keeps holds from a place on
pub pivot_run : (P : ℕ → Type 0) (m : ℕ) → ((j : ℕ) → j < m → P j → P (suc j)) → (a b : ℕ) → a ≤ b → b ≤ m → P a → P b
pivot_run P m step a zero more within here = subst P (let h : a ≡ 0 = omega arith in h) here
pivot_run P m step a (suc b) more within here =
    elim (same_or_not a (suc b)) [
      | inl same ↦ subst P same here
      | inr other ↦ step b (omega arith) (pivot_run P m step a b (omega arith) (omega arith) here)
    ]

module _ (m : ℕ) (at : ℕ → Dictionary) (pivot : ℕ → Pivot) (row : ℕ → ℕ) (runs : IsRun m at pivot row) where
  pub proper_at : (j : ℕ) → j ≤ m → IsProper (at j)
  proper_at zero within = runs.proper
  proper_at (suc j) within = subst IsProper (sym (runs.next j (omega arith))) (Proper.proper_after (at j) (pivot j) (row j) (proper_at j (omega arith)) (runs.legal j (omega arith)))

  pub none_required_at : (j : ℕ) → j < m → ¬ (OpeningIsRequired (at (suc j)))
  none_required_at j less = subst (λ d. ¬ (OpeningIsRequired d)) (sym (runs.next j less)) (Proper.none_required (at j) (pivot j) (row j) (proper_at j (omega arith)) (runs.legal j less))

  pub out_at : (v j : ℕ) → j < m → (pivot j).enter ≢ v → ¬ (Contains (at j).basic v) → ¬ (Contains (at (suc j)).basic v)
  out_at v j less other none = subst (λ d. ¬ (Contains d.basic v)) (sym (runs.next j less)) (stays_out (at j) (pivot j) (row j) (proper_at j (omega arith)) (runs.legal j less) v other none)

  pub in_at : (v j : ℕ) → j < m → (pivot j).leave ≢ v → Contains (at j).basic v → Contains (at (suc j)).basic v
  in_at v j less other here = subst (λ d. Contains d.basic v) (sym (runs.next j less)) (stays_in (at j) (pivot j) (row j) (proper_at j (omega arith)) (runs.legal j less) v other here)

  pub there_at : (i v j : ℕ) → j < m → row j ≢ i → slice_get (at j).basic i ≡ Some v → slice_get (at (suc j)).basic i ≡ Some v
  there_at i v j less other here = subst (λ d. slice_get d.basic i ≡ Some v) (sym (runs.next j less)) (stays_there (at j) (pivot j) (row j) (proper_at j (omega arith)) (runs.legal j less) i v other here)

  pub entered_at : (j : ℕ) → j < m → Contains (at (suc j)).basic (pivot j).enter
  entered_at j less = subst (λ d. Contains d.basic (pivot j).enter) (sym (runs.next j less)) (has_entered (at j) (pivot j) (row j) (proper_at j (omega arith)) (runs.legal j less))

  pub left_at : (j : ℕ) → j < m → ¬ (Contains (at (suc j)).basic (pivot j).leave)
  left_at j less = subst (λ d. ¬ (Contains d.basic (pivot j).leave)) (sym (runs.next j less)) (has_left (at j) (pivot j) (row j) (proper_at j (omega arith)) (runs.legal j less))

  pub entering_at : (j : ℕ) → j < m → ¬ (Contains (at j).basic (pivot j).enter)
  entering_at j less = not_yet_in (at j) (pivot j) (row j) (proper_at j (omega arith)) (runs.legal j less)

  pub leaving_at : (j : ℕ) → j < m → slice_get (at j).basic (row j) ≡ Some (pivot j).leave
  leaving_at j less = Proper.leaves_at (at j) (pivot j) (row j) (proper_at j (omega arith)) (runs.legal j less)

  -- a variable that never enters stays out, one that never leaves stays in, and one whose row is
  -- never chosen keeps its row
  pub out_from : (v : ℕ) → ((j : ℕ) → j < m → (pivot j).enter ≢ v) → (a b : ℕ) → a ≤ b → b ≤ m → ¬ (Contains (at a).basic v) → ¬ (Contains (at b).basic v)
  out_from v never = pivot_run (λ j. ¬ (Contains (at j).basic v)) m (λ j less none. out_at v j less (never j less) none)

  pub in_from : (v : ℕ) → ((j : ℕ) → j < m → (pivot j).leave ≢ v) → (a b : ℕ) → a ≤ b → b ≤ m → Contains (at a).basic v → Contains (at b).basic v
  in_from v never = pivot_run (λ j. Contains (at j).basic v) m (λ j less here. in_at v j less (never j less) here)

  pub sized_from : (j : ℕ) → j ≤ m → length (at j).basic ≡ length (at 0).basic
  sized_from j within =
      pivot_run (λ j. length (at j).basic ≡ length (at 0).basic) m (λ j less same. ap (λ (d : Dictionary). length d.basic) (runs.next j less) ∙ Proper.same_size (at j) (pivot j) (row j) (proper_at j (omega arith)) (runs.legal j less) ∙ same) 0 j (omega arith) within refl

  -- where variable 0 never leaves all dictionaries agree
  pub agrees_from : ((j : ℕ) → j < m → (pivot j).leave ≢ 0) → (j : ℕ) → j ≤ m → Agrees (at 0) (at j)
  agrees_from never j within =
      pivot_run (λ j. Agrees (at 0) (at j)) m (λ j less agrees. agrees_on (at 0) (at j) (at (suc j)) agrees (subst (Agrees (at j)) (sym (runs.next j less)) (agrees_after (at j) (pivot j) (row j) (proper_at j (omega arith)) (runs.legal j less) (never j less)))) 0 j (omega arith) within (agrees_itself (at 0))

  pub agree : ((j : ℕ) → j < m → (pivot j).leave ≢ 0) → (a b : ℕ) → a ≤ m → b ≤ m → Agrees (at a) (at b)
  agree never a b within_a within_b = agrees_on (at a) (at 0) (at b) (agrees_back (at 0) (at a) (agrees_from never a within_a)) (agrees_from never b within_b)
