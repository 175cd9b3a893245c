-- That a point and a ray give feasible points without end, and that crossed bounds leave none.
use Rattle.std.proofs.Common.{◌≡◌, ℕ, zero, suc, ◌+◌, ◌<◌, Bool, true, false, pos, List, [], ◌∷◌, length, get_or, slice_get, Option, Some, None, inl, inr, sym, ap, ap₂, ◌∙◌, subst, arith}
use Rattle.std.specs.List.{enumerate_from}
use Rattle.gq_number.specs.Number.{Number, whole, ◌+ℚ◌, ◌-ℚ◌, ◌*ℚ◌, ◌/ℚ◌, neg_ℚ}
use Rattle.gq_number.specs.Order.{◌≤ℚ◌, ◌<ℚ◌}
use Rattle.gq_number.specs.Sums.{scaled, added}
use Rattle.gq_number.proofs.Ring.{ring_ℚ, *ℚ-zero}
use Rattle.gq_number.proofs.Field.{+ℚ-zero}
use Rattle.gq_number.proofs.Order
use Rattle.gq_number.proofs.Signs.{neg-zero-<ℚ, *ℚ-zero-≤ℚ, *ℚ-≤ℚ_left, /ℚ-zero-≤ℚ, ≢-zero_above}
use Rattle.gq_number.proofs.Quotients.{/ℚ-*ℚ_self}
use Rattle.gq_number.proofs.Linear.{≤ℚ_from}
use Rattle.gq_number.proofs.Sums.{sum_by_ℚ-+ℚ, sum_by_ℚ-*ℚ, scaled-nil, scaled-cons, added-nil, added-cons}
use Rattle.lp_core.specs.declared.program.Sense.{Sense}
use Rattle.lp_core.specs.declared.program.Sense.TheVariants as sense
use Rattle.lp_core.specs.declared.program.Lp.{Lp}
use Rattle.lp_core.specs.Sums.{value_of_column, row_sum}
use Rattle.lp_core.specs.Feasible.{KeepsLower, KeepsUpper, KeepsSense, KeepsBounds, bound_value, Feasible}
use Rattle.lp_core.specs.Proofs.{KeepsSenseAlong, KeepsLowerAlong, KeepsUpperAlong, ImprovesObjective, IsRay, Crosses, ProvesCrossed, further}
use Rattle.lp_core.proofs.RowSums.{sum_by_same}

-- ---- points along a ray

length-further : (levels ray : List Number) (t : Number) → length ray ≡ length levels → length (further levels t ray) ≡ length levels
length-further [] [] t e = ap length (added-nil (scaled t []) ∙ scaled-nil t)
length-further [] (r ∷ ray) t e = absurd (omega arith)
length-further (l ∷ levels) [] t e = absurd (omega arith)
length-further (l ∷ levels) (r ∷ ray) t e =
    ap length (ap (added (l ∷ levels)) (scaled-cons t r ray) ∙ added-cons l levels (t *ℚ r) (scaled t ray)) ∙ ap suc (length-further levels ray t (omega arith))

-- the value of a column there
pub number_of-further : (levels ray : List Number) (t : Number) (j : ℕ) → length ray ≡ length levels → value_of_column (further levels t ray) j ≡ value_of_column levels j +ℚ t *ℚ value_of_column ray j
number_of-further [] [] t j e =
    ap (λ xs. value_of_column xs j) (added-nil (scaled t []) ∙ scaled-nil t) ∙ sym (ap (λ u. whole (pos 0) +ℚ u) (*ℚ-zero t) ∙ +ℚ-zero (whole (pos 0)))
number_of-further [] (r ∷ ray) t j e = absurd (omega arith)
number_of-further (l ∷ levels) [] t j e = absurd (omega arith)
number_of-further (l ∷ levels) (r ∷ ray) t zero e = ap (λ xs. value_of_column xs 0) (ap (added (l ∷ levels)) (scaled-cons t r ray) ∙ added-cons l levels (t *ℚ r) (scaled t ray))
number_of-further (l ∷ levels) (r ∷ ray) t (suc j) e =
    ap (λ xs. value_of_column xs (suc j)) (ap (added (l ∷ levels)) (scaled-cons t r ray) ∙ added-cons l levels (t *ℚ r) (scaled t ray)) ∙ number_of-further levels ray t j (omega arith)

apart_of : (a x t r : Number) → a *ℚ (x +ℚ t *ℚ r) ≡ a *ℚ x +ℚ t *ℚ (a *ℚ r)
apart_of a x t r = simp ring_ℚ

-- the sum of a row there
row_sum-further : {F : Type 0} (value : F → Number) (entries : List (ℕ × F)) (levels ray : List Number) (t : Number) → length ray ≡ length levels → row_sum value entries (further levels t ray) ≡ row_sum value entries levels +ℚ t *ℚ row_sum value entries ray
row_sum-further {F} value entries levels ray t e =
    sum_by_same (λ (p : ℕ × F). value p.1 *ℚ value_of_column (further levels t ray) p.0) (λ (p : ℕ × F). value p.1 *ℚ value_of_column levels p.0 +ℚ t *ℚ (value p.1 *ℚ value_of_column ray p.0)) entries
    (λ p. ap (λ u. value p.1 *ℚ u) (number_of-further levels ray t p.0 e) ∙ apart_of (value p.1) (value_of_column levels p.0) t (value_of_column ray p.0))
    ∙ sum_by_ℚ-+ℚ (λ (p : ℕ × F). value p.1 *ℚ value_of_column levels p.0) (λ (p : ℕ × F). t *ℚ (value p.1 *ℚ value_of_column ray p.0)) entries
    ∙ ap (λ u. row_sum value entries levels +ℚ u) (sum_by_ℚ-*ℚ t (λ (p : ℕ × F). value p.1 *ℚ value_of_column ray p.0) entries)

module _ (t : Number) (above : whole (pos 0) ≤ℚ t) where
  rises : (b x r : Number) → b ≤ℚ x → whole (pos 0) ≤ℚ r → b ≤ℚ x +ℚ t *ℚ r
  rises b x r h k = ≤ℚ_from (Order.+ℚ-≤ℚ b x (whole (pos 0)) (t *ℚ r) h (*ℚ-zero-≤ℚ t r above k)) (simp ring_ℚ)

  falls : (b x r : Number) → x ≤ℚ b → r ≤ℚ whole (pos 0) → x +ℚ t *ℚ r ≤ℚ b
  falls b x r h k = ≤ℚ_from (Order.+ℚ-≤ℚ x b (t *ℚ r) (t *ℚ whole (pos 0)) h (*ℚ-≤ℚ_left r (whole (pos 0)) t above k)) (simp ring_ℚ)

  lower_kept : {F : Type 0} (value : F → Number) (bound : Option F) (x r : Number) → KeepsLower (bound_value value bound) x → KeepsLowerAlong bound r → KeepsLower (bound_value value bound) (x +ℚ t *ℚ r)
  lower_kept value None x r h k = tt
  lower_kept value (Some b) x r h k = rises (value b) x r h k

  upper_kept : {F : Type 0} (value : F → Number) (bound : Option F) (x r : Number) → KeepsUpper (bound_value value bound) x → KeepsUpperAlong bound r → KeepsUpper (bound_value value bound) (x +ℚ t *ℚ r)
  upper_kept value None x r h k = tt
  upper_kept value (Some b) x r h k = falls (value b) x r h k

  sense_kept : (s : Sense) (sum right change : Number) → KeepsSense s sum right → KeepsSenseAlong s change → KeepsSense s (sum +ℚ t *ℚ change) right
  sense_kept sense.E sum right change h k = ap (λ u. sum +ℚ t *ℚ u) k ∙ ap (λ u. sum +ℚ u) (*ℚ-zero t) ∙ +ℚ-zero sum ∙ h
  sense_kept sense.L sum right change h k = falls right sum change h k
  sense_kept sense.G sum right change h k = rises right sum change h k
  sense_kept sense.N sum right change h k = tt

module _ {F : Type 0} (value : F → Number) (lp : Lp F) (levels ray : List Number) (t : Number) where
  -- each multiple of the ray leads from a feasible point to one
  pub further_feasible : Feasible value lp levels → IsRay value lp ray → whole (pos 0) ≤ℚ t → Feasible value lp (further levels t ray)
  further_feasible feasible along above =
      let same : length ray ≡ length levels = along.sized ∙ sym feasible.sized in
      record {
        sized = length-further levels ray t same ∙ feasible.sized;
        bounds = λ k d h.
            let kept = feasible.bounds k d h in
            let p = get_or (enumerate_from 0 lp.columns) k d in
            let is = sym (number_of-further levels ray t p.0 same) in
            (subst (KeepsLower (bound_value value p.1.lower)) is (lower_kept t above value p.1.lower (value_of_column levels p.0) (value_of_column ray p.0) kept.0 (along.lower k d h)), subst (KeepsUpper (bound_value value p.1.upper)) is (upper_kept t above value p.1.upper (value_of_column levels p.0) (value_of_column ray p.0) kept.1 (along.upper k d h)));
        rows = λ k d h.
            let row = get_or lp.rows k d in
            subst (λ u. KeepsSense row.sense u (value row.right)) (sym (row_sum-further value row.entries levels ray t same)) (sense_kept t above row.sense (row_sum value row.entries levels) (value row.right) (row_sum value row.entries ray) (feasible.rows k d h) (along.rows k d h));
      }

-- ---- past every goal

-- how far to go so that a number that changes passes a goal: the way over the change, and not back
module _ (from change goal : Number) where
  distance_up : whole (pos 0) <ℚ change → (t : Number) × (whole (pos 0) ≤ℚ t) × (goal ≤ℚ from +ℚ t *ℚ change)
  distance_up rising =
      elim (Order.≤ℚ_or_above goal from) [
        | inl there ↦ (whole (pos 0), Order.≤ℚ_refl (whole (pos 0)), ≤ℚ_from there (simp ring_ℚ))
        | inr below ↦
            let t = (goal -ℚ from) /ℚ change in
            let reached : t *ℚ change ≡ goal -ℚ from = /ℚ-*ℚ_self (goal -ℚ from) change (≢-zero_above change rising) in
            (t, /ℚ-zero-≤ℚ (goal -ℚ from) change (Order.gap_≤ℚ from goal (Order.≤ℚ_from_<ℚ from goal below)) (Order.≤ℚ_from_<ℚ (whole (pos 0)) change rising), Order.≤ℚ_from_≡ goal (from +ℚ t *ℚ change) (sym (ap (λ u. from +ℚ u) reached ∙ there_again from goal)))
      ]
    where
      there_again : (a b : Number) → a +ℚ (b -ℚ a) ≡ b
      there_again a b = simp ring_ℚ

distance_down : (from change goal : Number) → change <ℚ whole (pos 0) → (t : Number) × (whole (pos 0) ≤ℚ t) × (from +ℚ t *ℚ change ≤ℚ goal)
distance_down from change goal falling =
    let up = distance_up (neg_ℚ from) (neg_ℚ change) (neg_ℚ goal) (neg-zero-<ℚ change falling) in
    (up.0, up.1, ≤ℚ_from up.2 (simp ring_ℚ))

improves_up : (b : Bool) (change : Number) → b ≡ true → ImprovesObjective b change → whole (pos 0) <ℚ change
improves_up true change e h = h
improves_up false change e h = absurd (cc)

improves_down : (b : Bool) (change : Number) → b ≡ false → ImprovesObjective b change → change <ℚ whole (pos 0)
improves_down true change e h = absurd (cc)
improves_down false change e h = h

module _ {F : Type 0} (value : F → Number) (lp : Lp F) (levels ray : List Number) (goal : Number) (same : length ray ≡ length levels) where
  pub passes_above : IsRay value lp ray → lp.maximize ≡ true → (t : Number) × (whole (pos 0) ≤ℚ t) × (goal ≤ℚ value_of_column (further levels t ray) lp.objective)
  passes_above along greatest =
      let up = distance_up (value_of_column levels lp.objective) (value_of_column ray lp.objective) goal (improves_up lp.maximize (value_of_column ray lp.objective) greatest along.better) in
      (up.0, up.1, subst (λ u. goal ≤ℚ u) (sym (number_of-further levels ray up.0 lp.objective same)) up.2)

  pub passes_below : IsRay value lp ray → lp.maximize ≡ false → (t : Number) × (whole (pos 0) ≤ℚ t) × (value_of_column (further levels t ray) lp.objective ≤ℚ goal)
  passes_below along least =
      let down = distance_down (value_of_column levels lp.objective) (value_of_column ray lp.objective) goal (improves_down lp.maximize (value_of_column ray lp.objective) least along.better) in
      (down.0, down.1, subst (λ u. u ≤ℚ goal) (sym (number_of-further levels ray down.0 lp.objective same)) down.2)

-- ---- crossed bounds

-- an element with its place
enumerate_at : {X : Type 0} (n : ℕ) (xs : List X) (j : ℕ) (x : X) (d : ℕ × X) → slice_get xs j ≡ Some x → (j < length (enumerate_from n xs)) × (get_or (enumerate_from n xs) j d ≡ (n + j, x))
enumerate_at {X} n [] j x d e = absurd (cc)
enumerate_at {X} n (y ∷ ys) zero x d e =
    let is : y ≡ x = cc in
    (omega arith, ap₂ (λ (a : ℕ) (b : X). (a, b)) (let same : n ≡ n + 0 = omega arith in same) is)
enumerate_at {X} n (y ∷ ys) (suc j) x d e =
    let rest = enumerate_at (n + 1) ys j x d e in
    (omega (arith, rest.0), rest.1 ∙ ap (λ (a : ℕ). (a, x)) (let same : n + 1 + j ≡ n + suc j = omega arith in same))

none_kept : {F : Type 0} (value : F → Number) (lower upper : Option F) (x : Number) → Crosses value lower upper → KeepsLower (bound_value value lower) x → KeepsUpper (bound_value value upper) x → ⊥
none_kept value None None x h k l = absurd h
none_kept value None (Some u) x h k l = absurd h
none_kept value (Some b) None x h k l = absurd h
none_kept value (Some b) (Some u) x h k l = Order.<ℚ_irrefl (value u) (Order.<ℚ-≤ℚ_trans (value u) (value b) (value u) h (Order.≤ℚ_trans (value b) x (value u) k l))

pub none_between : {F : Type 0} (value : F → Number) (lp : Lp F) (j : ℕ) (duals x : List Number) → ProvesCrossed value lp j duals → ¬ (Feasible value lp x)
none_between value lp j duals x proof feasible =
    let column = proof.first.0.0 in
    let here = enumerate_at 0 lp.columns j column (0, column) proof.first.0.1 in
    let kept = subst (λ p. KeepsBounds value p.1 (value_of_column x p.0)) here.1 (feasible.bounds j (0, column) here.0) in
    none_kept value column.lower column.upper (value_of_column x (0 + j)) proof.first.0.2 kept.0 kept.1
