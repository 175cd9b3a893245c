-- Which variables improve.
use Rattle.std.proofs.Common.{◌≡◌, ◌≢◌, ℕ, zero, suc, ◌<◌, ◌≤◌, ◌⊎◌, inl, inr, Bool, true, pos, List, [], ◌∷◌, length, Some, refl, sym, ap, ◌∙◌, subst, arith}
use Rattle.std.specs.Prelude.{slice_get, slice_index_or, Contains, IsTrue, ◌↔◌}
use Rattle.std.specs.declared.cmp.Ordering.{Ordering}
use Rattle.std.specs.declared.cmp.Ordering.TheVariants.{Less, Equal, Greater}
use Rattle.std.specs.Ordering.{is_gt}
use Rattle.std.proofs.lemmas.Bool.{cases_lt}
use Rattle.gq_number.specs.Number.{Number, whole}
use Rattle.gq_number.specs.Order.{◌<ℚ◌, number_cmp}
use Rattle.gq_number.proofs.Compares.{number_cmp_decides}
use Rattle.lp_core.specs.Dictionary.{Dictionary, entry_at, IsPriced, Improves}

greater_is : (r : Ordering) → is_gt r ≡ true → r ≡ Greater
greater_is Less h = absurd (cc)
greater_is Equal h = absurd (cc)
greater_is Greater h = refl

pub above_by_cmp : (x z : Number) (r : Ordering) (b : Bool) → z ≡ whole (pos 0) → r ≡ number_cmp x z → b ≡ is_gt r → IsTrue b ↔ (whole (pos 0) <ℚ x)
above_by_cmp x z r b none is told =
    let same : r ≡ number_cmp x (whole (pos 0)) = is ∙ ap (number_cmp x) none in
    let decides = (number_cmp_decides x (whole (pos 0))).2 in
    (λ t. decides.0 (sym same ∙ greater_is r (sym told ∙ t)), λ above. told ∙ ap is_gt (same ∙ decides.1 above))

not_in : (x v : ℕ) (xs : List ℕ) → x ≢ v → ¬ (Contains xs v) → (k : ℕ) → k < length (x ∷ xs) → slice_index_or (x ∷ xs) k v ≡ v → ⊥
not_in x v xs other none zero less is = other is
not_in x v xs other none (suc k) less is = none (k, omega arith, is)

pub same_or_not : (x v : ℕ) → (x ≡ v) ⊎ (x ≢ v)
same_or_not x v =
    elim (cases_lt x v) [
      | inl less ↦ inr (λ is. absurd (omega arith))
      | inr more ↦ elim (cases_lt v x) [
        | inl above ↦ inr (λ is. absurd (omega arith))
        | inr most ↦ inl (omega arith)
      ]
    ]

pub found_or_not : (xs : List ℕ) (v : ℕ) → ((k : ℕ) × (slice_get xs k ≡ Some v)) ⊎ (¬ (Contains xs v))
found_or_not [] v = inr (λ h. let less = h.1 in absurd (omega arith))
found_or_not (x ∷ xs) v =
    elim (same_or_not x v) [
      | inl same ↦ inl (0, ap Some same)
      | inr other ↦ elim (found_or_not xs v) [
        | inl found ↦ inl (suc found.0, found.1)
        | inr none ↦ inr (λ h. not_in x v xs other none h.0 h.1 h.2)
      ]
    ]

-- there is a row by which pivots are chosen
pub priced_there : (d : Dictionary) → (k : ℕ) × IsPriced d k
priced_there d =
    elim (found_or_not d.basic 0) [
      | inl found ↦ (found.0, inl found.1)
      | inr none ↦ (length d.basic, inr (none, refl))
    ]

pub improves_tells : (d : Dictionary) (v : ℕ) (x : Number) (b : Bool) → v ≢ 0 → v ≤ d.variables → ¬ (Contains d.basic v) → IsTrue b ↔ (whole (pos 0) <ℚ x) → ((k : ℕ) → IsPriced d k → ¬ (Contains d.basic v) → x ≡ entry_at d k v) → IsTrue b ↔ Improves d v
improves_tells d v x b other there not_basic above is =
    let priced = priced_there d in (
      λ t. record { other = other; there = there; not_basic = not_basic; above = λ k p. subst (λ y. whole (pos 0) <ℚ y) (is k p not_basic) (above.0 t) },
      λ i. above.1 (subst (λ y. whole (pos 0) <ℚ y) (sym (is priced.0 priced.1 not_basic)) (i.above priced.0 priced.1)),
    )

pub below_by_cmp : (x z : Number) (r : Ordering) (b : Bool) → z ≡ whole (pos 0) → r ≡ number_cmp z x → b ≡ is_gt r → IsTrue b ↔ (x <ℚ whole (pos 0))
below_by_cmp x z r b none is told =
    let same : r ≡ number_cmp (whole (pos 0)) x = is ∙ ap (λ y. number_cmp y x) none in
    let decides = (number_cmp_decides (whole (pos 0)) x).2 in
    (λ t. decides.0 (sym same ∙ greater_is r (sym told ∙ t)), λ below. told ∙ ap is_gt (same ∙ decides.1 below))
