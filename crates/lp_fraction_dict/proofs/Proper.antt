-- An exchange by a legal pivot keeps what each dictionary of a program keeps.
use Rattle.gq_number.proofs.Field.{*ℚ_comm}
use mathlib.Core.Bool.{and-false}
use Rattle.std.proofs.Common.{◌≡◌, ◌≢◌, ℕ, zero, suc, ◌+◌, ◌<◌, ◌≤◌, ◌==◌, ◌&&◌, ◌⊎◌, inl, inr, pos, cond, List, [], ◌∷◌, length, length-set, Some, refl, sym, ap, ap₂, ◌∙◌, subst, subst₂, arith}
use Rattle.std.specs.Prelude.{slice_get, slice_set}
use Rattle.std.proofs.lemmas.Bool.{cases_eq}
use Rattle.gq_number.specs.Number.{Number, whole, ◌-ℚ◌, ◌*ℚ◌, ◌/ℚ◌, neg_ℚ}
use Rattle.gq_number.specs.Order.{◌≤ℚ◌, ◌<ℚ◌}
use Rattle.gq_number.proofs.Ring.{ring_ℚ, neg-zero}
use Rattle.gq_number.proofs.Order.{≤ℚ_from_<ℚ, ≤ℚ_or_above, not_above, ≤ℚ-<ℚ_trans, ≤ℚ_trans, <ℚ_irrefl, ≤ℚ_from_not_above, gap_≤ℚ, gap_<ℚ, <ℚ_from_not_≤ℚ, neg-<ℚ}
use Rattle.gq_number.proofs.Signs.{neg-zero-<ℚ, /ℚ-zero-≤ℚ, ≢-zero_above, ≤ℚ-/ℚ, <ℚ-/ℚ, *ℚ-≤ℚ_turned, zero-<ℚ-one}
use Rattle.gq_number.proofs.Quotients.{zero-/ℚ, /ℚ_self, one-≢-zero, neg-≢-zero, /ℚ-*ℚ_self}
use Rattle.lp_core.specs.declared.answer.Pivot.{Pivot}
use Rattle.lp_core.specs.Dictionary.{Dictionary, basic_at, constant_at, entry_at, OpeningIsRequired, ratio_at, IsOpening, IsStep, IsLegal, divided_entry, exchanged_numbers, exchanged}
use Rattle.lp_fraction_dict.specs.Pivots.{IsProper}
use Rattle.lp_fraction_dict.proofs.Kept.{get_within, get_index, contains_get}
use Rattle.lp_fraction_dict.proofs.Equations.{eq_same, eq_other}

-- ---- numbers

one_less_nothing : (x e a : Number) → x -ℚ e *ℚ (whole (pos 0) /ℚ a) ≡ x
one_less_nothing x e a = rw (zero-/ℚ a) (simp ring_ℚ)

whole_less_itself : (e a : Number) → a ≢ whole (pos 0) → e -ℚ e *ℚ (a /ℚ a) ≡ whole (pos 0)
whole_less_itself e a some = rw (/ℚ_self a some) (simp ring_ℚ)

minus_one_≢-zero : neg_ℚ (whole (pos 1)) ≢ whole (pos 0)
minus_one_≢-zero = neg-≢-zero (whole (pos 1)) one-≢-zero

-- x over -1 is -x: both times -1 are x
over_minus_one : (x : Number) → x /ℚ neg_ℚ (whole (pos 1)) ≡ neg_ℚ x
over_minus_one x =
    let y = x /ℚ neg_ℚ (whole (pos 1)) in
    let back : y *ℚ neg_ℚ (whole (pos 1)) ≡ x = /ℚ-*ℚ_self x (neg_ℚ (whole (pos 1))) minus_one_≢-zero in
    let negated : neg_ℚ (y *ℚ neg_ℚ (whole (pos 1))) ≡ y = simp ring_ℚ in
    sym negated ∙ ap neg_ℚ back

less_times_minus_one : (x y : Number) → x -ℚ neg_ℚ (whole (pos 1)) *ℚ neg_ℚ y ≡ x -ℚ y
less_times_minus_one x y = simp ring_ℚ

-- a number at least 0 less one at most 0
stays_above : (b e r : Number) → whole (pos 0) ≤ℚ b → e ≤ℚ whole (pos 0) → whole (pos 0) ≤ℚ r → whole (pos 0) ≤ℚ b -ℚ e *ℚ r
stays_above b e r above below ratio =
    gap_≤ℚ (e *ℚ r) b (≤ℚ_trans (e *ℚ r) (whole (pos 0)) b (subst₂ (λ x y. x ≤ℚ y) (let h : r *ℚ e ≡ e *ℚ r = simp ring_ℚ in h) (let h : whole (pos 0) *ℚ e ≡ whole (pos 0) = simp ring_ℚ in h) (*ℚ-≤ℚ_turned (whole (pos 0)) r e below ratio)) above)

pub set_same : {X : Type 0} (xs : List X) (k : ℕ) (x : X) → k < length xs → slice_get (slice_set xs k x) k ≡ Some x
set_same [] k x less = absurd (omega arith)
set_same (y ∷ xs) zero x less = refl
set_same (y ∷ xs) (suc k) x less = set_same xs k x (omega arith)

pub set_other : {X : Type 0} (xs : List X) (k i : ℕ) (x : X) → i ≢ k → slice_get (slice_set xs k x) i ≡ slice_get xs i
set_other [] k i x other = refl
set_other (y ∷ xs) zero zero x other = absurd (other refl)
set_other (y ∷ xs) zero (suc i) x other = refl
set_other (y ∷ xs) (suc k) zero x other = refl
set_other (y ∷ xs) (suc k) (suc i) x other = set_other xs k i x (λ is. other (ap suc is))

some_is : {X : Type 0} (x y : X) → Some x ≡ Some y → x ≡ y
some_is x y h = cc

module _ (d : Dictionary) (p : Pivot) (k : ℕ) (proper : IsProper d) (legal : IsLegal d p k) where
  abbrev q : ℕ
  q = p.enter

  pub leaves_at : slice_get d.basic k ≡ Some p.leave
  leaves_at = elim legal [ inl o ↦ o.leaves | inr s ↦ s.leaves ]

  pub place_within : k < length d.basic
  place_within = get_within d.basic k p.leave leaves_at

  pub leaves_is : basic_at d k ≡ p.leave
  leaves_is = get_index d.basic k p.leave 0 leaves_at

  -- the number that is divided by is not 0
  pub pivot_some : entry_at d k p.enter ≢ whole (pos 0)
  pivot_some =
      elim legal [
        | inl o ↦ λ none. minus_one_≢-zero (sym (proper.opening o.required k place_within) ∙ ap (entry_at d k) (sym o.enters) ∙ none)
        | inr s ↦ ≢-zero_above (entry_at d k p.enter) s.ties.limits.1
      ]

  one-≢-minus_one : whole (pos 1) ≢ neg_ℚ (whole (pos 1))
  one-≢-minus_one same =
      <ℚ_irrefl (whole (pos 0)) (≤ℚ-<ℚ_trans (whole (pos 0)) (whole (pos 1)) (whole (pos 0)) (≤ℚ_from_<ℚ _ _ zero-<ℚ-one) (subst₂ (λ a b. a <ℚ b) (sym same) neg-zero (neg_below)))
    where
      neg_below : neg_ℚ (whole (pos 1)) <ℚ neg_ℚ (whole (pos 0))
      neg_below = neg-<ℚ (whole (pos 0)) (whole (pos 1)) zero-<ℚ-one

  -- the variable that enters is no basic one
  pub enters_new : (j v : ℕ) → slice_get d.basic j ≡ Some v → v ≢ p.enter
  enters_new j v at same =
      elim legal [
        | inl o ↦
            let zero_at : slice_get d.basic j ≡ Some 0 = at ∙ ap Some (same ∙ o.enters) in
            one-≢-minus_one (sym (proper.own j 0 zero_at) ∙ proper.opening o.required j (get_within d.basic j 0 zero_at))
        | inr s ↦ s.improves.not_basic (contains_get d.basic j p.enter (at ∙ ap Some same))
      ]

  pub enters_there : p.enter ≤ d.variables
  enters_there = elim legal [ inl o ↦ let none = o.enters in omega arith | inr s ↦ s.improves.there ]

  -- a basic variable after the exchange: the one that enters, in row k, or one as before
  abbrev IsNew : ℕ → ℕ → Type 0
  IsNew i v = (i ≡ k) × (v ≡ p.enter)

  abbrev IsOld : ℕ → ℕ → Type 0
  IsOld i v = (i ≢ k) × (slice_get d.basic i ≡ Some v)

  pub basic_after : (i v : ℕ) → slice_get (exchanged d p.enter k).basic i ≡ Some v → IsNew i v ⊎ IsOld i v
  basic_after i v at =
      elim (cases_eq i k) [
        | inl same ↦ inl (same, some_is v p.enter (sym at ∙ ap (slice_get (slice_set d.basic k p.enter)) same ∙ set_same d.basic k p.enter place_within))
        | inr other ↦ inr (other, sym (set_other d.basic k i p.enter other) ∙ at)
      ]

  -- a column that is not dropped
  pub kept_column : (i c : ℕ) → (c ≡ 1 → basic_at d k ≢ 0) → (exchanged d p.enter k).numbers i c ≡ exchanged_numbers d p.enter k i c
  kept_column i c kept =
      elim (cases_eq c 1) [
        | inl one ↦ ap (λ b. cond (b && (c == 1)) (whole (pos 0)) (exchanged_numbers d p.enter k i c)) (eq_other (basic_at d k) 0 (kept one))
        | inr other ↦ ap (λ b. cond (basic_at d k == 0 && b) (whole (pos 0)) (exchanged_numbers d p.enter k i c)) (eq_other c 1 other) ∙ ap (λ b. cond b (whole (pos 0)) (exchanged_numbers d p.enter k i c)) (and-false (basic_at d k == 0))
      ]

  kept_entry : (i v : ℕ) → v ≢ p.leave → entry_at (exchanged d p.enter k) i v ≡ exchanged_numbers d p.enter k i (v + 1)
  kept_entry i v other = kept_column i (v + 1) (λ one none. let zero_v : v ≡ 0 = omega arith in other (zero_v ∙ sym none ∙ leaves_is))

  pub pivot_numbers : (c : ℕ) → exchanged_numbers d p.enter k k c ≡ divided_entry d p.enter k c
  pivot_numbers c = ap (λ b. cond b (divided_entry d p.enter k c) (d.numbers k c -ℚ entry_at d k p.enter *ℚ divided_entry d p.enter k c)) (eq_same k)

  pub other_numbers : (i c : ℕ) → i ≢ k → exchanged_numbers d p.enter k i c ≡ d.numbers i c -ℚ entry_at d i p.enter *ℚ divided_entry d p.enter k c
  other_numbers i c other = ap (λ b. cond b (divided_entry d p.enter k c) (d.numbers i c -ℚ entry_at d i p.enter *ℚ divided_entry d p.enter k c)) (eq_other i k other)

  enters_not_leaves : p.enter ≢ p.leave
  enters_not_leaves same = enters_new k p.leave leaves_at (sym same)

  old_not_leaves : (i v : ℕ) → IsOld i v → v ≢ p.leave
  old_not_leaves i v old same = old.0 (proper.distinct i k v old.1 (leaves_at ∙ ap Some (sym same)))

  -- the row of the variable that enters
  own_new : entry_at (exchanged d p.enter k) k p.enter ≡ whole (pos 1)
  own_new = kept_entry k p.enter enters_not_leaves ∙ pivot_numbers (p.enter + 1) ∙ /ℚ_self (entry_at d k p.enter) pivot_some

  apart_new : (i : ℕ) → i ≢ k → entry_at (exchanged d p.enter k) i p.enter ≡ whole (pos 0)
  apart_new i other = kept_entry i p.enter enters_not_leaves ∙ other_numbers i (p.enter + 1) other ∙ whole_less_itself (entry_at d i p.enter) (entry_at d k p.enter) pivot_some

  -- the row of another basic variable
  quotient_of_old : (i v : ℕ) → IsOld i v → divided_entry d p.enter k (v + 1) ≡ whole (pos 0) /ℚ entry_at d k p.enter
  quotient_of_old i v old = ap (λ x. x /ℚ entry_at d k p.enter) (proper.apart i k v old.1 (λ same. old.0 (sym same)))

  same_old : (i v j : ℕ) → IsOld i v → j ≢ k → entry_at (exchanged d p.enter k) j v ≡ entry_at d j v
  same_old i v j old other =
      kept_entry j v (old_not_leaves i v old) ∙ other_numbers j (v + 1) other
      ∙ ap (λ x. entry_at d j v -ℚ entry_at d j p.enter *ℚ x) (quotient_of_old i v old) ∙ one_less_nothing (entry_at d j v) (entry_at d j p.enter) (entry_at d k p.enter)

  none_old : (i v : ℕ) → IsOld i v → entry_at (exchanged d p.enter k) k v ≡ whole (pos 0)
  none_old i v old = kept_entry k v (old_not_leaves i v old) ∙ pivot_numbers (v + 1) ∙ quotient_of_old i v old ∙ zero-/ℚ (entry_at d k p.enter)

  -- ---- the constants

  constant_after : (i : ℕ) → constant_at (exchanged d p.enter k) i ≡ exchanged_numbers d p.enter k i 0
  constant_after i = kept_column i 0 (λ one. absurd (omega arith))

  pub constant_pivot : constant_at (exchanged d p.enter k) k ≡ ratio_at d p.enter k
  constant_pivot = constant_after k ∙ pivot_numbers 0

  pub constant_other : (i : ℕ) → i ≢ k → constant_at (exchanged d p.enter k) i ≡ constant_at d i -ℚ entry_at d i p.enter *ℚ ratio_at d p.enter k
  constant_other i other = constant_after i ∙ other_numbers i 0 other

  opening_ratio : IsOpening d p k → ratio_at d p.enter k ≡ neg_ℚ (constant_at d k)
  opening_ratio o = ap (λ x. constant_at d k /ℚ x) (ap (entry_at d k) o.enters ∙ proper.opening o.required k place_within) ∙ over_minus_one (constant_at d k)

  opening_least : (o : IsOpening d p k) → constant_at d k <ℚ whole (pos 0)
  opening_least o = ≤ℚ-<ℚ_trans (constant_at d k) (constant_at d o.required.0) (whole (pos 0)) (o.least.1 o.required.0 o.required.1) o.required.2

  opening_above : IsOpening d p k → (i : ℕ) → i < length d.basic → whole (pos 0) ≤ℚ constant_at (exchanged d p.enter k) i
  opening_above o i less =
      elim (cases_eq i k) [
        | inl same ↦ subst (λ j. whole (pos 0) ≤ℚ constant_at (exchanged d p.enter k) j) (sym same) (subst (λ x. whole (pos 0) ≤ℚ x) (sym (constant_pivot ∙ opening_ratio o)) (≤ℚ_from_<ℚ _ _ (neg-zero-<ℚ (constant_at d k) (opening_least o))))
        | inr other ↦
            let number : constant_at (exchanged d p.enter k) i ≡ constant_at d i -ℚ constant_at d k =
            constant_other i other ∙ ap₂ (λ e r. constant_at d i -ℚ e *ℚ r) (ap (entry_at d i) o.enters ∙ proper.opening o.required i less) (opening_ratio o) ∙ less_times_minus_one (constant_at d i) (constant_at d k) in
            subst (λ x. whole (pos 0) ≤ℚ x) (sym number) (gap_≤ℚ (constant_at d k) (constant_at d i) (o.least.1 i less))
      ]

  pub constants_above : ¬ (OpeningIsRequired d) → (i : ℕ) → i < length d.basic → whole (pos 0) ≤ℚ constant_at d i
  constants_above none i less = ≤ℚ_from_not_above (whole (pos 0)) (constant_at d i) (λ below. none (i, less, below))

  pub step_ratio : IsStep d p k → whole (pos 0) ≤ℚ ratio_at d p.enter k
  step_ratio s = /ℚ-zero-≤ℚ (constant_at d k) (entry_at d k p.enter) (constants_above s.not_required k place_within) (≤ℚ_from_<ℚ _ _ s.ties.limits.1)

  step_above : IsStep d p k → (i : ℕ) → i < length d.basic → whole (pos 0) ≤ℚ constant_at (exchanged d p.enter k) i
  step_above s i less =
      elim (cases_eq i k) [
        | inl same ↦ subst (λ j. whole (pos 0) ≤ℚ constant_at (exchanged d p.enter k) j) (sym same) (subst (λ x. whole (pos 0) ≤ℚ x) (sym constant_pivot) (step_ratio s))
        | inr other ↦ subst (λ x. whole (pos 0) ≤ℚ x) (sym (constant_other i other)) (elim (≤ℚ_or_above (entry_at d i p.enter) (whole (pos 0))) [
          | inl below ↦ stays_above (constant_at d i) (entry_at d i p.enter) (ratio_at d p.enter k) (constants_above s.not_required i less) below (step_ratio s)
          | inr above ↦
              gap_≤ℚ (entry_at d i p.enter *ℚ ratio_at d p.enter k) (constant_at d i)
              (subst (λ x. x ≤ℚ constant_at d i) (*ℚ_comm (ratio_at d p.enter k) (entry_at d i p.enter)) ((≤ℚ-/ℚ (ratio_at d p.enter k) (constant_at d i) (entry_at d i p.enter) above).0 (s.ties.least i (less, above))))
        ])
      ]

  pub same_size : length (exchanged d p.enter k).basic ≡ length d.basic
  same_size = length-set d.basic k p.enter

  -- no opening pivot is required after a legal one
  pub none_required : ¬ (OpeningIsRequired (exchanged d p.enter k))
  none_required required =
      let less : required.0 < length d.basic = subst (λ n. required.0 < n) same_size required.1 in
      not_above (whole (pos 0)) (constant_at (exchanged d p.enter k) required.0) (elim legal [ inl o ↦ opening_above o required.0 less | inr s ↦ step_above s required.0 less ]) required.2

  -- variable 0 is above 0 where it stays
  zero_stays : IsStep d p k → (i : ℕ) → IsOld i 0 → whole (pos 0) <ℚ constant_at (exchanged d p.enter k) i
  zero_stays s i old =
      let above : whole (pos 0) <ℚ entry_at d i p.enter = s.improves.above i (inl old.1) in
      let less : i < length d.basic = get_within d.basic i 0 old.1 in
      let no_tie : ¬ (ratio_at d p.enter i ≤ℚ ratio_at d p.enter k) =
      λ most. old_not_leaves i 0 old (sym (s.zero_first i old.1 (record { limits = (less, above); least = λ j limits. ≤ℚ_trans (ratio_at d p.enter i) (ratio_at d p.enter k) (ratio_at d p.enter j) most (s.ties.least j limits) }))) in
      subst (λ x. whole (pos 0) <ℚ x) (sym (constant_other i old.0))
      (gap_<ℚ (entry_at d i p.enter *ℚ ratio_at d p.enter k) (constant_at d i)
      (subst (λ x. x <ℚ constant_at d i) (*ℚ_comm (ratio_at d p.enter k) (entry_at d i p.enter)) ((<ℚ-/ℚ (ratio_at d p.enter k) (constant_at d i) (entry_at d i p.enter) above).0 (<ℚ_from_not_≤ℚ (ratio_at d p.enter k) (ratio_at d p.enter i) no_tie))))

  zero_above : (i : ℕ) → slice_get (exchanged d p.enter k).basic i ≡ Some 0 → whole (pos 0) <ℚ constant_at (exchanged d p.enter k) i
  zero_above i at =
      elim (basic_after i 0 at) [
        | inl new ↦ subst (λ j. whole (pos 0) <ℚ constant_at (exchanged d p.enter k) j) (sym new.0) (elim legal [
          | inl o ↦ subst (λ x. whole (pos 0) <ℚ x) (sym (constant_pivot ∙ opening_ratio o)) (neg-zero-<ℚ (constant_at d k) (opening_least o))
          | inr s ↦ absurd (s.improves.other (sym new.1))
        ])
        | inr old ↦ elim legal [
          | inl o ↦ absurd (enters_new i 0 old.1 (sym o.enters))
          | inr s ↦ zero_stays s i old
        ]
      ]

  pub proper_after : IsProper (exchanged d p.enter k)
  proper_after =
      record {
        distinct = λ i j v at there. elim (basic_after i v at) [
          | inl new ↦ elim (basic_after j v there) [
            | inl same ↦ new.0 ∙ sym same.0
            | inr old ↦ absurd (enters_new j v old.1 new.1)
          ]
          | inr old ↦ elim (basic_after j v there) [
            | inl new ↦ absurd (enters_new i v old.1 new.1)
            | inr other ↦ proper.distinct i j v old.1 other.1
          ]
        ];
        there = λ i v at. elim (basic_after i v at) [
          | inl new ↦ subst (λ w. w ≤ d.variables) (sym new.1) enters_there
          | inr old ↦ proper.there i v old.1
        ];
        own = λ i v at. elim (basic_after i v at) [
          | inl new ↦ subst₂ (λ j w. entry_at (exchanged d p.enter k) j w ≡ whole (pos 1)) (sym new.0) (sym new.1) own_new
          | inr old ↦ same_old i v i old old.0 ∙ proper.own i v old.1
        ];
        apart = λ i j v at other. elim (basic_after i v at) [
          | inl new ↦ subst (λ w. entry_at (exchanged d p.enter k) j w ≡ whole (pos 0)) (sym new.1) (apart_new j (λ same. other (same ∙ sym new.0)))
          | inr old ↦ elim (cases_eq j k) [
            | inl same ↦ subst (λ l. entry_at (exchanged d p.enter k) l v ≡ whole (pos 0)) (sym same) (none_old i v old)
            | inr apart ↦ same_old i v j old apart ∙ proper.apart i j v old.1 other
          ]
        ];
        opening = λ required. absurd (none_required required);
        above = zero_above;
      }
