-- The point and the ray that a dictionary stands for.
use Rattle.std.proofs.Common.{◌≡◌, ◌≢◌, ℕ, zero, suc, ◌+◌, ◌<◌, ◌≤◌, ◌==◌, Bool, true, false, cond, pos, List, [], ◌∷◌, length, get_or, Option, Some, None, inl, inr, refl, sym, ap, ap₂, ◌∙◌, subst, arith}
use Rattle.std.specs.List.{range_with_len, position_from}
use Rattle.std.proofs.lemmas.Bool.{cases_eq}
use Rattle.std.proofs.lemmas.Bool.Decides.{nat_tests}
use Rattle.std.proofs.lemmas.Iterator.Adapters.{position_from-zero}
use Rattle.std.proofs.lemmas.List.Quantifiers.{position-Some}
use Rattle.gq_number.specs.Number.{Number, whole, ◌+ℚ◌, ◌*ℚ◌, neg_ℚ}
use Rattle.gq_number.specs.Sums.{sum_by_ℚ}
use Rattle.gq_number.proofs.Order
use Rattle.gq_number.proofs.Ring.{ring_ℚ, *ℚ-zero, zero-*ℚ, one-*ℚ}
use Rattle.gq_number.proofs.Field.{*ℚ-one}
use Rattle.gq_number.proofs.Signs.{zero-<ℚ-one}
use Rattle.gq_number.proofs.Sums.{sum_by_ℚ-nil, sum_by_ℚ-cons, sum_by_ℚ-zero, sum_by_ℚ-+ℚ}
use Rattle.lp_core.specs.StandardForm as form
use Rattle.lp_core.specs.Dictionary.{Dictionary, basic_at, constant_at, entry_at}
use Rattle.lp_core.specs.Pivots.{row_of_basic, value_by_row, change_by_row}
use Rattle.lp_core.proofs.RowSums.{sum_by_same}
use Rattle.lp_std.specs.Last.{IsDictionaryOf}
use Rattle.lp_std.proofs.Sums.{unit_at, unit_here, unit_there, range_unit}

-- sums of functions that agree at the numbers
pub range_same : (f g : ℕ → Number) (a n : ℕ) → ((v : ℕ) → a ≤ v → v < a + n → f v ≡ g v) → sum_by_ℚ f (range_with_len a n) ≡ sum_by_ℚ g (range_with_len a n)
range_same f g a zero e = sum_by_ℚ-nil f ∙ sym (sum_by_ℚ-nil g)
range_same f g a (suc n) e =
    sum_by_ℚ-cons f a (range_with_len (a + 1) n)
    ∙ ap₂ (λ u w. u +ℚ w) (e a (omega arith) (omega arith)) (range_same f g (a + 1) n (λ v low high. e v (omega arith) (omega arith)))
    ∙ sym (sum_by_ℚ-cons g a (range_with_len (a + 1) n))

pub equal_numbers : (a b : ℕ) → (a == b) ≡ true → a ≡ b
equal_numbers a b e = grind (arith, nat_tests)

test_same : (a : ℕ) → (a == a) ≡ true
test_same a = grind (arith, nat_tests)

test_other : (a b : ℕ) → a ≢ b → (a == b) ≡ false
test_other a b h = grind (arith, nat_tests)

-- ---- places of basic variables

from_none : (v n : ℕ) (basic : List ℕ) → position_from (λ b. b == v) n basic ≡ None → (k : ℕ) → k < length basic → get_or basic k 0 ≢ v
from_none v n [] e k h = absurd (omega arith)
from_none v n (b ∷ basic) e k h = by (λ rest j low. from_none v (n + 1) basic rest j low) (b == v) refl e k h
  where
    by : (position_from (λ b. b == v) (n + 1) basic ≡ None → (j : ℕ) → j < length basic → get_or basic j 0 ≢ v) → (t : Bool) → (b == v) ≡ t → cond t (Some n) (position_from (λ b. b == v) (n + 1) basic) ≡ None → (k : ℕ) → k < length (b ∷ basic) → get_or (b ∷ basic) k 0 ≢ v
    by later true is e k h = absurd (cc)
    by later false is e zero h = λ same. absurd (let clash : true ≡ false = sym (test_same v) ∙ ap (λ a. a == v) (sym same) ∙ is in cc)
    by later false is e (suc k) h = later e k (omega arith)

module _ (d : Dictionary) where
  pub row_none : (v : ℕ) → row_of_basic d v ≡ None → (k : ℕ) → k < length d.basic → basic_at d k ≢ v
  row_none v e = from_none v 0 d.basic (sym (position_from-zero (λ b. b == v) d.basic) ∙ e)

  pub row_some : (v k : ℕ) → row_of_basic d v ≡ Some k → (k < length d.basic) × (basic_at d k ≡ v)
  row_some v k e =
      let found = position-Some (λ b. b == v) d.basic k 0 e in
      (found.0, equal_numbers (basic_at d k) v found.1)

  -- a variable is not basic, or in a row
  pub no_row_of : (v : ℕ) → ((k : ℕ) → k < length d.basic → basic_at d k ≢ v) → row_of_basic d v ≡ None
  no_row_of v none = by (row_of_basic d v) refl
    where
      by : (r : Option ℕ) → row_of_basic d v ≡ r → row_of_basic d v ≡ None
      by None e = e
      by (Some k) e = absurd (none k (row_some v k e).0 (row_some v k e).1)

module _ (s : form.Standard) (d : Dictionary) (is : IsDictionaryOf s d) where
  pub one_place : (i k : ℕ) → i < length d.basic → k < length d.basic → basic_at d i ≡ basic_at d k → i ≡ k
  one_place i k below here same =
      elim (cases_eq i k) [
        | inl e ↦ e
        | inr other ↦ absurd (Order.≢_from_<ℚ (whole (pos 0)) (whole (pos 1)) zero-<ℚ-one (sym (is.alone i k (omega arith) here other) ∙ ap (entry_at d i) (sym same) ∙ is.own i below))
      ]

  pub own_row : (k : ℕ) → k < length d.basic → row_of_basic d (basic_at d k) ≡ Some k
  own_row k here = by (row_of_basic d (basic_at d k)) refl
    where
      by : (r : Option ℕ) → row_of_basic d (basic_at d k) ≡ r → row_of_basic d (basic_at d k) ≡ Some k
      by None e = absurd (row_none d (basic_at d k) e k here refl)
      by (Some i) e =
          let found = row_some d (basic_at d k) i e in
          e ∙ ap Some (one_place i k found.0 here found.1)

  basic_there : (k : ℕ) → k < length d.basic → basic_at d k ≤ d.variables
  basic_there k here = is.there k 0 here

  -- the value of a variable, and its change along a ray
  abbrev pub value_of : ℕ → Number
  value_of v = value_by_row d (row_of_basic d v)

  abbrev pub change_of : ℕ → ℕ → Number
  change_of q v = change_by_row d q v (row_of_basic d v)

  abbrev one : ℕ → Number
  one v = whole (pos 1)

  -- what a row has for each variable at its value
  value_terms : (i v : ℕ) → i < length d.basic → entry_at d i v *ℚ value_of v ≡ unit_at (basic_at d i) (constant_at d i) v *ℚ whole (pos 1)
  value_terms i v here = by (row_of_basic d v) refl
    where
      nothing : basic_at d i ≢ v → unit_at (basic_at d i) (constant_at d i) v *ℚ whole (pos 1) ≡ whole (pos 0)
      nothing other = ap (λ u. u *ℚ whole (pos 1)) (unit_there (basic_at d i) v (constant_at d i) other) ∙ zero-*ℚ (whole (pos 1))

      by : (r : Option ℕ) → row_of_basic d v ≡ r → entry_at d i v *ℚ value_by_row d r ≡ unit_at (basic_at d i) (constant_at d i) v *ℚ whole (pos 1)
      by None e = *ℚ-zero (entry_at d i v) ∙ sym (nothing (row_none d v e i here))
      by (Some k) e =
          let found = row_some d v k e in
          elim (cases_eq i k) [
            | inl same ↦ subst (λ j. entry_at d i v *ℚ constant_at d j ≡ unit_at (basic_at d i) (constant_at d i) v *ℚ whole (pos 1)) same (let at : basic_at d i ≡ v = ap (basic_at d) same ∙ found.1 in ap₂ (λ u w. u *ℚ w) (ap (entry_at d i) (sym at) ∙ is.own i here) refl ∙ one-*ℚ (constant_at d i) ∙ sym (ap (λ u. u *ℚ whole (pos 1)) (ap (unit_at (basic_at d i) (constant_at d i)) (sym at) ∙ unit_here (basic_at d i) (constant_at d i)) ∙ *ℚ-one (constant_at d i)))
            | inr other ↦ ap (λ u. u *ℚ constant_at d k) (ap (entry_at d i) (sym found.1) ∙ is.alone i k (omega arith) found.0 other) ∙ zero-*ℚ (constant_at d k) ∙ sym (nothing (λ at. other (one_place i k here found.0 (at ∙ sym found.1))))
          ]

  value_terms_last : (v : ℕ) → entry_at d (length d.basic) v *ℚ value_of v ≡ whole (pos 0)
  value_terms_last v = by (row_of_basic d v) refl
    where
      by : (r : Option ℕ) → row_of_basic d v ≡ r → entry_at d (length d.basic) v *ℚ value_by_row d r ≡ whole (pos 0)
      by None e = *ℚ-zero (entry_at d (length d.basic) v)
      by (Some k) e =
          let found = row_some d v k e in
          let other : length d.basic ≢ k = omega (arith, found.0) in
          ap (λ u. u *ℚ constant_at d k) (ap (entry_at d (length d.basic)) (sym found.1) ∙ is.alone (length d.basic) k (omega arith) found.0 other) ∙ zero-*ℚ (constant_at d k)

  pub values_in_row : (i : ℕ) → i < length d.basic → sum_by_ℚ (λ v. entry_at d i v *ℚ value_of v) (range_with_len 0 (d.variables + 1)) ≡ constant_at d i
  values_in_row i here =
      sum_by_same (λ v. entry_at d i v *ℚ value_of v) (λ v. unit_at (basic_at d i) (constant_at d i) v *ℚ whole (pos 1)) (range_with_len 0 (d.variables + 1)) (λ v. value_terms i v here)
      ∙ range_unit (basic_at d i) (constant_at d i) one 0 (d.variables + 1) (omega arith) (omega (arith, basic_there i here))
      ∙ *ℚ-one (constant_at d i)

  pub values_in_last : sum_by_ℚ (λ v. entry_at d (length d.basic) v *ℚ value_of v) (range_with_len 0 (d.variables + 1)) ≡ whole (pos 0)
  values_in_last =
      sum_by_same (λ v. entry_at d (length d.basic) v *ℚ value_of v) (λ v. whole (pos 0)) (range_with_len 0 (d.variables + 1)) value_terms_last ∙ sum_by_ℚ-zero (range_with_len 0 (d.variables + 1))

  -- ---- a variable q that is not basic rises
  module _ (q : ℕ) (free : (k : ℕ) → k < length d.basic → basic_at d k ≢ q) (q_there : q ≤ d.variables) where
    change_terms : (i v : ℕ) → i < length d.basic → entry_at d i v *ℚ change_of q v ≡ unit_at q (entry_at d i q) v *ℚ whole (pos 1) +ℚ unit_at (basic_at d i) (neg_ℚ (entry_at d i q)) v *ℚ whole (pos 1)
    change_terms i v here = by (row_of_basic d v) refl
      where
        nothing : basic_at d i ≢ v → unit_at (basic_at d i) (neg_ℚ (entry_at d i q)) v ≡ whole (pos 0)
        nothing other = unit_there (basic_at d i) v (neg_ℚ (entry_at d i q)) other

        no_sum : (a : Number) → a *ℚ whole (pos 0) ≡ whole (pos 0) *ℚ whole (pos 1) +ℚ whole (pos 0) *ℚ whole (pos 1)
        no_sum a = simp ring_ℚ

        no_factor : (a : Number) → whole (pos 0) *ℚ a ≡ whole (pos 0) *ℚ whole (pos 1) +ℚ whole (pos 0) *ℚ whole (pos 1)
        no_factor a = simp ring_ℚ

        first_alone : (a : Number) → a *ℚ whole (pos 1) ≡ a *ℚ whole (pos 1) +ℚ whole (pos 0) *ℚ whole (pos 1)
        first_alone a = simp ring_ℚ

        second_alone : (a : Number) → whole (pos 1) *ℚ a ≡ whole (pos 0) *ℚ whole (pos 1) +ℚ a *ℚ whole (pos 1)
        second_alone a = simp ring_ℚ

        by : (r : Option ℕ) → row_of_basic d v ≡ r → entry_at d i v *ℚ change_by_row d q v r ≡ unit_at q (entry_at d i q) v *ℚ whole (pos 1) +ℚ unit_at (basic_at d i) (neg_ℚ (entry_at d i q)) v *ℚ whole (pos 1)
        by None e =
            elim (cases_eq q v) [
              | inl same ↦
                  ap (λ t. entry_at d i v *ℚ cond t (whole (pos 1)) (whole (pos 0))) (subst (λ w. (q == w) ≡ true) same (test_same q))
                  ∙ ap (λ w. entry_at d i w *ℚ whole (pos 1)) (sym same) ∙ first_alone (entry_at d i q)
                  ∙ sym (ap₂ (λ u w. u *ℚ whole (pos 1) +ℚ w *ℚ whole (pos 1)) (subst (λ w. unit_at q (entry_at d i q) w ≡ entry_at d i q) same (unit_here q (entry_at d i q))) (nothing (row_none d v e i here)))
              | inr other ↦
                  ap (λ t. entry_at d i v *ℚ cond t (whole (pos 1)) (whole (pos 0))) (test_other q v other)
                  ∙ no_sum (entry_at d i v)
                  ∙ sym (ap₂ (λ u w. u *ℚ whole (pos 1) +ℚ w *ℚ whole (pos 1)) (unit_there q v (entry_at d i q) other) (nothing (row_none d v e i here)))
            ]
        by (Some k) e =
            let found = row_some d v k e in
            let not_q : q ≢ v = λ same. free k found.0 (found.1 ∙ sym same) in
            elim (cases_eq i k) [
              | inl same ↦
                  let at : basic_at d i ≡ v = ap (basic_at d) same ∙ found.1 in
                  ap₂ (λ u w. u *ℚ neg_ℚ (entry_at d w q)) (ap (entry_at d i) (sym at) ∙ is.own i here) (sym same)
                  ∙ second_alone (neg_ℚ (entry_at d i q))
                  ∙ sym (ap₂ (λ u w. u *ℚ whole (pos 1) +ℚ w *ℚ whole (pos 1)) (unit_there q v (entry_at d i q) not_q) (subst (λ w. unit_at (basic_at d i) (neg_ℚ (entry_at d i q)) w ≡ neg_ℚ (entry_at d i q)) at (unit_here (basic_at d i) (neg_ℚ (entry_at d i q)))))
              | inr other ↦
                  ap (λ u. u *ℚ neg_ℚ (entry_at d k q)) (ap (entry_at d i) (sym found.1) ∙ is.alone i k (omega arith) found.0 other)
                  ∙ no_factor (neg_ℚ (entry_at d k q))
                  ∙ sym (ap₂ (λ u w. u *ℚ whole (pos 1) +ℚ w *ℚ whole (pos 1)) (unit_there q v (entry_at d i q) not_q) (nothing (λ at. other (one_place i k here found.0 (at ∙ sym found.1)))))
            ]

    change_terms_last : (v : ℕ) → entry_at d (length d.basic) v *ℚ change_of q v ≡ unit_at q (entry_at d (length d.basic) q) v *ℚ whole (pos 1)
    change_terms_last v = by (row_of_basic d v) refl
      where
        by : (r : Option ℕ) → row_of_basic d v ≡ r → entry_at d (length d.basic) v *ℚ change_by_row d q v r ≡ unit_at q (entry_at d (length d.basic) q) v *ℚ whole (pos 1)
        by None e =
            elim (cases_eq q v) [
              | inl same ↦
                  ap (λ t. entry_at d (length d.basic) v *ℚ cond t (whole (pos 1)) (whole (pos 0))) (subst (λ w. (q == w) ≡ true) same (test_same q))
                  ∙ ap (λ w. entry_at d (length d.basic) w *ℚ whole (pos 1)) (sym same)
                  ∙ sym (ap (λ u. u *ℚ whole (pos 1)) (subst (λ w. unit_at q (entry_at d (length d.basic) q) w ≡ entry_at d (length d.basic) q) same (unit_here q (entry_at d (length d.basic) q))))
              | inr other ↦
                  ap (λ t. entry_at d (length d.basic) v *ℚ cond t (whole (pos 1)) (whole (pos 0))) (test_other q v other)
                  ∙ *ℚ-zero (entry_at d (length d.basic) v)
                  ∙ sym (ap (λ u. u *ℚ whole (pos 1)) (unit_there q v (entry_at d (length d.basic) q) other) ∙ zero-*ℚ (whole (pos 1)))
            ]
        by (Some k) e =
            let found = row_some d v k e in
            let not_q : q ≢ v = λ same. free k found.0 (found.1 ∙ sym same) in
            let other : length d.basic ≢ k = omega (arith, found.0) in
            ap (λ u. u *ℚ neg_ℚ (entry_at d k q)) (ap (entry_at d (length d.basic)) (sym found.1) ∙ is.alone (length d.basic) k (omega arith) found.0 other)
            ∙ zero-*ℚ (neg_ℚ (entry_at d k q))
            ∙ sym (ap (λ u. u *ℚ whole (pos 1)) (unit_there q v (entry_at d (length d.basic) q) not_q) ∙ zero-*ℚ (whole (pos 1)))

    pub changes_in_row : (i : ℕ) → i < length d.basic → sum_by_ℚ (λ v. entry_at d i v *ℚ change_of q v) (range_with_len 0 (d.variables + 1)) ≡ whole (pos 0)
    changes_in_row i here =
        sum_by_same (λ v. entry_at d i v *ℚ change_of q v) (λ v. unit_at q (entry_at d i q) v *ℚ whole (pos 1) +ℚ unit_at (basic_at d i) (neg_ℚ (entry_at d i q)) v *ℚ whole (pos 1)) (range_with_len 0 (d.variables + 1)) (λ v. change_terms i v here)
        ∙ sum_by_ℚ-+ℚ (λ v. unit_at q (entry_at d i q) v *ℚ whole (pos 1)) (λ v. unit_at (basic_at d i) (neg_ℚ (entry_at d i q)) v *ℚ whole (pos 1)) (range_with_len 0 (d.variables + 1))
        ∙ ap₂ (λ u w. u +ℚ w) (range_unit q (entry_at d i q) one 0 (d.variables + 1) (omega arith) (omega arith)) (range_unit (basic_at d i) (neg_ℚ (entry_at d i q)) one 0 (d.variables + 1) (omega arith) (omega (arith, basic_there i here)))
        ∙ cancelled (entry_at d i q)
      where
        cancelled : (a : Number) → a *ℚ whole (pos 1) +ℚ neg_ℚ a *ℚ whole (pos 1) ≡ whole (pos 0)
        cancelled a = simp ring_ℚ

    pub changes_in_last : sum_by_ℚ (λ v. entry_at d (length d.basic) v *ℚ change_of q v) (range_with_len 0 (d.variables + 1)) ≡ entry_at d (length d.basic) q
    changes_in_last =
        sum_by_same (λ v. entry_at d (length d.basic) v *ℚ change_of q v) (λ v. unit_at q (entry_at d (length d.basic) q) v *ℚ whole (pos 1)) (range_with_len 0 (d.variables + 1)) change_terms_last
        ∙ range_unit q (entry_at d (length d.basic) q) one 0 (d.variables + 1) (omega arith) (omega arith)
        ∙ *ℚ-one (entry_at d (length d.basic) q)
