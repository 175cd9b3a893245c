-- Sums over the columns of a dictionary of which few terms are not 0, and the signs of their terms.
use Rattle.std.proofs.Common.{◌≡◌, ◌≢◌, ℕ, zero, suc, ◌+◌, ◌<◌, ◌≤◌, inl, inr, pos, List, [], ◌∷◌, sym, ap, ap₂, ◌∙◌, subst, arith}
use Rattle.std.specs.List.{range_with_len}
use Rattle.gq_number.specs.Number.{Number, whole, ◌+ℚ◌}
use Rattle.gq_number.specs.Order.{◌≤ℚ◌, ◌<ℚ◌}
use Rattle.gq_number.specs.Sums.{sum_by_ℚ}
use Rattle.gq_number.proofs.Field.{+ℚ_comm, +ℚ-zero}
use Rattle.gq_number.proofs.Ring.{ring_ℚ, zero-+ℚ}
use Rattle.gq_number.proofs.Order.{≤ℚ_or_above, <ℚ_irrefl}
use Rattle.gq_number.proofs.Linear.{≤ℚ_from, <ℚ_from, both, strict_and}
use Rattle.gq_number.proofs.Sums.{sum_by_ℚ-nil, sum_by_ℚ-cons}
use Rattle.lp_fraction_dict.proofs.Improving.{same_or_not}

-- equal terms have equal sums
pub same_sum : (f g : ℕ → Number) → ((c : ℕ) → f c ≡ g c) → (xs : List ℕ) → sum_by_ℚ f xs ≡ sum_by_ℚ g xs
same_sum f g h [] = sum_by_ℚ-nil f ∙ sym (sum_by_ℚ-nil g)
same_sum f g h (x ∷ xs) = sum_by_ℚ-cons f x xs ∙ ap₂ (λ a b. a +ℚ b) (h x) (same_sum f g h xs) ∙ sym (sum_by_ℚ-cons g x xs)

-- the first of the columns, then the others
first_apart : (f : ℕ → Number) (a n : ℕ) → sum_by_ℚ f (range_with_len a (suc n)) ≡ f a +ℚ sum_by_ℚ f (range_with_len (a + 1) n)
first_apart f a n = sum_by_ℚ-cons f a (range_with_len (a + 1) n)

with_first : (x y z : Number) → x ≡ whole (pos 0) → y ≡ z → x +ℚ y ≡ z
with_first x y z none is = ap₂ (λ a b. a +ℚ b) none is ∙ zero-+ℚ z

-- no term but that of column q, which is not there
pub sum_none : (f : ℕ → Number) (a n q : ℕ) → q < a → ((c : ℕ) → c ≢ q → f c ≡ whole (pos 0)) → sum_by_ℚ f (range_with_len a n) ≡ whole (pos 0)
sum_none f a zero q past none = sum_by_ℚ-nil f
sum_none f a (suc n) q past none = first_apart f a n ∙ with_first (f a) _ _ (none a (λ same. absurd (omega arith))) (sum_none f (a + 1) n q (omega arith) none)

-- no term but that of column q
pub sum_one : (f : ℕ → Number) (a n q : ℕ) → a ≤ q → q < a + n → ((c : ℕ) → c ≢ q → f c ≡ whole (pos 0)) → sum_by_ℚ f (range_with_len a n) ≡ f q
sum_one f a zero q from to none = absurd (omega arith)
sum_one f a (suc n) q from to none =
    elim (same_or_not a q) [
      | inl same ↦ first_apart f a n ∙ ap₂ (λ x y. x +ℚ y) (ap f same) (sum_none f (a + 1) n q (omega arith) none) ∙ +ℚ-zero (f q)
      | inr other ↦ first_apart f a n ∙ with_first (f a) _ _ (none a other) (sum_one f (a + 1) n q (omega arith) (omega arith) none)
    ]

-- no terms but those of columns q and r, of which q is not there
sum_second : (f : ℕ → Number) (a n q r : ℕ) → q < a → a ≤ r → r < a + n → ((c : ℕ) → c ≢ q → c ≢ r → f c ≡ whole (pos 0)) → sum_by_ℚ f (range_with_len a n) ≡ f r
sum_second f a zero q r past from to none = absurd (omega arith)
sum_second f a (suc n) q r past from to none =
    elim (same_or_not a r) [
      | inl same ↦ first_apart f a n ∙ ap₂ (λ x y. x +ℚ y) (ap f same) (sum_neither f (a + 1) n q r (omega arith) (omega arith) none) ∙ +ℚ-zero (f r)
      | inr other ↦ first_apart f a n ∙ with_first (f a) _ _ (none a (λ is. absurd (omega arith)) other) (sum_second f (a + 1) n q r (omega arith) (omega arith) (omega arith) none)
    ]
  where
    sum_neither : (f : ℕ → Number) (a n q r : ℕ) → q < a → r < a → ((c : ℕ) → c ≢ q → c ≢ r → f c ≡ whole (pos 0)) → sum_by_ℚ f (range_with_len a n) ≡ whole (pos 0)
    sum_neither f a zero q r past over none = sum_by_ℚ-nil f
    sum_neither f a (suc n) q r past over none = first_apart f a n ∙ with_first (f a) _ _ (none a (λ is. absurd (omega arith)) (λ is. absurd (omega arith))) (sum_neither f (a + 1) n q r (omega arith) (omega arith) none)

-- no terms but those of columns q and r
pub sum_two : (f : ℕ → Number) (a n q r : ℕ) → q ≢ r → a ≤ q → q < a + n → a ≤ r → r < a + n → ((c : ℕ) → c ≢ q → c ≢ r → f c ≡ whole (pos 0)) → sum_by_ℚ f (range_with_len a n) ≡ f q +ℚ f r
sum_two f a zero q r apart from_q to_q from_r to_r none = absurd (omega arith)
sum_two f a (suc n) q r apart from_q to_q from_r to_r none =
    elim (same_or_not a q) [
      | inl same ↦ first_apart f a n ∙ ap₂ (λ x y. x +ℚ y) (ap f same) (sum_second f (a + 1) n q r (omega arith) (later r (λ is. apart (sym same ∙ is)) from_r) (omega arith) none)
      | inr other ↦ elim (same_or_not a r) [
        | inl same ↦ first_apart f a n ∙ ap₂ (λ x y. x +ℚ y) (ap f same) (sum_second f (a + 1) n r q (omega arith) (later q other from_q) (omega arith) (λ c not_r not_q. none c not_q not_r)) ∙ +ℚ_comm (f r) (f q)
        | inr more ↦ first_apart f a n ∙ with_first (f a) _ _ (none a other more) (sum_two f (a + 1) n q r apart (later q other from_q) (omega arith) (later r more from_r) (omega arith) none)
      ]
    ]
  where
    later : (c : ℕ) → a ≢ c → a ≤ c → a + 1 ≤ c
    later c other from = omega arith

-- a column among these whose term is above 0
abbrev pub SomeAbove : (ℕ → Number) → ℕ → ℕ → Type 0
SomeAbove f a n = (c : ℕ) × (a ≤ c) × (c < a + n) × (whole (pos 0) <ℚ f c)

sooner : (f : ℕ → Number) (a n : ℕ) → SomeAbove f (a + 1) n → SomeAbove f a (suc n)
sooner f a n found = let from = found.1 in let to = found.2 in (found.0, omega arith, omega arith, found.3)

rest_above : (x y : Number) → x ≤ℚ whole (pos 0) → whole (pos 0) <ℚ x +ℚ y → whole (pos 0) <ℚ y
rest_above x y below above = <ℚ_from (strict_and above below) (simp ring_ℚ)

rest_at_least : (x y : Number) → x ≤ℚ whole (pos 0) → whole (pos 0) ≤ℚ x +ℚ y → whole (pos 0) ≤ℚ y
rest_at_least x y below above = ≤ℚ_from (both above below) (simp ring_ℚ)

rest_strict : (x y : Number) → x <ℚ whole (pos 0) → whole (pos 0) ≤ℚ x +ℚ y → whole (pos 0) <ℚ y
rest_strict x y below above = <ℚ_from (strict_and below above) (simp ring_ℚ)

-- a sum above 0 has a term above 0
pub some_above : (f : ℕ → Number) (a n : ℕ) → whole (pos 0) <ℚ sum_by_ℚ f (range_with_len a n) → SomeAbove f a n
some_above f a zero above = absurd (<ℚ_irrefl (whole (pos 0)) (subst (λ x. whole (pos 0) <ℚ x) (sum_by_ℚ-nil f) above))
some_above f a (suc n) above =
    elim (≤ℚ_or_above (f a) (whole (pos 0))) [
      | inl below ↦ sooner f a n (some_above f (a + 1) n (rest_above (f a) _ below (subst (λ x. whole (pos 0) <ℚ x) (first_apart f a n) above)))
      | inr here ↦ (a, omega arith, omega arith, here)
    ]

-- a sum at least 0 with a term below 0 has one above 0
pub some_above_for : (f : ℕ → Number) (a n q : ℕ) → a ≤ q → q < a + n → f q <ℚ whole (pos 0) → whole (pos 0) ≤ℚ sum_by_ℚ f (range_with_len a n) → SomeAbove f a n
some_above_for f a zero q from to below above = absurd (omega arith)
some_above_for f a (suc n) q from to below above =
    let parts : whole (pos 0) ≤ℚ f a +ℚ sum_by_ℚ f (range_with_len (a + 1) n) = subst (λ x. whole (pos 0) ≤ℚ x) (first_apart f a n) above in
    elim (same_or_not a q) [
      | inl same ↦ sooner f a n (some_above f (a + 1) n (rest_strict (f a) _ (subst (λ c. f c <ℚ whole (pos 0)) (sym same) below) parts))
      | inr other ↦ elim (≤ℚ_or_above (f a) (whole (pos 0))) [
        | inl most ↦ sooner f a n (some_above_for f (a + 1) n q (omega arith) (omega arith) below (rest_at_least (f a) _ most parts))
        | inr here ↦ (a, omega arith, omega arith, here)
      ]
    ]
