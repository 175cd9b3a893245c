-- Sums over entries and over the numbers of variables.
use Rattle.std.proofs.Common.{◌≡◌, ◌≢◌, ℕ, zero, suc, ◌+◌, ◌<◌, ◌≤◌, cond, eqb, pos, List, [], ◌∷◌, ◌++◌, map, inl, inr, refl, sym, ap, ap₂, ◌∙◌, subst, arith, eq-eqb}
use Rattle.std.specs.List.{All, enumerate_from, range_with_len}
use Rattle.std.proofs.lemmas.Bool.{cases_eq}
use Rattle.std.proofs.lemmas.Bool.Decides.{nat_tests}
use Rattle.std.proofs.lemmas.List.Elements.{All-head, All-tail, All-nil, All-cons}
use Rattle.gq_number.specs.Number.{Number, whole, ◌+ℚ◌, ◌*ℚ◌}
use Rattle.gq_number.specs.Sums.{sum_by_ℚ}
use Rattle.gq_number.proofs.Ring.{zero-*ℚ, zero-+ℚ, +ℚ-*ℚ}
use Rattle.gq_number.proofs.Field.{+ℚ-zero}
use Rattle.gq_number.proofs.Sums.{sum_by_ℚ-nil, sum_by_ℚ-cons, sum_by_ℚ-zero, sum_by_ℚ-+ℚ}
use Rattle.lp_core.specs.Dictionary.{of_variable}
use Rattle.lp_core.proofs.RowSums.{sum_by_same}

-- a number at one place
abbrev pub unit_at : ℕ → Number → ℕ → Number
unit_at k a j = cond (eqb k j) a (whole (pos 0))

pub unit_here : (k : ℕ) (a : Number) → unit_at k a k ≡ a
unit_here k a = rw (eq-eqb k k refl) refl

pub unit_there : (k j : ℕ) (a : Number) → k ≢ j → unit_at k a j ≡ whole (pos 0)
unit_there k j a other = grind (arith, nat_tests)

-- the numbers from a on, joined
pub range-append : (a m n : ℕ) → range_with_len a (m + n) ≡ range_with_len a m ++ range_with_len (a + m) n
range-append a zero n = ap₂ range_with_len (let e : a ≡ a + 0 = omega arith in e) (let e : 0 + n ≡ n = omega arith in e)
range-append a (suc m) n =
    let e : suc m + n ≡ suc (m + n) = omega arith in
    let f : a + 1 + m ≡ a + suc m = omega arith in
    ap (range_with_len a) e ∙ ap (λ xs. a ∷ xs) (range-append (a + 1) m n ∙ ap (λ k. range_with_len (a + 1) m ++ range_with_len k n) f)

module _ (k : ℕ) (c : Number) (f : ℕ → Number) where
  range_past : (a n : ℕ) → k < a → sum_by_ℚ (λ v. unit_at k c v *ℚ f v) (range_with_len a n) ≡ whole (pos 0)
  range_past a zero h = sum_by_ℚ-nil _
  range_past a (suc n) h =
      let other : k ≢ a = omega arith in
      sum_by_ℚ-cons _ a (range_with_len (a + 1) n) ∙ ap₂ (λ u v. u *ℚ f a +ℚ v) (unit_there k a c other) (range_past (a + 1) n (omega arith)) ∙ ap (λ u. u +ℚ whole (pos 0)) (zero-*ℚ (f a)) ∙ zero-+ℚ (whole (pos 0))

  -- the sum over numbers of a term that is 0 except at one of them
  pub range_unit : (a n : ℕ) → a ≤ k → k < a + n → sum_by_ℚ (λ v. unit_at k c v *ℚ f v) (range_with_len a n) ≡ c *ℚ f k
  range_unit a zero low h = absurd (omega arith)
  range_unit a (suc n) low h =
      sum_by_ℚ-cons _ a (range_with_len (a + 1) n) ∙ elim (cases_eq k a) [
        | inl e ↦ ap₂ (λ u v. u *ℚ f a +ℚ v) (subst (λ j. unit_at k c j ≡ c) e (unit_here k c)) (range_past (a + 1) n (omega arith)) ∙ +ℚ-zero (c *ℚ f a) ∙ ap (λ j. c *ℚ f j) (sym e)
        | inr other ↦ ap₂ (λ u v. u *ℚ f a +ℚ v) (unit_there k a c other) (range_unit (a + 1) n (omega arith) (omega arith)) ∙ ap (λ u. u +ℚ c *ℚ f k) (zero-*ℚ (f a)) ∙ zero-+ℚ (c *ℚ f k)
      ]

-- what the entries for each variable add up to, over numbers that they are among
pub range_entries : (f : ℕ → Number) (a n : ℕ) (entries : List (ℕ × Number)) → All (λ (e : ℕ × Number). (a ≤ e.0) × (e.0 < a + n)) entries → sum_by_ℚ (λ v. of_variable entries v *ℚ f v) (range_with_len a n) ≡ sum_by_ℚ (λ (e : ℕ × Number). e.1 *ℚ f e.0) entries
range_entries f a n [] there =
    sum_by_same _ (λ v. whole (pos 0)) (range_with_len a n) (λ v. ap (λ u. u *ℚ f v) (sum_by_ℚ-nil _) ∙ zero-*ℚ (f v)) ∙ sum_by_ℚ-zero (range_with_len a n) ∙ sym (sum_by_ℚ-nil _)
range_entries f a n (e ∷ entries) there =
    let here = All-head (λ (e : ℕ × Number). (a ≤ e.0) × (e.0 < a + n)) e entries there in
    sum_by_same (λ v. of_variable (e ∷ entries) v *ℚ f v) (λ v. unit_at e.0 e.1 v *ℚ f v +ℚ of_variable entries v *ℚ f v) (range_with_len a n)
    (λ v. ap (λ u. u *ℚ f v) (sum_by_ℚ-cons _ e entries) ∙ +ℚ-*ℚ (unit_at e.0 e.1 v) (of_variable entries v) (f v))
    ∙ sum_by_ℚ-+ℚ (λ v. unit_at e.0 e.1 v *ℚ f v) (λ v. of_variable entries v *ℚ f v) (range_with_len a n)
    ∙ ap₂ (λ u w. u +ℚ w) (range_unit e.0 e.1 f a n here.0 here.1) (range_entries f a n entries (All-tail (λ (e : ℕ × Number). (a ≤ e.0) × (e.0 < a + n)) e entries there))
    ∙ sym (sum_by_ℚ-cons _ e entries)

-- a sum over places of a list made by numbers
pub enumerated_range : (f : ℕ → Number) (g : ℕ → Number → Number) (a n : ℕ) → sum_by_ℚ (λ (p : ℕ × Number). g p.0 p.1) (enumerate_from a (map f (range_with_len a n))) ≡ sum_by_ℚ (λ v. g v (f v)) (range_with_len a n)
enumerated_range f g a zero = sum_by_ℚ-nil _ ∙ sym (sum_by_ℚ-nil _)
enumerated_range f g a (suc n) =
    sum_by_ℚ-cons _ (a, f a) (enumerate_from (a + 1) (map f (range_with_len (a + 1) n))) ∙ ap (λ u. g a (f a) +ℚ u) (enumerated_range f g (a + 1) n) ∙ sym (sum_by_ℚ-cons _ a (range_with_len (a + 1) n))

-- ---- what holds of all, in lists joined

pub All-append_left : {X : Type 0} (P : X → Type 0) (xs ys : List X) → All P (xs ++ ys) → All P xs
All-append_left P [] ys all = All-nil P
All-append_left P (x ∷ xs) ys all = All-cons P x xs (All-head P x (xs ++ ys) all) (All-append_left P xs ys (All-tail P x (xs ++ ys) all))

pub All-append_right : {X : Type 0} (P : X → Type 0) (xs ys : List X) → All P (xs ++ ys) → All P ys
All-append_right P [] ys all = all
All-append_right P (x ∷ xs) ys all = All-append_right P xs ys (All-tail P x (xs ++ ys) all)
