-- The exchange preserves what the equations state: each row after it is a row before it, less a
-- multiple of the pivot row.
use mathlib.Core.Bool.{and-false}
use Rattle.std.proofs.Common.{◌≡◌, ◌≢◌, ℕ, zero, suc, ◌+◌, ◌<◌, ◌==◌, ◌&&◌, inl, inr, true, false, pos, cond, List, [], ◌∷◌, length, length-set, sym, ap, ap₂, ◌∙◌, subst, arith}
use Rattle.std.specs.List.{range_with_len}
use Rattle.std.specs.Prelude.{slice_set}
use Rattle.std.proofs.lemmas.Bool.Decides.{nat_tests}
use Rattle.gq_number.specs.Number.{Number, whole, ◌+ℚ◌, ◌-ℚ◌, ◌*ℚ◌, ◌/ℚ◌}
use Rattle.gq_number.specs.Sums.{sum_by_ℚ}
use Rattle.gq_number.proofs.Field.{/ℚ_is}
use Rattle.gq_number.proofs.Ring.{ring_ℚ, *ℚ-zero}
use Rattle.gq_number.proofs.Quotients.{zero-/ℚ, /ℚ-*ℚ_self}
use Rattle.gq_number.proofs.Ring.{zero-*ℚ}
use Rattle.gq_number.proofs.Sums.{sums_ℚ, sum_by_ℚ-nil, sum_by_ℚ-cons}
use Rattle.lp_core.specs.Sums.{value_of_column}
use Rattle.lp_core.specs.Dictionary.{Dictionary, Meets, basic_at, entry_at, row_at, divided_entry, exchanged_numbers, exchanged}
use Rattle.lp_fraction_dict.proofs.Improving.{same_or_not}

-- the sum of a row less its constant, by the row's numbers
abbrev pub row_of : (ℕ → Number) → ℕ → List Number → Number
row_of numbers variables x = sum_by_ℚ (λ v. numbers (v + 1) *ℚ value_of_column x v) (range_with_len 0 (variables + 1)) -ℚ numbers 0

-- a row over a number
pub row_of-divided : (numbers : ℕ → Number) (variables : ℕ) (x : List Number) (a : Number) → row_of (λ c. numbers c /ℚ a) variables x ≡ row_of numbers variables x /ℚ a
row_of-divided numbers variables x a = simp (/ℚ_is, sums_ℚ, ring_ℚ)

-- a row less a multiple of another
pub row_of-lessened : (numbers others : ℕ → Number) (variables : ℕ) (x : List Number) (f : Number) → row_of (λ c. numbers c -ℚ f *ℚ others c) variables x ≡ row_of numbers variables x -ℚ f *ℚ row_of others variables x
row_of-lessened numbers others variables x f = simp (sums_ℚ, ring_ℚ)

sum_same : {X : Type 0} (f g : X → Number) → ((v : X) → f v ≡ g v) → (xs : List X) → sum_by_ℚ f xs ≡ sum_by_ℚ g xs
sum_same f g h [] = sum_by_ℚ-nil f ∙ sym (sum_by_ℚ-nil g)
sum_same f g h (x ∷ xs) = sum_by_ℚ-cons f x xs ∙ ap₂ (λ a b. a +ℚ b) (h x) (sum_same f g h xs) ∙ sym (sum_by_ℚ-cons g x xs)

pub eq_other : (a b : ℕ) → a ≢ b → (a == b) ≡ false
eq_other a b h = grind (arith, nat_tests)

pub eq_same : (a : ℕ) → (a == a) ≡ true
eq_same a = grind (arith, nat_tests)

-- rows with the same numbers have the same value
row_of_same : (f g : ℕ → Number) (variables : ℕ) (x : List Number) → f 0 ≡ g 0 → ((v : ℕ) → f (v + 1) *ℚ value_of_column x v ≡ g (v + 1) *ℚ value_of_column x v) → row_of f variables x ≡ row_of g variables x
row_of_same f g variables x constant numbers =
    ap₂ (λ s c. s -ℚ c) (sum_same (λ v. f (v + 1) *ℚ value_of_column x v) (λ v. g (v + 1) *ℚ value_of_column x v) numbers (range_with_len 0 (variables + 1))) constant

module _ (d : Dictionary) (q k : ℕ) (x : List Number) (gone : basic_at d k ≡ 0 → value_of_column x 0 ≡ whole (pos 0)) where
  -- where variable 0 leaves its column counts for nothing
  dropped_constant : (i : ℕ) → (exchanged d q k).numbers i 0 ≡ exchanged_numbers d q k i 0
  dropped_constant i = ap (λ b. cond b (whole (pos 0)) (exchanged_numbers d q k i 0)) (and-false (basic_at d k == 0))

  dropped_number : (i v : ℕ) → (exchanged d q k).numbers i (v + 1) *ℚ value_of_column x v ≡ exchanged_numbers d q k i (v + 1) *ℚ value_of_column x v
  dropped_number i zero =
      elim (same_or_not (basic_at d k) 0) [
        | inl is ↦ ap (λ y. (exchanged d q k).numbers i 1 *ℚ y) (gone is) ∙ *ℚ-zero ((exchanged d q k).numbers i 1) ∙ sym (ap (λ y. exchanged_numbers d q k i 1 *ℚ y) (gone is) ∙ *ℚ-zero (exchanged_numbers d q k i 1))
        | inr other ↦ ap (λ b. (cond (b && true) (whole (pos 0)) (exchanged_numbers d q k i 1)) *ℚ value_of_column x 0) (eq_other (basic_at d k) 0 other)
      ]
  dropped_number i (suc v) =
      ap (λ t. (cond (basic_at d k == 0 && t) (whole (pos 0)) (exchanged_numbers d q k i (suc v + 1))) *ℚ value_of_column x (suc v)) (eq_other (suc v + 1) 1 (λ is. absurd (omega arith)))
      ∙ ap (λ b. (cond b (whole (pos 0)) (exchanged_numbers d q k i (suc v + 1))) *ℚ value_of_column x (suc v)) (and-false (basic_at d k == 0))

  pub row_exchanged : (i : ℕ) → row_at (exchanged d q k) i x ≡ row_of (exchanged_numbers d q k i) d.variables x
  row_exchanged i = row_of_same ((exchanged d q k).numbers i) (exchanged_numbers d q k i) d.variables x (dropped_constant i) (dropped_number i)

  pick : (c : ℕ) → exchanged_numbers d q k k c ≡ divided_entry d q k c
  pick c = ap (λ b. cond b (divided_entry d q k c) (d.numbers k c -ℚ entry_at d k q *ℚ divided_entry d q k c)) (eq_same k)

  -- the row of the pivot is divided
  pub row_of_pivot : row_at (exchanged d q k) k x ≡ row_at d k x /ℚ entry_at d k q
  row_of_pivot =
      row_exchanged k
      ∙ row_of_same (exchanged_numbers d q k k) (divided_entry d q k) d.variables x (pick 0) (λ v. ap (λ y. y *ℚ value_of_column x v) (pick (v + 1)))
      ∙ row_of-divided (d.numbers k) d.variables x (entry_at d k q)

  other_number : (i : ℕ) → i ≢ k → (c : ℕ) → exchanged_numbers d q k i c ≡ d.numbers i c -ℚ entry_at d i q *ℚ divided_entry d q k c
  other_number i other c = ap (λ b. cond b (divided_entry d q k c) (d.numbers i c -ℚ entry_at d i q *ℚ divided_entry d q k c)) (eq_other i k other)

  -- each other row loses a multiple of it
  pub row_of_other : (i : ℕ) → i ≢ k → row_at (exchanged d q k) i x ≡ row_at d i x -ℚ entry_at d i q *ℚ (row_at d k x /ℚ entry_at d k q)
  row_of_other i other =
      row_exchanged i
      ∙ row_of_same (exchanged_numbers d q k i) (λ c. d.numbers i c -ℚ entry_at d i q *ℚ divided_entry d q k c) d.variables x (other_number i other 0) (λ v. ap (λ y. y *ℚ value_of_column x v) (other_number i other (v + 1)))
      ∙ row_of-lessened (d.numbers i) (divided_entry d q k) d.variables x (entry_at d i q)
      ∙ ap (λ r. row_at d i x -ℚ entry_at d i q *ℚ r) (row_of-divided (d.numbers k) d.variables x (entry_at d k q))

pub less_nothing : (x f a y : Number) → y ≡ whole (pos 0) → x -ℚ f *ℚ (y /ℚ a) ≡ x
less_nothing x f a y none = rw (none, zero-/ℚ a) (simp ring_ℚ)

pub no_quotient : (y a : Number) → a ≢ whole (pos 0) → y /ℚ a ≡ whole (pos 0) → y ≡ whole (pos 0)
no_quotient y a some none = sym (/ℚ-*ℚ_self y a some) ∙ ap (λ z. z *ℚ a) none ∙ zero-*ℚ a

-- Values satisfy the equations after an exchange, the objective included, exactly if they satisfy
-- those before it.
module _ (d : Dictionary) (q k : ℕ) (x : List Number) (objective : Number) (within : k < length d.basic) (some : entry_at d k q ≢ whole (pos 0)) (gone : basic_at d k ≡ 0 → value_of_column x 0 ≡ whole (pos 0)) where
  other_same : row_at d k x ≡ whole (pos 0) → (i : ℕ) → i ≢ k → row_at (exchanged d q k) i x ≡ row_at d i x
  other_same none i other = row_of_other d q k x gone i other ∙ less_nothing (row_at d i x) (entry_at d i q) (entry_at d k q) (row_at d k x) none

  same_size : length (slice_set d.basic k q) ≡ length d.basic
  same_size = length-set d.basic k q

  pub meets_after : Meets d x objective → Meets (exchanged d q k) x objective
  meets_after m =
      let none = m.rows k within in
      record {
        sized = m.sized;
        rows = λ i less. elim (same_or_not i k) [
          | inl is ↦ subst (λ j. row_at (exchanged d q k) j x ≡ whole (pos 0)) (sym is) (row_of_pivot d q k x gone ∙ ap (λ y. y /ℚ entry_at d k q) none ∙ zero-/ℚ (entry_at d k q))
          | inr other ↦ other_same none i other ∙ m.rows i (subst (λ n. i < n) same_size less)
        ];
        objective_row = subst (λ n. row_at (exchanged d q k) n x ≡ objective) (sym same_size) (other_same none (length d.basic) (λ is. absurd (omega arith)) ∙ m.objective_row);
      }

  pub meets_before : Meets (exchanged d q k) x objective → Meets d x objective
  meets_before m =
      let none = no_quotient (row_at d k x) (entry_at d k q) some (sym (row_of_pivot d q k x gone) ∙ m.rows k (subst (λ n. k < n) (sym same_size) within)) in
      record {
        sized = m.sized;
        rows = λ i less. elim (same_or_not i k) [
          | inl is ↦ subst (λ j. row_at d j x ≡ whole (pos 0)) (sym is) none
          | inr other ↦ sym (other_same none i other) ∙ m.rows i (subst (λ n. i < n) (sym same_size) less)
        ];
        objective_row = sym (other_same none (length d.basic) (λ is. absurd (omega arith))) ∙ subst (λ n. row_at (exchanged d q k) n x ≡ objective) same_size m.objective_row;
      }
