-- The loop through two rows, column by column: the made entries are right at the columns before,
-- and the rest of each row remains.
use Rattle.std.proofs.Common.{◌≡◌, ◌≢◌, ℕ, ◌+◌, ◌<◌, ◌≤◌, inl, inr, true, pos, List, [], ◌∷◌, length, Option, Some, None, Ok, refl, sym, ap, ap₂, ◌∙◌, subst, subst₂, arith}
use Rattle.std.specs.Prelude.{unwrap_or}
use Rattle.std.proofs.lemmas.Bool.{cases_lt}
use Rattle.gq_number.specs.Number.{Number, whole, ◌-ℚ◌, ◌*ℚ◌, neg_ℚ}
use Rattle.gq_number.proofs.Ring.{neg-zero, *ℚ-zero, zero-*ℚ, ring_ℚ, neg_is}
use Rattle.gq_field.specs.Fits.{fits}
use Rattle.lp_core.specs.Steps.{product_fits}
use Rattle.lp_form.proofs.Zeros.{sum_fits-zero, zero-sum_fits, fits-zero}
use Rattle.lp_fraction_dict.specs.declared.row.Entry.{Entry}
use Rattle.lp_fraction_dict.specs.declared.fault.Part.{Part}
use Rattle.lp_fraction_dict.specs.Rows.{IsRow, number_in, StartsFrom, StartsAt, IsNextColumn, SplitsAt, number_or_zero, StepsFit, Misfits, Lessens, PushesUnlessZero, IsLessened, IsFirstMisfit}
use Rattle.lp_fraction_dict.proofs.Rows.{number_first, number_later, number_below, number_above, row_from, row_to, number_after, number_before, row_pushed}

not_at : (a m : ℕ) → a ≢ m → m ≤ a → m + 1 ≤ a
not_at a m other from = omega arith

-- steps with 0 fit
pub zero_steps_fit : (limit : ℕ) (x factor : Number) → 1 ≤ limit → fits limit x ≡ true → StepsFit limit x factor (whole (pos 0))
zero_steps_fit limit x factor some h =
    (rw (*ℚ-zero factor) (fits-zero limit some), rw (*ℚ-zero factor, neg-zero) (sum_fits-zero limit x h))

-- steps with a factor 0 fit
pub zero_factor_fits : (limit : ℕ) (x y : Number) → 1 ≤ limit → fits limit x ≡ true → StepsFit limit x (whole (pos 0)) y
zero_factor_fits limit x y some h =
    (rw (zero-*ℚ y) (fits-zero limit some), rw (zero-*ℚ y, neg-zero) (sum_fits-zero limit x h))

less-zero : (x factor : Number) → x ≡ x -ℚ factor *ℚ whole (pos 0)
less-zero x factor = simp ring_ℚ

pub record Left {F : Type 0} (value : F → Number) (high : ℕ) (row rest : List (Entry F)) (k : ℕ) : Type 0 where
  pub is_row : IsRow value k high rest
  pub numbers : (c : ℕ) → k ≤ c → number_in value row c ≡ number_in value rest c

-- the numbers of a row passed up to a column m: none before it, this one at it, and the rest after
-- it
pub record Passed {F : Type 0} (value : F → Number) (high : ℕ) (row rest : List (Entry F)) (k m : ℕ) (x : Number) : Type 0 where
  pub before : (c : ℕ) → k ≤ c → c < m → number_in value row c ≡ whole (pos 0)
  pub here : number_in value row m ≡ x
  pub left : Left value high row rest (m + 1)

module _ {F : Type 0} (value : F → Number) (high : ℕ) where
  pub passed : (row rest after : List (Entry F)) (k m : ℕ) (x : Option F) → Left value high row rest k → k ≤ m → StartsFrom m rest → SplitsAt rest m x after → Passed value high row after k m (number_or_zero value x)
  passed row rest after k m (Some x) left more starts split =
      let rest_row = subst (IsRow value k high) split left.is_row in
      record {
        before = λ c from to. left.numbers c from ∙ number_below value rest m high c (row_from value rest k high m left.is_row starts) to;
        here = left.numbers m more ∙ ap (λ r. number_in value r m) split ∙ number_first value (record { column = m; number = x }) after m refl;
        left = record {
          is_row = rest_row.3;
          numbers = λ c from. left.numbers c (omega arith) ∙ ap (λ r. number_in value r c) split ∙ number_later value (record { column = m; number = x }) after c (λ is. absurd (omega arith));
        };
      }
  passed row [] after k m None left more starts split =
      rw (split.0) (record {
        before = λ c from to. left.numbers c from;
        here = left.numbers m more;
        left = record { is_row = tt; numbers = λ c from. left.numbers c (omega arith) };
      })
  passed row (e ∷ es) after k m None left more starts split =
      let later : m + 1 ≤ e.column = not_at e.column m split.1 starts in
      let from_later = row_from value (e ∷ es) k high (m + 1) left.is_row later in
      rw (split.0) (record {
        before = λ c from to. left.numbers c from ∙ number_below value (e ∷ es) (m + 1) high c from_later (omega arith);
        here = left.numbers m more ∙ number_below value (e ∷ es) (m + 1) high m from_later (omega arith);
        left = record { is_row = from_later; numbers = λ c from. left.numbers c (omega arith) };
      })

-- a row that begins at a column has it within its bounds
pub starts_within : {F : Type 0} (value : F → Number) (rest : List (Entry F)) (k high m : ℕ) → IsRow value k high rest → StartsAt m rest → (k ≤ m) × (m < high)
starts_within value [] k high m h starts = absurd starts
starts_within value (e ∷ es) k high m h starts =
    let least = h.0 in
    let most = h.1 in
    (omega arith, omega arith)

-- what is pushed is there at its column, and all else is as before
pub pushed_here : {F : Type 0} (value : F → Number) (made now : List (Entry F)) (k m : ℕ) (z : F) → IsRow value 0 k made → k ≤ m → PushesUnlessZero value m z made now → number_in value now m ≡ value z
pushed_here value made now k m z h more pushed =
    elim pushed [
      | inl p ↦ ap (λ r. number_in value r m) p.1 ∙ number_after value made (record { column = m; number = z } ∷ []) 0 k m h more ∙ number_first value (record { column = m; number = z }) [] m refl
      | inr p ↦ ap (λ r. number_in value r m) p.1 ∙ number_above value made 0 k m h more ∙ sym p.0
    ]

pub pushed_other : {F : Type 0} (value : F → Number) (made now : List (Entry F)) (m c : ℕ) (z : F) → m ≢ c → PushesUnlessZero value m z made now → number_in value now c ≡ number_in value made c
pushed_other value made now m c z other pushed =
    elim pushed [
      | inl p ↦ ap (λ r. number_in value r c) p.1 ∙ number_before value made (record { column = m; number = z } ∷ []) c (number_later value (record { column = m; number = z }) [] c other)
      | inr p ↦ ap (λ r. number_in value r c) p.1
    ]

pub pushed_row : {F : Type 0} (value : F → Number) (made now : List (Entry F)) (k m : ℕ) (z : F) → IsRow value 0 k made → k ≤ m → PushesUnlessZero value m z made now → IsRow value 0 (m + 1) now
pushed_row value made now k m z h more pushed =
    elim pushed [
      | inl p ↦ subst (IsRow value 0 (m + 1)) (sym p.1) (row_pushed value made (record { column = m; number = z }) 0 k h (omega arith) more p.0)
      | inr p ↦ subst (IsRow value 0 (m + 1)) (sym p.1) (row_to value made 0 k (m + 1) h (omega arith))
    ]

-- Two rows passed up to a column: what remains of each, and what the earlier entries resulted in.
pub record Walking {F : Type 0} (value : F → Number) (limit high : ℕ) (row : List (Entry F)) (factor : Number) (other left_rest right_rest made : List (Entry F)) : Type 0 where
  pub column : ℕ
  pub within : column ≤ high
  pub left : Left value high row left_rest column
  pub right : Left value high other right_rest column
  pub is_row : IsRow value 0 column made
  pub numbers : (c : ℕ) → c < column → number_in value made c ≡ number_in value row c -ℚ factor *ℚ number_in value other c
  pub fit : (c : ℕ) → c < column → StepsFit limit (number_in value row c) factor (number_in value other c)

zero-less : (x y factor z : Number) → x ≡ whole (pos 0) → y ≡ whole (pos 0) → z ≡ whole (pos 0) → z ≡ x -ℚ factor *ℚ y
zero-less x y factor z e f h = rw (e, f, h) (simp ring_ℚ)

zeros_fit : (limit : ℕ) (x y factor : Number) → 1 ≤ limit → x ≡ whole (pos 0) → y ≡ whole (pos 0) → StepsFit limit x factor y
zeros_fit limit x y factor some e f = rw (e, f) (zero_steps_fit limit (whole (pos 0)) factor some (fits-zero limit some))

module _ {F : Type 0} (value : F → Number) (limit high : ℕ) (row : List (Entry F)) (factor : Number) (other : List (Entry F)) (some : 1 ≤ limit) where
  pub traversal_begins : IsRow value 0 high row → IsRow value 0 high other → Walking value limit high row factor other row other []
  traversal_begins h g =
      record {
        column = 0;
        within = omega arith;
        left = record { is_row = h; numbers = λ c from. refl };
        right = record { is_row = g; numbers = λ c from. refl };
        is_row = tt;
        numbers = λ c to. absurd (omega arith);
        fit = λ c to. absurd (omega arith);
      }

  next_within : (left right made : List (Entry F)) (m : ℕ) → (w : Walking value limit high row factor other left right made) → IsNextColumn left right (Some m) → (w.column ≤ m) × (m < high)
  next_within left right made m w next =
      elim next.2 [
        | inl starts ↦ starts_within value left w.column high m w.left.is_row starts
        | inr starts ↦ starts_within value right w.column high m w.right.is_row starts
      ]

  module _ (left right made left_after right_after : List (Entry F)) (m : ℕ) (x y : Option F) (w : Walking value limit high row factor other left right made) (next : IsNextColumn left right (Some m)) (left_splits : SplitsAt left m x left_after) (right_splits : SplitsAt right m y right_after) where
    bounds : (w.column ≤ m) × (m < high)
    bounds = next_within left right made m w next

    row_passed : Passed value high row left_after w.column m (number_or_zero value x)
    row_passed = passed value high row left left_after w.column m x w.left bounds.0 next.0 left_splits

    other_passed : Passed value high other right_after w.column m (number_or_zero value y)
    other_passed = passed value high other right right_after w.column m y w.right bounds.0 next.1 right_splits

    fit_before : (c : ℕ) → c < m → StepsFit limit (number_in value row c) factor (number_in value other c)
    fit_before c to =
        elim (cases_lt c w.column) [
          | inl less ↦ w.fit c less
          | inr more ↦ zeros_fit limit (number_in value row c) (number_in value other c) factor some (row_passed.before c more to) (other_passed.before c more to)
        ]

    pub traversal_misfits : (p : Part) → Misfits limit (number_or_zero value x) factor (number_or_zero value y) p → IsFirstMisfit value limit high row factor other m p
    traversal_misfits p h =
        record {
          within = bounds.1;
          before = fit_before;
          here = subst₂ (λ a b. Misfits limit a factor b p) (sym row_passed.here) (sym other_passed.here) h;
        }

    module _ (z : F) (now : List (Entry F)) (fits_here : StepsFit limit (number_or_zero value x) factor (number_or_zero value y)) (is : value z ≡ number_or_zero value x -ℚ factor *ℚ number_or_zero value y) (pushed : PushesUnlessZero value m z made now) where
      number_before_m : (c : ℕ) → c < m → number_in value now c ≡ number_in value row c -ℚ factor *ℚ number_in value other c
      number_before_m c to =
          pushed_other value made now m c z (λ same. absurd (omega arith)) pushed
          ∙ elim (cases_lt c w.column) [
            | inl less ↦ w.numbers c less
            | inr more ↦ zero-less (number_in value row c) (number_in value other c) factor (number_in value made c) (row_passed.before c more to) (other_passed.before c more to) (number_above value made 0 w.column c w.is_row more)
          ]

      number_at_m : number_in value now m ≡ number_in value row m -ℚ factor *ℚ number_in value other m
      number_at_m = pushed_here value made now w.column m z w.is_row bounds.0 pushed ∙ is ∙ ap₂ (λ a b. a -ℚ factor *ℚ b) (sym row_passed.here) (sym other_passed.here)

      fit_at_m : StepsFit limit (number_in value row m) factor (number_in value other m)
      fit_at_m = subst₂ (λ a b. StepsFit limit a factor b) (sym row_passed.here) (sym other_passed.here) fits_here

      pub traversal_goes : Walking value limit high row factor other left_after right_after now
      traversal_goes =
          let most = bounds.1 in
          record {
            column = m + 1;
            within = omega arith;
            left = row_passed.left;
            right = other_passed.left;
            is_row = pushed_row value made now w.column m z w.is_row bounds.0 pushed;
            numbers = λ c to. elim (cases_lt c m) [
              | inl less ↦ number_before_m c less
              | inr more ↦ let same : m ≡ c = omega arith in subst (λ d. number_in value now d ≡ number_in value row d -ℚ factor *ℚ number_in value other d) same number_at_m
            ];
            fit = λ c to. elim (cases_lt c m) [
              | inl less ↦ fit_before c less
              | inr more ↦ let same : m ≡ c = omega arith in subst (λ d. StepsFit limit (number_in value row d) factor (number_in value other d)) same fit_at_m
            ];
          }

  pub traversal_ends : (left right made : List (Entry F)) → Walking value limit high row factor other left right made → IsNextColumn left right None → IsLessened value limit high row factor other made
  traversal_ends left right made w next =
      let row_zero : (c : ℕ) → w.column ≤ c → number_in value row c ≡ whole (pos 0) = λ c more. w.left.numbers c more ∙ ap (λ r. number_in value r c) next.0 in
      let other_zero : (c : ℕ) → w.column ≤ c → number_in value other c ≡ whole (pos 0) = λ c more. w.right.numbers c more ∙ ap (λ r. number_in value r c) next.1 in
      record {
        is_row = row_to value made 0 w.column high w.is_row w.within;
        numbers = λ c. elim (cases_lt c w.column) [
          | inl less ↦ w.numbers c less
          | inr more ↦ zero-less (number_in value row c) (number_in value other c) factor (number_in value made c) (row_zero c more) (other_zero c more) (number_above value made 0 w.column c w.is_row more)
        ];
        fit = λ c. elim (cases_lt c w.column) [
          | inl less ↦ w.fit c less
          | inr more ↦ zeros_fit limit (number_in value row c) (number_in value other c) factor some (row_zero c more) (other_zero c more)
        ];
      }

-- one entry fewer remains
splits_length : {F : Type 0} (rest after : List (Entry F)) (m : ℕ) (x : Option F) → SplitsAt rest m x after → length after ≤ length rest
splits_length rest after m (Some x) split = let same = ap length split in omega arith
splits_length rest after m None split = let same = ap length split.0 in omega arith

splits_shorter : {F : Type 0} (rest after : List (Entry F)) (m : ℕ) (x : Option F) → SplitsAt rest m x after → StartsAt m rest → length after < length rest
splits_shorter rest after m (Some x) split starts = let same = ap length split in omega arith
splits_shorter rest after m None split starts = absurd (split.1 starts)

pub traversal_shrinks : {F : Type 0} (left right left_after right_after : List (Entry F)) (m : ℕ) (x y : Option F) → IsNextColumn left right (Some m) → SplitsAt left m x left_after → SplitsAt right m y right_after → length left_after + length right_after < length left + length right
traversal_shrinks left right left_after right_after m x y next left_splits right_splits =
    let a = splits_length left left_after m x left_splits in
    let b = splits_length right right_after m y right_splits in
    elim next.2 [
      | inl starts ↦ let s = splits_shorter left left_after m x left_splits starts in omega arith
      | inr starts ↦ let s = splits_shorter right right_after m y right_splits starts in omega arith
    ]

-- ---- a number less a factor times another, of which some may not be there

fits_or_zero : {F : Type 0} (value : F → Number) (limit : ℕ) → 1 ≤ limit → ((x : F) → fits limit (value x) ≡ true) → (x : Option F) → fits limit (number_or_zero value x) ≡ true
fits_or_zero value limit some within (Some x) = within x
fits_or_zero value limit some within None = fits-zero limit some

value_or_zero : {F : Type 0} (value : F → Number) (zero z : F) (x : Option F) → value zero ≡ whole (pos 0) → z ≡ unwrap_or x zero → value z ≡ number_or_zero value x
value_or_zero value zero z (Some x) is from = ap value from
value_or_zero value zero z None is from = ap value from ∙ is

pub lessened_by_none : {F : Type 0} (value : F → Number) (limit : ℕ) (x : Option F) (factor zero z : F) (y : Option F) → 1 ≤ limit → ((x : F) → fits limit (value x) ≡ true) → y ≡ None → value zero ≡ whole (pos 0) → z ≡ unwrap_or x zero → Lessens value limit x factor y (Ok z)
lessened_by_none value limit x factor zero z y some within none is from =
    rw none (zero_steps_fit limit (number_or_zero value x) (value factor) some (fits_or_zero value limit some within x), value_or_zero value zero z x is from ∙ less-zero (number_or_zero value x) (value factor))

pub lessened_none : {F : Type 0} (value : F → Number) (limit : ℕ) (x : Option F) (factor y product z : F) (other : Option F) → ((x : F) → fits limit (value x) ≡ true) → x ≡ None → other ≡ Some y → product_fits limit (value factor) (value y) ≡ true → value product ≡ value factor *ℚ value y → value z ≡ neg_ℚ (value product) → Lessens value limit x factor other (Ok z)
lessened_none value limit x factor y product z other within none there fits_product is_product is =
    let is_z : value z ≡ neg_ℚ (value factor *ℚ value y) = is ∙ ap neg_ℚ is_product in
    rw (none, there) ((fits_product, zero-sum_fits limit (neg_ℚ (value factor *ℚ value y)) (subst (λ n. fits limit n ≡ true) is_z (within z))), is_z ∙ neg_is (value factor *ℚ value y))
