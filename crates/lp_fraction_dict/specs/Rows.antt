-- Rows of a dictionary that store only numbers other than 0: what they mean, and what the crate's
-- functions do with them.
use Rattle.std.specs.Prelude.{◌≡◌, ◌≢◌, ◌⊎◌, ℕ, ◌+◌, ◌<◌, ◌≤◌, ◌==◌, pos, true, false, List, [], ◌∷◌, ◌++◌, Option, Some, None, Result, Ok, Err, IfOk, IfErr, if◌then◌else◌}
use Rattle.gq_number.specs.Number.{Number, whole, ◌-ℚ◌, ◌*ℚ◌, ◌/ℚ◌}
use Rattle.lp_core.specs.Steps.{product_fits, quotient_fits, difference_fits}
use Rattle.lp_fraction_dict.specs.declared.row.Entry.{Entry}
use Rattle.lp_fraction_dict.specs.declared.fault.Part.{Part}
use Rattle.lp_fraction_dict.specs.declared.fault.Part.TheVariants as part
use Rattle.lp_fraction_dict.specs.declared.fault.RowFault.{RowFault}
use Rattle.lp_fraction_dict.specs.declared.fault.RowFault.TheVariants as fault

-- the entries ascend by column, from column `low` on and below `high`, and none is 0
abbrev pub IsRow : {F : Type 0} → (F → Number) → ℕ → ℕ → List (Entry F) → Type 0
IsRow value low high [] = Unit {0}
IsRow value low high (e ∷ es) = (low ≤ e.column) × (e.column < high) × (value e.number ≢ whole (pos 0)) × IsRow value (e.column + 1) high es

-- the number of a row at a column; 0 without an entry in this column
abbrev pub number_in : {F : Type 0} → (F → Number) → List (Entry F) → ℕ → Number
number_in value [] column = whole (pos 0)
number_in value (e ∷ es) column = if e.column == column then value e.number else number_in value es column

-- the first entry, if any, is at this column or after it
abbrev pub StartsFrom : {F : Type 0} → ℕ → List (Entry F) → Type 0
StartsFrom column [] = Unit {0}
StartsFrom column (e ∷ es) = column ≤ e.column

-- there is a first entry, and it is at this column
abbrev pub StartsAt : {F : Type 0} → ℕ → List (Entry F) → Type 0
StartsAt column [] = ⊥
StartsAt column (e ∷ es) = e.column ≡ column

-- the column is the least that a first entry of two rows has; None: both rows are empty
abbrev pub IsNextColumn : {F : Type 0} → List (Entry F) → List (Entry F) → Option ℕ → Type 0
IsNextColumn row other None = (row ≡ []) × (other ≡ [])
IsNextColumn row other (Some column) = StartsFrom column row × StartsFrom column other × (StartsAt column row ⊎ StartsAt column other)

-- Some: the first entry of the row is at this column with this number, and `rest` has the entries
-- after it. None: the row does not start at the column, and `rest` is the row.
abbrev pub SplitsAt : {F : Type 0} → List (Entry F) → ℕ → Option F → List (Entry F) → Type 0
SplitsAt row column (Some number) rest = row ≡ record { column = column; number = number } ∷ rest
SplitsAt row column None rest = (rest ≡ row) × ¬ (StartsAt column row)

-- the number that x means, if there is an x (Some); 0 if there is none
abbrev pub number_or_zero : {F : Type 0} → (F → Number) → Option F → Number
number_or_zero value (Some x) = value x
number_or_zero value None = whole (pos 0)

-- both steps that subtract factor · y from x fit under the limit of numerators and denominators:
-- the product, and the difference
abbrev pub StepsFit : ℕ → Number → Number → Number → Type 0
StepsFit limit x factor y = (product_fits limit factor y ≡ true) × (difference_fits limit x (factor *ℚ y) ≡ true)

-- of the two steps that subtract factor · y from x, the product and the difference, this part is
-- the first that does not fit under the limit of numerators and denominators
abbrev pub Misfits : ℕ → Number → Number → Number → Part → Type 0
Misfits limit x factor y part.Product = product_fits limit factor y ≡ false
Misfits limit x factor y part.Difference = (product_fits limit factor y ≡ true) × (difference_fits limit x (factor *ℚ y) ≡ false)

-- What `number` less factor · `other` gives, where an absent number is 0. Ok: the difference, and
-- both steps, the product and the difference, fit under the limit of numerators and denominators.
-- Err: the first of the two steps that does not fit.
abbrev pub Lessens : {F : Type 0} → (F → Number) → ℕ → Option F → F → Option F → Result F Part → Type 0
Lessens value limit number factor other (Ok z) =
    StepsFit limit (number_or_zero value number) (value factor) (number_or_zero value other) × (value z ≡ number_or_zero value number -ℚ value factor *ℚ number_or_zero value other)
Lessens value limit number factor other (Err p) = Misfits limit (number_or_zero value number) (value factor) (number_or_zero value other) p

-- the number is appended to the entries at its column, or, if it is 0, the entries are unchanged
abbrev pub PushesUnlessZero : {F : Type 0} → (F → Number) → ℕ → F → List (Entry F) → List (Entry F) → Type 0
PushesUnlessZero value column number before now =
    ((value number ≢ whole (pos 0)) × (now ≡ before ++ record { column = column; number = number } ∷ [])) ⊎ ((value number ≡ whole (pos 0)) × (now ≡ before))

-- Q holds of the column of the step that exceeds the limit on the size of numbers, and of its part,
-- which says whether the step is a product (or quotient) or a difference; out of memory makes no
-- claim
abbrev pub InRow : (ℕ → Part → Type 0) → RowFault → Type 0
InRow Q (fault.Limit column part) = Q column part
InRow Q fault.Memory = Unit {0}

-- Ok: P holds of the value. Err: Q holds of the column at which a step does not fit and of the
-- part, which says whether the step is a product (or quotient) or a difference; out of memory makes
-- no claim.
abbrev pub OnRow : {T : Type 0} → (T → Type 0) → (ℕ → Part → Type 0) → Result T RowFault → Type 0
OnRow P Q r = IfOk r P × IfErr r (InRow Q)

-- The row `made` is `row` less a factor times the row `other`, at each column, and each product and
-- difference of this fits under the limit of numerators and denominators. The columns of `made` are
-- below `high`.
pub record IsLessened {F : Type 0} (value : F → Number) (limit high : ℕ) (row : List (Entry F)) (factor : Number) (other made : List (Entry F)) : Type 0 where
  pub is_row : IsRow value 0 high made
  pub numbers : (c : ℕ) → number_in value made c ≡ number_in value row c -ℚ factor *ℚ number_in value other c
  pub fit : (c : ℕ) → StepsFit limit (number_in value row c) factor (number_in value other c)

-- A factor times the row `other` is subtracted from `row`, column by column. The first step that
-- does not fit under the limit of numerators and denominators is at this column, below `high`; p
-- says whether it is the product or the difference.
pub record IsFirstMisfit {F : Type 0} (value : F → Number) (limit high : ℕ) (row : List (Entry F)) (factor : Number) (other : List (Entry F)) (column : ℕ) (p : Part) : Type 0 where
  pub within : column < high
  pub before : (c : ℕ) → c < column → StepsFit limit (number_in value row c) factor (number_in value other c)
  pub here : Misfits limit (number_in value row column) factor (number_in value other column) p

-- The row `made` is `row` over a divisor, at each column, and each quotient fits under the limit of
-- numerators and denominators. The columns of `made` are below `high`.
pub record IsDivided {F : Type 0} (value : F → Number) (limit high : ℕ) (row : List (Entry F)) (divisor : Number) (made : List (Entry F)) : Type 0 where
  pub is_row : IsRow value 0 high made
  pub numbers : (c : ℕ) → number_in value made c ≡ number_in value row c /ℚ divisor
  pub fit : (c : ℕ) → quotient_fits limit (number_in value row c) divisor ≡ true

-- As `row` is divided, the first quotient that does not fit under the limit of numerators and
-- denominators is at this column, below `high`; those at the columns before it fit. The part p is
-- Product, which names a quotient too.
pub record IsFirstUndivided {F : Type 0} (value : F → Number) (limit high : ℕ) (row : List (Entry F)) (divisor : Number) (column : ℕ) (p : Part) : Type 0 where
  pub is_product : p ≡ part.Product
  pub within : column < high
  pub before : (c : ℕ) → c < column → quotient_fits limit (number_in value row c) divisor ≡ true
  pub here : quotient_fits limit (number_in value row column) divisor ≡ false
