-- Counts and numbers of a program against those of its standard form.
use Rattle.std.proofs.Common.{◌≡◌, ℕ, ◌+◌, ◌^◌, ◌<◌, ◌≤◌, List, [], ◌∷◌, length, map, Option, Some, None, refl, ap, ap₂, ◌∙◌, sym, subst, arith}
use Rattle.std.specs.Prelude.{sum_by}
use Rattle.std.specs.List.{All}
use Rattle.std.proofs.lemmas.List.{length-map}
use Rattle.std.proofs.lemmas.List.Sums.{sum_by-cons}
use Rattle.std.proofs.lemmas.List.Elements.{All-nil, All-cons, All-head, All-tail, All-weaker}
use Rattle.gq_number.specs.Number.{Number}
use Rattle.lp_core.specs.Feasible.{bound_value}
use Rattle.lp_core.specs.WellFormed.{IsWellFormed, variables_of_bounds, rows_of_bounds}
use Rattle.lp_core.specs.Steps.{count_of_rows}
use Rattle.lp_core.specs.declared.program.Sense.{Sense}
use Rattle.lp_core.specs.declared.program.Sense.TheVariants as sense
use Rattle.lp_core.specs.declared.program.Column.{Column}
use Rattle.lp_core.specs.declared.program.Lp.{Lp}
use Rattle.lp_core.specs.StandardForm as form
use Rattle.lp_std.specs.declared.types.Shift.{Shift}
use Rattle.lp_std.specs.Meaning.{shift_value}
use Rattle.lp_std.specs.InnerSteps.{placed_value}

-- ---- columns and their variables

width_by_bounds : {F : Type 0} (value : F → Number) (lower upper : Option F) → form.width (form.shift_of (bound_value value lower) (bound_value value upper)) ≡ variables_of_bounds lower upper
width_by_bounds value (Some l) (Some u) = refl
width_by_bounds value (Some l) None = refl
width_by_bounds value None (Some u) = refl
width_by_bounds value None None = refl

-- the shift of a column
abbrev pub shift_for : {F : Type 0} → (F → Number) → Column F → form.Shift
shift_for value column = form.shift_of (bound_value value column.lower) (bound_value value column.upper)

widths_by_bounds : {F : Type 0} (value : F → Number) (columns : List (Column F)) → sum_by form.width (map (shift_for value) columns) ≡ sum_by (λ (column : Column F). variables_of_bounds column.lower column.upper) columns
widths_by_bounds value [] = refl
widths_by_bounds {F} value (column ∷ columns) =
    sum_by-cons form.width (shift_for value column) (map (shift_for value) columns)
    ∙ ap₂ (λ a b. a + b) (width_by_bounds value column.lower column.upper) (widths_by_bounds value columns)
    ∙ sym (sum_by-cons (λ (column : Column F). variables_of_bounds column.lower column.upper) column columns)

pub widths_of_shifts : {F : Type 0} (value : F → Number) (shifts : List (Shift F)) → sum_by (λ (s : Shift F). form.width (shift_value value s)) shifts ≡ sum_by form.width (map (shift_value value) shifts)
widths_of_shifts value [] = refl
widths_of_shifts {F} value (s ∷ shifts) =
    sum_by-cons (λ (s : Shift F). form.width (shift_value value s)) s shifts
    ∙ ap (λ n. form.width (shift_value value s) + n) (widths_of_shifts value shifts)
    ∙ sym (sum_by-cons form.width (shift_value value s) (map (shift_value value) shifts))

width_above : (s : form.Shift) → 1 ≤ form.width s
width_above (form.from_lower b) = omega arith
width_above (form.from_upper b) = omega arith
width_above form.free = omega arith

-- numbering keeps the length, and the widths
pub length-numbered : (n : ℕ) (shifts : List form.Shift) → length (form.numbered n shifts) ≡ length shifts
length-numbered n [] = refl
length-numbered n (s ∷ shifts) = omega (arith, length-numbered (n + form.width s) shifts)

pub widths-numbered : (n : ℕ) (shifts : List form.Shift) → sum_by (λ (p : ℕ × form.Shift). form.width p.1) (form.numbered n shifts) ≡ sum_by form.width shifts
widths-numbered n [] = refl
widths-numbered n (s ∷ shifts) =
    sum_by-cons (λ (p : ℕ × form.Shift). form.width p.1) (n, s) (form.numbered (n + form.width s) shifts)
    ∙ ap (λ m. form.width s + m) (widths-numbered (n + form.width s) shifts)
    ∙ sym (sum_by-cons form.width s shifts)

-- the variables of a column have numbers from n on, as many as the widths say
pub numbered_within : (n : ℕ) (shifts : List form.Shift) → All (λ (p : ℕ × form.Shift). (n ≤ p.0) × (p.0 + form.width p.1 ≤ n + sum_by form.width shifts)) (form.numbered n shifts)
numbered_within n [] = All-nil (λ (p : ℕ × form.Shift). (n ≤ p.0) × (p.0 + form.width p.1 ≤ n + sum_by form.width []))
numbered_within n (s ∷ shifts) =
    let all = sum_by-cons form.width s shifts in
    let first : (n ≤ n) × (n + form.width s ≤ n + sum_by form.width (s ∷ shifts)) = (omega arith, omega (arith, all)) in
    All-cons (λ (p : ℕ × form.Shift). (n ≤ p.0) × (p.0 + form.width p.1 ≤ n + sum_by form.width (s ∷ shifts))) (n, s) (form.numbered (n + form.width s) shifts) first
    (All-weaker (λ (p : ℕ × form.Shift). (n + form.width s ≤ p.0) × (p.0 + form.width p.1 ≤ n + form.width s + sum_by form.width shifts)) (λ (p : ℕ × form.Shift). (n ≤ p.0) × (p.0 + form.width p.1 ≤ n + sum_by form.width (s ∷ shifts))) (λ p h. (omega (arith, h.0), omega (arith, h.1, all))) (form.numbered (n + form.width s) shifts) (numbered_within (n + form.width s) shifts))

-- what holds of the images of elements
pub All-from_map : {X Y : Type 0} (P : Y → Type 0) (f : X → Y) (xs : List X) → All P (map f xs) → All (λ x. P (f x)) xs
All-from_map P f [] all = All-nil (λ x. P (f x))
All-from_map P f (x ∷ xs) all = All-cons (λ x. P (f x)) x xs (All-head P (f x) (map f xs) all) (All-from_map P f xs (All-tail P (f x) (map f xs) all))

columns_counted : {F : Type 0} (value : F → Number) (columns : List (Column F)) → length columns ≤ sum_by form.width (map (shift_for value) columns)
columns_counted value [] = omega arith
columns_counted value (column ∷ columns) =
    omega (arith, columns_counted value columns, width_above (shift_for value column), sum_by-cons form.width (shift_for value column) (map (shift_for value) columns))

-- ---- a well-formed program

module _ {F : Type 0} (value : F → Number) (lp : Lp F) where
  -- how many rows of the standard form the columns have
  abbrev pub own_rows : ℕ
  own_rows = sum_by (λ (column : Column F). form.rows_of_bounds column.lower column.upper) lp.columns

  pub columns_few : IsWellFormed value lp → length lp.columns ≤ 3000
  columns_few formed = omega (arith, columns_counted value lp.columns, widths_by_bounds value lp.columns, formed.columns_few)

  pub rows_few : IsWellFormed value lp → count_of_rows lp.rows + own_rows ≤ 1500
  rows_few formed = formed.rows_few

  -- the variables of the columns' shifts
  pub variables_few : IsWellFormed value lp → sum_by form.width (map (shift_for value) lp.columns) ≤ 3000
  variables_few formed = omega (arith, widths_by_bounds value lp.columns, formed.columns_few)

  pub variables_counted : form.variables_of value lp ≡ sum_by form.width (map (shift_for value) lp.columns)
  variables_counted = widths-numbered 1 (map (shift_for value) lp.columns)

  pub columns_numbered : All (λ (p : ℕ × form.Shift). (1 ≤ p.0) × (p.0 + form.width p.1 ≤ 1 + form.variables_of value lp)) (form.columns_of value lp)
  columns_numbered =
      subst (λ n. All (λ (p : ℕ × form.Shift). (1 ≤ p.0) × (p.0 + form.width p.1 ≤ 1 + n)) (form.columns_of value lp)) (sym variables_counted) (numbered_within 1 (map (shift_for value) lp.columns))

  -- shifts that are those of the columns
  module _ (shifts : List (Shift F)) (are : map (shift_value value) shifts ≡ map (shift_for value) lp.columns) where
    pub shifts_few : IsWellFormed value lp → sum_by (λ (s : Shift F). form.width (shift_value value s)) shifts ≤ 3000
    shifts_few formed = omega (arith, widths_of_shifts value shifts, ap (sum_by form.width) are, variables_few formed)

    pub shifts_counted : sum_by (λ (s : Shift F). form.width (shift_value value s)) shifts ≡ form.variables_of value lp
    shifts_counted = widths_of_shifts value shifts ∙ ap (sum_by form.width) are ∙ sym variables_counted

  -- columns with their numbers that are those of the program
  module _ (columns : List (ℕ × Shift F)) (are : placed_value value columns ≡ form.columns_of value lp) where
    pub placed_sized : length columns ≡ length lp.columns
    placed_sized =
        sym (length-map columns (λ (p : ℕ × Shift F). (p.0, shift_value value p.1))) ∙ ap length are ∙ length-numbered 1 (map (shift_for value) lp.columns) ∙ length-map lp.columns (shift_for value)

    pub placed_numbers : All (λ (p : ℕ × Shift F). (1 ≤ p.0) × (p.0 + form.width (shift_value value p.1) ≤ 1 + form.variables_of value lp)) columns
    placed_numbers =
        All-from_map (λ (p : ℕ × form.Shift). (1 ≤ p.0) × (p.0 + form.width p.1 ≤ 1 + form.variables_of value lp)) (λ (p : ℕ × Shift F). (p.0, shift_value value p.1)) columns
        (subst (All (λ (p : ℕ × form.Shift). (1 ≤ p.0) × (p.0 + form.width p.1 ≤ 1 + form.variables_of value lp))) (sym are) columns_numbered)

    pub placed_low : IsWellFormed value lp → All (λ (p : ℕ × Shift F). p.0 + 1 < 2 ^ 32) columns
    placed_low formed =
        All-weaker (λ (p : ℕ × Shift F). (1 ≤ p.0) × (p.0 + form.width (shift_value value p.1) ≤ 1 + form.variables_of value lp)) (λ (p : ℕ × Shift F). p.0 + 1 < 2 ^ 32)
        (λ p h. omega (arith, h.1, width_above (shift_value value p.1), variables_counted, variables_few formed)) columns placed_numbers
