-- The numbers that the values of a program mean determine its standard form.
use Rattle.std.proofs.Common.{◌≡◌, ℕ, ◌+◌, List, [], ◌∷◌, ◌++◌, map, Option, Some, None, pos, refl, ap, ap₂, ◌∙◌}
use Rattle.std.specs.Prelude.{flat_map, sum_by}
use Rattle.std.specs.List.{enumerate_from}
use Rattle.std.proofs.lemmas.List.Folds.{flat_map-map, fold-map}
use Rattle.gq_number.specs.Number.{Number, whole, ◌-ℚ◌, ◌*ℚ◌}
use Rattle.gq_number.proofs.Sums.{sum_by_ℚ-map}
use Rattle.lp_core.specs.declared.program.Column.{Column}
use Rattle.lp_core.specs.declared.program.Row.{Row}
use Rattle.lp_core.specs.declared.program.Lp.{Lp}
use Rattle.lp_core.specs.Feasible.{bound_value}
use Rattle.lp_core.specs.StandardForm.{Shift, Standard, StandardRow, of_row, shift_of, numbered, spread, base, column_at, rows_by_sense, bound_rows, directed, objective_of, columns_of, variables_of, standard_form, width, rows_of_bounds}
use Rattle.lp_core.specs.Dictionary.{first_dictionary}
use Rattle.lp_std.specs.InnerSteps.{shifted_over, rows_over, bounds_over}
use Rattle.lp_core.specs.Numbers.{column_numbers, row_numbers, lp_numbers}
use Rattle.lp_nocycle.specs.PivotCount.{variable_count}

-- a number means itself
abbrev pub itself : Number → Number
itself x = x

pub bound_same : (o : Option Number) → bound_value itself o ≡ o
bound_same None = refl
bound_same (Some x) = refl

pub enumerate-map : {X Y : Type 0} (f : X → Y) (n : ℕ) (xs : List X) → enumerate_from n (map f xs) ≡ map (λ (p : ℕ × X). (p.0, f p.1)) (enumerate_from n xs)
enumerate-map f n [] = refl
enumerate-map f n (x ∷ xs) = ap (λ l. (n, f x) ∷ l) (enumerate-map f (n + 1) xs)

-- lists joined over places and images
pub joined_same : {X Y Z : Type 0} (f : X → Y) (g : ℕ × Y → List Z) (h : ℕ × X → List Z) (n : ℕ) (xs : List X) → ((i : ℕ) (x : X) → g (i, f x) ≡ h (i, x)) → flat_map g (enumerate_from n (map f xs)) ≡ flat_map h (enumerate_from n xs)
joined_same f g h n [] same = refl
joined_same f g h n (x ∷ xs) same = ap₂ (λ a b. a ++ b) (same n x) (joined_same f g h (n + 1) xs same)

pub sum_by_map : {X Y : Type 0} (f : Y → ℕ) (g : X → Y) (xs : List X) → sum_by f (map g xs) ≡ sum_by (λ x. f (g x)) xs
sum_by_map f g xs = fold-map (λ a y. a + f y) g 0 xs

pub count_bounds_same : {F : Type 0} (value : F → Number) (lower upper : Option F) → rows_of_bounds (bound_value value lower) (bound_value value upper) ≡ rows_of_bounds lower upper
count_bounds_same value None None = refl
count_bounds_same value None (Some u) = refl
count_bounds_same value (Some l) None = refl
count_bounds_same value (Some l) (Some u) = refl

module _ {F : Type 0} (value : F → Number) where
  -- ---- columns

  shift_same : (column : Column F) → shift_of (bound_value itself (column_numbers value column).lower) (bound_value itself (column_numbers value column).upper) ≡ shift_of (bound_value value column.lower) (bound_value value column.upper)
  shift_same column = ap₂ shift_of (bound_same (bound_value value column.lower)) (bound_same (bound_value value column.upper))

  shifts_same : (columns : List (Column F)) → map (λ (column : Column Number). shift_of (bound_value itself column.lower) (bound_value itself column.upper)) (map (column_numbers value) columns) ≡ map (λ (column : Column F). shift_of (bound_value value column.lower) (bound_value value column.upper)) columns
  shifts_same [] = refl
  shifts_same (c ∷ columns) = ap₂ (λ s l. s ∷ l) (shift_same c) (shifts_same columns)

  pub columns_same : (lp : Lp F) → columns_of itself (lp_numbers value lp) ≡ columns_of value lp
  columns_same lp = ap (numbered 1) (shifts_same lp.columns)

  pub variables_same : (lp : Lp F) → variables_of itself (lp_numbers value lp) ≡ variables_of value lp
  variables_same lp = ap (sum_by (λ (p : ℕ × Shift). width p.1)) (columns_same lp)

  -- ---- rows

  abbrev made_row : Number → List (ℕ × Number) → ℕ → StandardRow
  made_row right entries i = record { right = right; entries = entries; origin = of_row i }

  shifted_same : (columns : List (ℕ × Shift)) (i : ℕ) (row : Row F) → shifted_over itself columns i (row_numbers value row) ≡ shifted_over value columns i row
  shifted_same columns i row =
      ap₂ (λ r e. made_row r e i)
      (ap (λ s. value row.right -ℚ s) (sum_by_ℚ-map (λ (e : ℕ × Number). e.1 *ℚ base (column_at columns e.0).1) (λ (e : ℕ × F). (e.0, value e.1)) row.entries))
      (flat_map-map (λ (e : ℕ × Number). spread (column_at columns e.0).0 (column_at columns e.0).1 e.1) (λ (e : ℕ × F). (e.0, value e.1)) row.entries)

  rows_over_same : (columns : List (ℕ × Shift)) (i : ℕ) (rows : List (Row F)) → rows_over itself columns i (map (row_numbers value) rows) ≡ rows_over value columns i rows
  rows_over_same columns i rows =
      joined_same (row_numbers value) (λ (p : ℕ × Row Number). rows_by_sense p.1.sense p.0 (shifted_over itself columns p.0 p.1)) (λ (p : ℕ × Row F). rows_by_sense p.1.sense p.0 (shifted_over value columns p.0 p.1)) i rows
      (λ j row. ap (rows_by_sense row.sense j) (shifted_same columns j row))

  bounds_over_same : (columns : List (ℕ × Shift)) (j : ℕ) (bounded : List (Column F)) → bounds_over itself columns j (map (column_numbers value) bounded) ≡ bounds_over value columns j bounded
  bounds_over_same columns j bounded =
      joined_same (column_numbers value) (λ (p : ℕ × Column Number). bound_rows p.0 (column_at columns p.0).0 (bound_value itself p.1.lower) (bound_value itself p.1.upper)) (λ (p : ℕ × Column F). bound_rows p.0 (column_at columns p.0).0 (bound_value value p.1.lower) (bound_value value p.1.upper)) j bounded
      (λ i column. ap₂ (bound_rows i (column_at columns i).0) (bound_same (bound_value value column.lower)) (bound_same (bound_value value column.upper)))

  -- ---- the standard form

  abbrev form_over : Lp F → List (ℕ × Shift) → List StandardRow → Standard
  form_over lp columns rows =
      let z : ℕ × Shift = column_at columns lp.objective in
      record {
        columns = columns;
        rows = rows;
        objective = objective_of (sum_by (λ (p : ℕ × Shift). width p.1) columns) (spread z.0 z.1 (directed lp.maximize (whole (pos 1))));
        constant = directed lp.maximize (base z.1);
      }

  abbrev rows_with : Lp F → List (ℕ × Shift) → List StandardRow
  rows_with lp columns = rows_over value columns 0 lp.rows ++ bounds_over value columns 0 lp.columns

  pub form_same : (lp : Lp F) → standard_form itself (lp_numbers value lp) ≡ standard_form value lp
  form_same lp =
      ap (form_over lp (columns_of itself (lp_numbers value lp))) (ap₂ (λ a b. a ++ b) (rows_over_same (columns_of itself (lp_numbers value lp)) 0 lp.rows) (bounds_over_same (columns_of itself (lp_numbers value lp)) 0 lp.columns))
      ∙ ap (λ columns. form_over lp columns (rows_with lp columns)) (columns_same lp)

  -- Counted over its values or over the numbers that they mean, a program has as many variables.
  pub same_count : (lp : Lp F) → variable_count itself (lp_numbers value lp) ≡ variable_count value lp
  same_count lp = ap (λ (s : Standard). (first_dictionary s).variables + 1) (form_same lp)
