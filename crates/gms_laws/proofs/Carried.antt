-- A point is feasible for a program over a field exactly where it is feasible for the program with
-- the numbers that the field's values mean.
use Rattle.std.proofs.Common.{◌≡◌, ℕ, ◌<◌, ◌+◌, List, [], ◌∷◌, length, map, Option, Some, None, refl, sym, ◌∙◌, subst, arith}
use Rattle.std.specs.List.{All, enumerate_from}
use Rattle.std.proofs.lemmas.List.{length-map}
use Rattle.std.proofs.lemmas.List.Elements.{All-nil, All-cons, All-head, All-tail, All-map, All-weaker}
use Rattle.gq_number.specs.Number.{Number, ◌*ℚ◌}
use Rattle.gq_number.proofs.Sums.{sum_by_ℚ-map}
use Rattle.lp_core.specs.declared.program.Column.{Column}
use Rattle.lp_core.specs.declared.program.Row.{Row}
use Rattle.lp_core.specs.declared.program.Lp.{Lp}
use Rattle.lp_core.specs.Feasible.{KeepsLower, KeepsUpper, KeepsBounds, KeepsSense, KeepsRow, bound_value, Feasible}
use Rattle.lp_core.specs.Numbers.{entries_numbers, column_numbers, row_numbers, lp_numbers}
use Rattle.lp_core.specs.Sums.{value_of_column, row_sum}
use Rattle.lp_core.proofs.Duality.{IsPlaced}

-- a number is what it means
abbrev pub itself : Number → Number
itself x = x

same-bound : (o : Option Number) → bound_value itself o ≡ o
same-bound None = refl
same-bound (Some x) = refl

all-of_map : {X Y : Type 0} (f : X → Y) (P : Y → Type 0) (xs : List X) → All P (map f xs) → All (λ x. P (f x)) xs
all-of_map f P [] all = All-nil (λ x. P (f x))
all-of_map f P (x ∷ xs) all =
    All-cons (λ x. P (f x)) x xs (All-head P (f x) (map f xs) all) (all-of_map f P xs (All-tail P (f x) (map f xs) all))

module _ {F : Type 0} (value : F → Number) where
  -- ---- bounds

  module _ (x : List Number) where
    abbrev Within : ℕ × Column F → Type 0
    Within p = KeepsBounds value p.1 (value_of_column x p.0)

    abbrev NumbersWithin : ℕ × Column Number → Type 0
    NumbersWithin p = KeepsBounds itself p.1 (value_of_column x p.0)

    one-there : (n : ℕ) (column : Column F) → Within (n, column) → NumbersWithin (n, column_numbers value column)
    one-there n column within =
        (subst (λ (o : Option Number). KeepsLower o (value_of_column x n)) (sym (same-bound (bound_value value column.lower))) within.0, subst (λ (o : Option Number). KeepsUpper o (value_of_column x n)) (sym (same-bound (bound_value value column.upper))) within.1)

    one-back : (n : ℕ) (column : Column F) → NumbersWithin (n, column_numbers value column) → Within (n, column)
    one-back n column within =
        (subst (λ (o : Option Number). KeepsLower o (value_of_column x n)) (same-bound (bound_value value column.lower)) within.0, subst (λ (o : Option Number). KeepsUpper o (value_of_column x n)) (same-bound (bound_value value column.upper)) within.1)

    bounds-there : (n : ℕ) (columns : List (Column F)) → All Within (enumerate_from n columns) → All NumbersWithin (enumerate_from n (map (column_numbers value) columns))
    bounds-there n [] all = All-nil NumbersWithin
    bounds-there n (column ∷ columns) all =
        All-cons NumbersWithin (n, column_numbers value column) (enumerate_from (n + 1) (map (column_numbers value) columns)) (one-there n column (All-head Within (n, column) (enumerate_from (n + 1) columns) all))
        (bounds-there (n + 1) columns (All-tail Within (n, column) (enumerate_from (n + 1) columns) all))

    bounds-back : (n : ℕ) (columns : List (Column F)) → All NumbersWithin (enumerate_from n (map (column_numbers value) columns)) → All Within (enumerate_from n columns)
    bounds-back n [] all = All-nil Within
    bounds-back n (column ∷ columns) all =
        let rest = enumerate_from (n + 1) (map (column_numbers value) columns) in
        All-cons Within (n, column) (enumerate_from (n + 1) columns) (one-back n column (All-head NumbersWithin (n, column_numbers value column) rest all))
        (bounds-back (n + 1) columns (All-tail NumbersWithin (n, column_numbers value column) rest all))

    -- ---- rows

    sum-same : (entries : List (ℕ × F)) → row_sum itself (entries_numbers value entries) x ≡ row_sum value entries x
    sum-same entries = sum_by_ℚ-map (λ (e : ℕ × Number). e.1 *ℚ value_of_column x e.0) (λ (e : ℕ × F). (e.0, value e.1)) entries

    row-there : (row : Row F) → KeepsRow value row x → KeepsRow itself (row_numbers value row) x
    row-there row kept = subst (λ (s : Number). KeepsSense row.sense s (value row.right)) (sym (sum-same row.entries)) kept

    row-back : (row : Row F) → KeepsRow itself (row_numbers value row) x → KeepsRow value row x
    row-back row kept = subst (λ (s : Number). KeepsSense row.sense s (value row.right)) (sum-same row.entries) kept

    -- ---- programs

    pub feasible-numbers : (lp : Lp F) → Feasible value lp x → Feasible itself (lp_numbers value lp) x
    feasible-numbers lp feasible = record {
      sized = feasible.sized ∙ sym (length-map lp.columns (column_numbers value));
      bounds = bounds-there 0 lp.columns feasible.bounds;
      rows = All-map (λ (row : Row Number). KeepsRow itself row x) (row_numbers value) lp.rows (All-weaker (λ (row : Row F). KeepsRow value row x) (λ (row : Row F). KeepsRow itself (row_numbers value row) x) row-there lp.rows feasible.rows);
    }

    pub feasible-values : (lp : Lp F) → Feasible itself (lp_numbers value lp) x → Feasible value lp x
    feasible-values lp feasible = record {
      sized = feasible.sized ∙ length-map lp.columns (column_numbers value);
      bounds = bounds-back 0 lp.columns feasible.bounds;
      rows = All-weaker (λ (row : Row F). KeepsRow itself (row_numbers value row) x) (λ (row : Row F). KeepsRow value row x) row-back lp.rows (all-of_map (row_numbers value) (λ (row : Row Number). KeepsRow itself row x) lp.rows feasible.rows);
    }

  -- what is placed with numbers is placed
  pub placed-values : (lp : Lp F) → IsPlaced (lp_numbers value lp) → IsPlaced lp
  placed-values lp placed =
      let same = length-map lp.columns (column_numbers value) in
      let within = placed.objective in
      record {
        objective = omega (arith, same, within);
        entries = All-weaker (λ (row : Row F). All (λ (e : ℕ × Number). e.0 < length (map (column_numbers value) lp.columns)) (entries_numbers value row.entries)) (λ (row : Row F). All (λ (e : ℕ × F). e.0 < length lp.columns) row.entries) each lp.rows
            (all-of_map (row_numbers value) (λ (row : Row Number). All (λ (e : ℕ × Number). e.0 < length (map (column_numbers value) lp.columns)) row.entries) lp.rows placed.entries);
      }
    where
      each : (row : Row F) → All (λ (e : ℕ × Number). e.0 < length (map (column_numbers value) lp.columns)) (entries_numbers value row.entries) → All (λ (e : ℕ × F). e.0 < length lp.columns) row.entries
      each row all =
          subst (λ (n : ℕ). All (λ (e : ℕ × F). e.0 < n) row.entries) (length-map lp.columns (column_numbers value)) (all-of_map (λ (e : ℕ × F). (e.0, value e.1)) (λ (e : ℕ × Number). e.0 < length (map (column_numbers value) lp.columns)) row.entries all)
