-- A program of the numbers that values mean, and one with a replaced right side, are well formed if
-- the program is.
use Rattle.std.proofs.Common.{◌≡◌, ◌≢◌, ℕ, zero, suc, ◌+◌, ◌<◌, pos, List, [], ◌∷◌, length, map, Option, Some, None, refl, sym, ap, ◌∙◌, subst, arith}
use Rattle.std.specs.Prelude.{slice_index_or, sum_by}
use Rattle.std.specs.List.{All, AllPairs}
use Rattle.std.proofs.lemmas.List.{length-map, get_or-map}
use Rattle.std.proofs.lemmas.List.Sums.{sum_by-cons}
use mathlib.Core.Path.{fun_ext}
use Rattle.gq_number.specs.Number.{Number, whole}
use Rattle.lp_core.specs.declared.program.Sense.{Sense}
use Rattle.lp_core.specs.declared.program.Column.{Column}
use Rattle.lp_core.specs.declared.program.Row.{Row}
use Rattle.lp_core.specs.declared.program.Lp.{Lp}
use Rattle.lp_core.specs.Feasible.{bound_value}
use Rattle.lp_core.specs.WellFormed.{IsWellFormed, AreRowEntries, rows_of_sense, rows_of_bounds, variables_of_bounds}
use Rattle.lp_core.specs.Proofs.{Crosses}
use Rattle.lp_core.specs.Numbers.{entries_numbers, column_numbers, row_numbers, lp_numbers}
use Rattle.lp_nocycle.proofs.SameForm.{sum_by_map}
use Rattle.lp_range.specs.Moved.{itself, rows_with_right, with_right}

an_element : {X : Type 0} (xs : List X) (k : ℕ) → k < length xs → X
an_element [] k less = absurd (omega arith)
an_element (x ∷ xs) k less = x

-- what holds of all, and of all pairs, of a list and of its image
module _ {X Y : Type 0} (f : X → Y) (xs : List X) where
  image_at : (k : ℕ) (d : X) (e : Y) → k < length xs → slice_index_or (map f xs) k e ≡ f (slice_index_or xs k d)
  image_at k d e less = get_or-map f xs k d e less

  all_image : (P : X → Type 0) (Q : Y → Type 0) → ((x : X) → P x → Q (f x)) → All P xs → All Q (map f xs)
  all_image P Q each all k e less =
      let within : k < length xs = omega (arith, less, length-map xs f) in
      let d = an_element xs k within in
      subst Q (sym (image_at k d e within)) (each (slice_index_or xs k d) (all k d within))

  pairs_image : (P : X → X → Type 0) (Q : Y → Y → Type 0) → ((x y : X) → P x y → Q (f x) (f y)) → AllPairs P xs → AllPairs Q (map f xs)
  pairs_image P Q each all i j e less within =
      let there : j < length xs = omega (arith, within, length-map xs f) in
      let here : i < length xs = omega (arith, less, there) in
      let d = an_element xs j there in
      subst (λ y. Q y (slice_index_or (map f xs) j e)) (sym (image_at i d e here)) (subst (Q (f (slice_index_or xs i d))) (sym (image_at j d e there)) (each (slice_index_or xs i d) (slice_index_or xs j d) (all i j d less there)))

-- ---- rows of which one has another right side

module _ (right : Number) where
  pub length-rows_with_right : (i : ℕ) (rows : List (Row Number)) → length (rows_with_right i right rows) ≡ length rows
  length-rows_with_right i [] = refl
  length-rows_with_right zero (row ∷ rows) = refl
  length-rows_with_right (suc i) (row ∷ rows) = ap (λ n. suc n) (length-rows_with_right i rows)

  -- each row has the key, the sense and the entries that it had
  abbrev with_other : Number → Row Number → Row Number
  with_other other row = record row { right = other }

  row_there : (i : ℕ) (rows : List (Row Number)) (k : ℕ) (d e : Row Number) → k < length rows → (other : Number) × (slice_index_or (rows_with_right i right rows) k e ≡ with_other other (slice_index_or rows k d))
  row_there i [] k d e less = absurd (omega arith)
  row_there zero (row ∷ rows) zero d e less = (right, refl)
  row_there zero (row ∷ rows) (suc k) d e less = kept rows k (omega arith)
    where
      kept : (rows : List (Row Number)) (k : ℕ) → k < length rows → (other : Number) × (slice_index_or rows k e ≡ with_other other (slice_index_or rows k d))
      kept [] k less = absurd (omega arith)
      kept (r ∷ rows) zero less = (r.right, refl)
      kept (r ∷ rows) (suc k) less = kept rows k (omega arith)
  row_there (suc i) (row ∷ rows) zero d e less = (row.right, refl)
  row_there (suc i) (row ∷ rows) (suc k) d e less = row_there i rows k d e (omega arith)

  all_with_right : (i : ℕ) (rows : List (Row Number)) (P : Row Number → Type 0) → ((row : Row Number) (other : Number) → P row → P (with_other other row)) → All P rows → All P (rows_with_right i right rows)
  all_with_right i rows P each all k e less =
      let within : k < length rows = omega (arith, less, length-rows_with_right i rows) in
      let found = row_there i rows k e e within in
      subst P (sym found.1) (each (slice_index_or rows k e) found.0 (all k e within))

  pairs_with_right : (i : ℕ) (rows : List (Row Number)) → AllPairs (λ (a b : Row Number). a.key ≢ b.key) rows → AllPairs (λ (a b : Row Number). a.key ≢ b.key) (rows_with_right i right rows)
  pairs_with_right i rows all k j e less within =
      let there : j < length rows = omega (arith, within, length-rows_with_right i rows) in
      let here : k < length rows = omega (arith, less, there) in
      let first = row_there i rows k e e here in
      let second = row_there i rows j e e there in
      λ same. all k j e less there (sym (ap (λ (r : Row Number). r.key) first.1) ∙ same ∙ ap (λ (r : Row Number). r.key) second.1)

  pub counted_with_right : (count : Sense → ℕ) (i : ℕ) (rows : List (Row Number)) → sum_by (λ (row : Row Number). count row.sense) (rows_with_right i right rows) ≡ sum_by (λ (row : Row Number). count row.sense) rows
  counted_with_right count i [] = refl
  counted_with_right count zero (row ∷ rows) =
      sum_by-cons (λ (row : Row Number). count row.sense) (with_other right row) rows ∙ sym (sum_by-cons (λ (row : Row Number). count row.sense) row rows)
  counted_with_right count (suc i) (row ∷ rows) =
      sum_by-cons (λ (row : Row Number). count row.sense) row (rows_with_right i right rows) ∙ ap (λ n. count row.sense + n) (counted_with_right count i rows) ∙ sym (sum_by-cons (λ (row : Row Number). count row.sense) row rows)

  pub with_right_formed : (i : ℕ) (lp : Lp Number) → IsWellFormed itself lp → IsWellFormed itself (with_right i right lp)
  with_right_formed i lp formed =
      let few = formed.rows_few in
      let count = counted_with_right rows_of_sense i lp.rows in
      record {
        objective = formed.objective;
        columns_differ = formed.columns_differ;
        rows_differ = pairs_with_right i lp.rows formed.rows_differ;
        entries = all_with_right i lp.rows (λ (row : Row Number). AreRowEntries itself (length lp.columns) row.entries) (λ row other h. h) formed.entries;
        rows_few = omega (arith, few, count);
        columns_few = formed.columns_few;
      }

-- ---- the numbers that values mean

module _ {F : Type 0} (value : F → Number) where
  rows_of_bounds_same : (lower upper : Option F) → rows_of_bounds (bound_value value lower) (bound_value value upper) ≡ rows_of_bounds lower upper
  rows_of_bounds_same None None = refl
  rows_of_bounds_same None (Some u) = refl
  rows_of_bounds_same (Some l) None = refl
  rows_of_bounds_same (Some l) (Some u) = refl

  variables_of_bounds_same : (lower upper : Option F) → variables_of_bounds (bound_value value lower) (bound_value value upper) ≡ variables_of_bounds lower upper
  variables_of_bounds_same None None = refl
  variables_of_bounds_same None (Some u) = refl
  variables_of_bounds_same (Some l) None = refl
  variables_of_bounds_same (Some l) (Some u) = refl

  crosses_from : (lower upper : Option F) → Crosses itself (bound_value value lower) (bound_value value upper) → Crosses value lower upper
  crosses_from None None h = h
  crosses_from None (Some u) h = h
  crosses_from (Some l) None h = h
  crosses_from (Some l) (Some u) h = h

  pub none_cross : (columns : List (Column F)) → All (λ (c : Column F). ¬ (Crosses value c.lower c.upper)) columns → All (λ (c : Column Number). ¬ (Crosses itself c.lower c.upper)) (map (column_numbers value) columns)
  none_cross columns = all_image (column_numbers value) columns (λ (c : Column F). ¬ (Crosses value c.lower c.upper)) (λ (c : Column Number). ¬ (Crosses itself c.lower c.upper)) (λ c none h. none (crosses_from c.lower c.upper h))

  entries_same : (n m : ℕ) (entries : List (ℕ × F)) → n ≡ m → AreRowEntries value n entries → AreRowEntries itself m (entries_numbers value entries)
  entries_same n m entries same h =
      record {
        ascending = pairs_image (λ (e : ℕ × F). (e.0, value e.1)) entries (λ (a b : ℕ × F). a.0 < b.0) (λ (a b : ℕ × Number). a.0 < b.0) (λ a b less. less) h.ascending;
        there = all_image (λ (e : ℕ × F). (e.0, value e.1)) entries (λ (e : ℕ × F). e.0 < n) (λ (e : ℕ × Number). e.0 < m) (λ e less. subst (λ k. e.0 < k) same less) h.there;
        not_zero = all_image (λ (e : ℕ × F). (e.0, value e.1)) entries (λ (e : ℕ × F). value e.1 ≢ whole (pos 0)) (λ (e : ℕ × Number). e.1 ≢ whole (pos 0)) (λ e some. some) h.not_zero;
      }

  counted : (n : Option Number → Option Number → ℕ) (m : Option F → Option F → ℕ) (columns : List (Column F)) → ((lower upper : Option F) → n (bound_value value lower) (bound_value value upper) ≡ m lower upper) → sum_by (λ (c : Column Number). n c.lower c.upper) (map (column_numbers value) columns) ≡ sum_by (λ (c : Column F). m c.lower c.upper) columns
  counted n m columns each =
      sum_by_map (λ (c : Column Number). n c.lower c.upper) (column_numbers value) columns ∙ ap (λ (h : Column F → ℕ). sum_by h columns) (fun_ext (λ c. each c.lower c.upper))

  pub numbers_formed : (lp : Lp F) → IsWellFormed value lp → IsWellFormed itself (lp_numbers value lp)
  numbers_formed lp formed =
      let size = length-map lp.columns (column_numbers value) in
      let rows = sum_by_map (λ (row : Row Number). rows_of_sense row.sense) (row_numbers value) lp.rows in
      let bounds = counted rows_of_bounds rows_of_bounds lp.columns rows_of_bounds_same in
      let variables = counted variables_of_bounds variables_of_bounds lp.columns variables_of_bounds_same in
      let within = formed.objective in
      let few = formed.rows_few in
      let narrow = formed.columns_few in
      record {
        objective = omega (arith, within, size);
        columns_differ = pairs_image (column_numbers value) lp.columns (λ (a b : Column F). a.key ≢ b.key) (λ (a b : Column Number). a.key ≢ b.key) (λ a b differ. differ) formed.columns_differ;
        rows_differ = pairs_image (row_numbers value) lp.rows (λ (a b : Row F). a.key ≢ b.key) (λ (a b : Row Number). a.key ≢ b.key) (λ a b differ. differ) formed.rows_differ;
        entries =
            all_image (row_numbers value) lp.rows (λ (row : Row F). AreRowEntries value (length lp.columns) row.entries) (λ (row : Row Number). AreRowEntries itself (length (map (column_numbers value) lp.columns)) row.entries)
            (λ row h. entries_same (length lp.columns) (length (map (column_numbers value) lp.columns)) row.entries (sym size) h) formed.entries;
        rows_few = omega (arith, few, rows, bounds);
        columns_few = omega (arith, narrow, variables);
      }
