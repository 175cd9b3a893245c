-- Two programs of the same numbers, over two fields: one is well formed if the other is, and their
-- bounds cross alike.
use Rattle.std.proofs.Common.{◌≡◌, ◌≢◌, ℕ, ◌<◌, pos, List, [], ◌∷◌, length, map, Option, Some, None, refl, sym, ap, ◌∙◌, subst, arith}
use Rattle.std.specs.Prelude.{slice_get, slice_index_or, option_map, replicate, sum_by}
use Rattle.std.specs.List.{All, AllPairs}
use Rattle.std.proofs.lemmas.List.{length-map, get_or-map}
use Rattle.std.proofs.lemmas.Option.{slice_get-map, slice_get_within}
use mathlib.Core.Path.{fun_ext}
use Rattle.gq_number.specs.Number.{Number, whole}
use Rattle.lp_core.specs.declared.program.Column.{Column}
use Rattle.lp_core.specs.declared.program.Row.{Row}
use Rattle.lp_core.specs.declared.program.Lp.{Lp}
use Rattle.lp_core.specs.Feasible.{bound_value}
use Rattle.lp_core.specs.WellFormed.{IsWellFormed, AreRowEntries, rows_of_sense, rows_of_bounds, variables_of_bounds}
use Rattle.lp_core.specs.Proofs.{Crosses, FirstCrossed, ProvesCrossed}
use Rattle.lp_core.specs.Numbers.{entries_numbers, column_numbers, row_numbers, lp_numbers}
use Rattle.lp_nocycle.proofs.SameForm.{itself, sum_by_map}

-- ---- lists of which the images are the same

an_element : {X : Type 0} (xs : List X) (k : ℕ) → k < length xs → X
an_element [] k less = absurd (omega arith)
an_element (x ∷ xs) k less = x

module _ {X Y Z : Type 0} (f : X → Z) (g : Y → Z) (xs : List X) (ys : List Y) (same : map f xs ≡ map g ys) where
  pub same_length : length xs ≡ length ys
  same_length = sym (length-map xs f) ∙ ap length same ∙ length-map ys g

  pub same_image : (k : ℕ) (d : X) (e : Y) → k < length xs → f (slice_index_or xs k d) ≡ g (slice_index_or ys k e)
  same_image k d e less =
      let within : k < length ys = subst (λ n. k < n) same_length less in
      sym (get_or-map f xs k d (g e) less) ∙ ap (λ l. slice_index_or l k (g e)) same ∙ get_or-map g ys k e (g e) within

  pub all_same : (P : X → Type 0) (Q : Y → Type 0) → ((x : X) (y : Y) → f x ≡ g y → P x → Q y) → All P xs → All Q ys
  all_same P Q each all k e less =
      let within : k < length xs = subst (λ n. k < n) (sym same_length) less in
      let d = an_element xs k within in
      each (slice_index_or xs k d) (slice_index_or ys k e) (same_image k d e within) (all k d within)

  pub pairs_same : (P : X → X → Type 0) (Q : Y → Y → Type 0) → ((a b : X) (c d : Y) → f a ≡ g c → f b ≡ g d → P a b → Q c d) → AllPairs P xs → AllPairs Q ys
  pairs_same P Q each all i j e less within =
      let here : j < length xs = subst (λ n. j < n) (sym same_length) within in
      let d = an_element xs j here in
      each (slice_index_or xs i d) (slice_index_or xs j d) (slice_index_or ys i e) (slice_index_or ys j e) (same_image i d e (omega arith)) (same_image j d e here) (all i j d less here)

-- ---- bounds

rows_of_bounds_same : {F : Type 0} (value : F → Number) (lower upper : Option F) → rows_of_bounds (bound_value value lower) (bound_value value upper) ≡ rows_of_bounds lower upper
rows_of_bounds_same value None None = refl
rows_of_bounds_same value None (Some u) = refl
rows_of_bounds_same value (Some l) None = refl
rows_of_bounds_same value (Some l) (Some u) = refl

variables_of_bounds_same : {F : Type 0} (value : F → Number) (lower upper : Option F) → variables_of_bounds (bound_value value lower) (bound_value value upper) ≡ variables_of_bounds lower upper
variables_of_bounds_same value None None = refl
variables_of_bounds_same value None (Some u) = refl
variables_of_bounds_same value (Some l) None = refl
variables_of_bounds_same value (Some l) (Some u) = refl

abbrev NumbersCross : Option Number → Option Number → Type 0
NumbersCross lower upper = Crosses itself lower upper

crosses_to : {F : Type 0} (value : F → Number) (lower upper : Option F) → Crosses value lower upper → NumbersCross (bound_value value lower) (bound_value value upper)
crosses_to value None None h = h
crosses_to value None (Some u) h = h
crosses_to value (Some l) None h = h
crosses_to value (Some l) (Some u) h = h

crosses_from : {F : Type 0} (value : F → Number) (lower upper : Option F) → NumbersCross (bound_value value lower) (bound_value value upper) → Crosses value lower upper
crosses_from value None None h = h
crosses_from value None (Some u) h = h
crosses_from value (Some l) None h = h
crosses_from value (Some l) (Some u) h = h

found_image : {X Y : Type 0} (f : X → Y) (o : Option X) (y : Y) → option_map f o ≡ Some y → (x : X) × (o ≡ Some x) × (f x ≡ y)
found_image f None y e = absurd (cc)
found_image f (Some x) y e = (x, refl, cc)

-- ---- two programs

module _ {F G : Type 0} (value : F → Number) (other : G → Number) (lp : Lp F) (wide : Lp G) (same : lp_numbers value lp ≡ lp_numbers other wide) where
  columns_are : map (column_numbers value) lp.columns ≡ map (column_numbers other) wide.columns
  columns_are = ap (λ (p : Lp Number). p.columns) same

  rows_are : map (row_numbers value) lp.rows ≡ map (row_numbers other) wide.rows
  rows_are = ap (λ (p : Lp Number). p.rows) same

  crosses_same : (a : Column F) (b : Column G) → column_numbers value a ≡ column_numbers other b → Crosses value a.lower a.upper → Crosses other b.lower b.upper
  crosses_same a b e h = crosses_from other b.lower b.upper (subst (λ (c : Column Number). NumbersCross c.lower c.upper) e (crosses_to value a.lower a.upper h))

  crosses_back : (a : Column F) (b : Column G) → column_numbers value a ≡ column_numbers other b → Crosses other b.lower b.upper → Crosses value a.lower a.upper
  crosses_back a b e h = crosses_from value a.lower a.upper (subst (λ (c : Column Number). NumbersCross c.lower c.upper) (sym e) (crosses_to other b.lower b.upper h))

  pub none_cross : All (λ (c : Column F). ¬ (Crosses value c.lower c.upper)) lp.columns → All (λ (c : Column G). ¬ (Crosses other c.lower c.upper)) wide.columns
  none_cross =
      all_same (column_numbers value) (column_numbers other) lp.columns wide.columns columns_are (λ (c : Column F). ¬ (Crosses value c.lower c.upper)) (λ (c : Column G). ¬ (Crosses other c.lower c.upper))
      (λ a b e none h. none (crosses_back a b e h))

  first_same : (j : ℕ) → FirstCrossed value lp.columns (Some j) → FirstCrossed other wide.columns (Some j)
  first_same j h =
      let column = h.0.0 in
      let within = slice_get_within lp.columns j column h.0.1 in
      let at : option_map (column_numbers other) (slice_get wide.columns j) ≡ Some (column_numbers value column) =
      sym (slice_get-map (column_numbers other) wide.columns j) ∙ ap (λ l. slice_get l j) (sym columns_are) ∙ slice_get-map (column_numbers value) lp.columns j ∙ ap (option_map (column_numbers value)) h.0.1 in
      let found = found_image (column_numbers other) (slice_get wide.columns j) (column_numbers value column) at in (
        (found.0, found.1, crosses_same column found.0 (sym found.2) h.0.2),
        λ k e low high cross. h.1 k column low high (crosses_back (slice_index_or lp.columns k column) (slice_index_or wide.columns k e) (same_image (column_numbers value) (column_numbers other) lp.columns wide.columns columns_are k column e (omega arith)) cross),
      )

  pub crossed_same : (j : ℕ) (duals more : List Number) → more ≡ duals → ProvesCrossed value lp j duals → ProvesCrossed other wide j more
  crossed_same j duals more is h =
      record {
        first = first_same j h.first;
        duals_zero = is ∙ h.duals_zero ∙ ap (λ n. replicate n (whole (pos 0))) (same_length (row_numbers value) (row_numbers other) lp.rows wide.rows rows_are);
      }

  entries_same : (a : Row F) (b : Row G) → row_numbers value a ≡ row_numbers other b → AreRowEntries value (length lp.columns) a.entries → AreRowEntries other (length wide.columns) b.entries
  entries_same a b e h =
      let entries_are : entries_numbers value a.entries ≡ entries_numbers other b.entries = ap (λ (r : Row Number). r.entries) e in
      let columns : length lp.columns ≡ length wide.columns = same_length (column_numbers value) (column_numbers other) lp.columns wide.columns columns_are in
      record {
        ascending =
            pairs_same (λ (p : ℕ × F). (p.0, value p.1)) (λ (p : ℕ × G). (p.0, other p.1)) a.entries b.entries entries_are (λ (p q : ℕ × F). p.0 < q.0) (λ (p q : ℕ × G). p.0 < q.0)
            (λ p q r s pr qs less. place_less p.0 q.0 r.0 s.0 (ap (λ (n : ℕ × Number). n.0) pr) (ap (λ (n : ℕ × Number). n.0) qs) less) h.ascending;
        there =
            all_same (λ (p : ℕ × F). (p.0, value p.1)) (λ (p : ℕ × G). (p.0, other p.1)) a.entries b.entries entries_are (λ (p : ℕ × F). p.0 < length lp.columns) (λ (p : ℕ × G). p.0 < length wide.columns)
            (λ p q pq less. place_less p.0 (length lp.columns) q.0 (length wide.columns) (ap (λ (n : ℕ × Number). n.0) pq) columns less) h.there;
        not_zero =
            all_same (λ (p : ℕ × F). (p.0, value p.1)) (λ (p : ℕ × G). (p.0, other p.1)) a.entries b.entries entries_are (λ (p : ℕ × F). value p.1 ≢ whole (pos 0)) (λ (p : ℕ × G). other p.1 ≢ whole (pos 0))
            (λ p q pq some none. some (ap (λ (n : ℕ × Number). n.1) pq ∙ none)) h.not_zero;
      }
    where
      place_less : (a b c d : ℕ) → a ≡ c → b ≡ d → a < b → c < d
      place_less a b c d ac bd less = omega arith

  rows_counted : sum_by (λ (row : Row F). rows_of_sense row.sense) lp.rows ≡ sum_by (λ (row : Row G). rows_of_sense row.sense) wide.rows
  rows_counted =
      sym (sum_by_map (λ (row : Row Number). rows_of_sense row.sense) (row_numbers value) lp.rows)
      ∙ ap (sum_by (λ (row : Row Number). rows_of_sense row.sense)) rows_are
      ∙ sum_by_map (λ (row : Row Number). rows_of_sense row.sense) (row_numbers other) wide.rows

-- the sum of a count over columns, which depends on their bounds
counted : {F : Type 0} (value : F → Number) (n : Option Number → Option Number → ℕ) (m : Option F → Option F → ℕ) (columns : List (Column F)) → ((lower upper : Option F) → n (bound_value value lower) (bound_value value upper) ≡ m lower upper) → sum_by (λ (c : Column Number). n c.lower c.upper) (map (column_numbers value) columns) ≡ sum_by (λ (c : Column F). m c.lower c.upper) columns
counted value n m columns each =
    sum_by_map (λ (c : Column Number). n c.lower c.upper) (column_numbers value) columns
    ∙ ap (λ h. sum_by h columns) (fun_ext (λ c. each c.lower c.upper))

module _ {F G : Type 0} (value : F → Number) (other : G → Number) (lp : Lp F) (wide : Lp G) (same : lp_numbers value lp ≡ lp_numbers other wide) where
  abbrev these : map (column_numbers value) lp.columns ≡ map (column_numbers other) wide.columns
  these = columns_are value other lp wide same

  bounds_counted : sum_by (λ (c : Column F). rows_of_bounds c.lower c.upper) lp.columns ≡ sum_by (λ (c : Column G). rows_of_bounds c.lower c.upper) wide.columns
  bounds_counted =
      sym (counted value rows_of_bounds rows_of_bounds lp.columns (rows_of_bounds_same value)) ∙ ap (sum_by (λ (c : Column Number). rows_of_bounds c.lower c.upper)) these
      ∙ counted other rows_of_bounds rows_of_bounds wide.columns (rows_of_bounds_same other)

  variables_counted : sum_by (λ (c : Column F). variables_of_bounds c.lower c.upper) lp.columns ≡ sum_by (λ (c : Column G). variables_of_bounds c.lower c.upper) wide.columns
  variables_counted =
      sym (counted value variables_of_bounds variables_of_bounds lp.columns (variables_of_bounds_same value)) ∙ ap (sum_by (λ (c : Column Number). variables_of_bounds c.lower c.upper)) these
      ∙ counted other variables_of_bounds variables_of_bounds wide.columns (variables_of_bounds_same other)

  pub well_formed_same : IsWellFormed value lp → IsWellFormed other wide
  well_formed_same h =
      let rows = rows_are value other lp wide same in
      let objective : lp.objective ≡ wide.objective = ap (λ (p : Lp Number). p.objective) same in
      let size : length lp.columns ≡ length wide.columns = same_length (column_numbers value) (column_numbers other) lp.columns wide.columns these in
      let within = h.objective in
      let few = h.rows_few in
      let narrow = h.columns_few in
      let counts = rows_counted value other lp wide same in
      let bounds = bounds_counted in
      let variables = variables_counted in
      record {
        objective = omega arith;
        columns_differ =
            pairs_same (column_numbers value) (column_numbers other) lp.columns wide.columns these (λ (a b : Column F). a.key ≢ b.key) (λ (a b : Column G). a.key ≢ b.key)
            (λ a b c d ac bd differ is. differ (ap (λ (x : Column Number). x.key) ac ∙ is ∙ sym (ap (λ (x : Column Number). x.key) bd))) h.columns_differ;
        rows_differ =
            pairs_same (row_numbers value) (row_numbers other) lp.rows wide.rows rows (λ (a b : Row F). a.key ≢ b.key) (λ (a b : Row G). a.key ≢ b.key)
            (λ a b c d ac bd differ is. differ (ap (λ (x : Row Number). x.key) ac ∙ is ∙ sym (ap (λ (x : Row Number). x.key) bd))) h.rows_differ;
        entries =
            all_same (row_numbers value) (row_numbers other) lp.rows wide.rows rows (λ (row : Row F). AreRowEntries value (length lp.columns) row.entries) (λ (row : Row G). AreRowEntries other (length wide.columns) row.entries)
            (λ a b e. entries_same value other lp wide same a b e) h.entries;
        rows_few = omega arith;
        columns_few = omega arith;
      }
