-- The standard form of a well-formed program has its entries in order, and is not too large.
use Rattle.std.proofs.Common.{◌≡◌, ℕ, zero, suc, ◌+◌, ◌<◌, ◌≤◌, pos, List, [], ◌∷◌, ◌++◌, length, map, Option, Some, None, refl, sym, ap, ◌∙◌, subst, arith, length-append}
use Rattle.std.specs.Prelude.{slice_index_or, flat_map, sum_by}
use Rattle.std.specs.List.{All, AllPairs, enumerate_from}
use Rattle.std.proofs.lemmas.List.{length-map}
use Rattle.std.proofs.lemmas.List.Elements.{All-nil, All-cons, All-head, All-tail, All-append}
use Rattle.std.proofs.lemmas.List.Sums.{sum_by-cons}
use Rattle.gq_number.specs.Number.{Number, whole, ◌-ℚ◌, neg_ℚ}
use Rattle.lp_core.specs.declared.program.Sense.{Sense}
use Rattle.lp_core.specs.declared.program.Sense.TheVariants as sense
use Rattle.lp_core.specs.declared.program.Column.{Column}
use Rattle.lp_core.specs.declared.program.Row.{Row}
use Rattle.lp_core.specs.declared.program.Lp.{Lp}
use Rattle.lp_core.specs.Feasible.{bound_value}
use Rattle.lp_core.specs.WellFormed.{IsWellFormed, AreRowEntries}
use Rattle.lp_core.specs.StandardForm as form
use Rattle.lp_core.proofs.Points.{AllPairs-first, AllPairs-rest}
use Rattle.lp_std.specs.InnerSteps.{rows_over, bounds_over}
use Rattle.lp_std.proofs.Shapes.{variables_counted, variables_few, rows_few}
use Rattle.lp_std.proofs.Proved.{rows_over_counted}
use Rattle.lp_std.proofs.Ends.{count_is}
use Rattle.lp_std.proofs.Answered.{bounds_over_counted}
use Rattle.lp_fraction_dict.specs.First.{InOrder, IsInForm}
use Rattle.lp_fraction_dict.proofs.Filling.{in_order_from}

-- ---- the number of a column's first variable

abbrev start : ℕ → List form.Shift → ℕ → ℕ
start n shifts zero = n
start n [] (suc j) = n
start n (s ∷ shifts) (suc j) = start (n + form.width s) shifts j

column_number : (n : ℕ) (shifts : List form.Shift) (j : ℕ) → j < length shifts → (form.column_at (form.numbered n shifts) j).0 ≡ start n shifts j
column_number n [] j less = absurd (omega arith)
column_number n (s ∷ shifts) zero less = refl
column_number n (s ∷ shifts) (suc j) less = column_number (n + form.width s) shifts j (omega arith)

start_next : (n : ℕ) (shifts : List form.Shift) (j : ℕ) → j < length shifts → start n shifts (suc j) ≡ start n shifts j + form.width (form.column_at (form.numbered n shifts) j).1
start_next n [] j less = absurd (omega arith)
start_next n (s ∷ []) zero less = refl
start_next n (s ∷ t ∷ shifts) zero less = refl
start_next n (s ∷ shifts) (suc j) less = start_next (n + form.width s) shifts j (omega arith)

start_least : (n : ℕ) (shifts : List form.Shift) (j : ℕ) → n ≤ start n shifts j
start_least n shifts zero = omega arith
start_least n [] (suc j) = omega arith
start_least n (s ∷ shifts) (suc j) = let rest = start_least (n + form.width s) shifts j in omega arith

start_grows : (n : ℕ) (shifts : List form.Shift) (i j : ℕ) → i ≤ j → start n shifts i ≤ start n shifts j
start_grows n shifts zero j less = start_least n shifts j
start_grows n [] (suc i) zero less = absurd (omega arith)
start_grows n [] (suc i) (suc j) less = omega arith
start_grows n (s ∷ shifts) (suc i) zero less = absurd (omega arith)
start_grows n (s ∷ shifts) (suc i) (suc j) less = start_grows (n + form.width s) shifts i j (omega arith)

start_last : (n : ℕ) (shifts : List form.Shift) → start n shifts (length shifts) ≡ n + sum_by form.width shifts
start_last n [] = omega arith
start_last n (s ∷ shifts) = let rest = start_last (n + form.width s) shifts in let sum = sum_by-cons form.width s shifts in omega arith

-- ---- entries in order

in_order_append : (xs ys : List (ℕ × Number)) (low mid high : ℕ) → InOrder low mid xs → low ≤ mid → mid ≤ high → InOrder mid high ys → InOrder low high (xs ++ ys)
in_order_append [] ys low mid high h less more k = in_order_from ys mid low high k less
in_order_append (e ∷ xs) ys low mid high h less more k =
    let most = h.1 in
    (h.0, omega arith, in_order_append xs ys (e.0 + 1) mid high h.2 (omega arith) more k)

spread_in_order : (v : ℕ) (s : form.Shift) (a : Number) → InOrder v (v + form.width s) (form.spread v s a)
spread_in_order v (form.from_lower b) a = (omega arith, omega arith, tt)
spread_in_order v (form.from_upper b) a = (omega arith, omega arith, tt)
spread_in_order v form.free a = (omega arith, omega arith, (omega arith, omega arith, tt))

negated_in_order : (es : List (ℕ × Number)) (low high : ℕ) → InOrder low high es → InOrder low high (map (λ (e : ℕ × Number). (e.0, neg_ℚ e.1)) es)
negated_in_order [] low high h = tt
negated_in_order (e ∷ es) low high h = (h.0, h.1, negated_in_order es (e.0 + 1) high h.2)

module _ {F : Type 0} (value : F → Number) (shifts : List form.Shift) where
  abbrev columns : List (ℕ × form.Shift)
  columns = form.numbered 1 shifts

  abbrev spread_of : ℕ × F → List (ℕ × Number)
  spread_of e = form.spread (form.column_at (form.numbered 1 shifts) e.0).0 (form.column_at (form.numbered 1 shifts) e.0).1 (value e.1)

  entries_in_order : (es : List (ℕ × F)) (least : ℕ) → AllPairs (λ (a b : ℕ × F). a.0 < b.0) es → All (λ (e : ℕ × F). e.0 < length shifts) es → All (λ (e : ℕ × F). least ≤ e.0) es → InOrder (start 1 shifts least) (1 + sum_by form.width shifts) (flat_map (λ e. spread_of e) es)
  entries_in_order [] least ascending there from = tt
  entries_in_order (e ∷ es) least ascending there from =
      let here : e.0 < length shifts = All-head (λ (e : ℕ × F). e.0 < length shifts) e es there in
      let low : least ≤ e.0 = All-head (λ (e : ℕ × F). least ≤ e.0) e es from in
      let number = column_number 1 shifts e.0 here in
      let next = start_next 1 shifts e.0 here in
      let grows = start_grows 1 shifts least e.0 low in
      let most : start 1 shifts (suc e.0) ≤ 1 + sum_by form.width shifts = subst (λ n. start 1 shifts (suc e.0) ≤ n) (start_last 1 shifts) (start_grows 1 shifts (suc e.0) (length shifts) (omega arith)) in
      let parts : InOrder (start 1 shifts e.0) (start 1 shifts (suc e.0)) (spread_of e) =
      subst (λ n. InOrder n (start 1 shifts (suc e.0)) (spread_of e)) number (subst (λ n. InOrder (form.column_at (form.numbered 1 shifts) e.0).0 n (spread_of e)) (ap (λ n. n + form.width (form.column_at (form.numbered 1 shifts) e.0).1) number ∙ sym next) (spread_in_order (form.column_at (form.numbered 1 shifts) e.0).0 (form.column_at (form.numbered 1 shifts) e.0).1 (value e.1))) in
      in_order_append (spread_of e) (flat_map (λ e. spread_of e) es) (start 1 shifts least) (start 1 shifts (suc e.0)) (1 + sum_by form.width shifts)
      (in_order_from (spread_of e) (start 1 shifts e.0) (start 1 shifts least) (start 1 shifts (suc e.0)) parts grows) (omega arith) most
      (entries_in_order es (suc e.0) (AllPairs-rest (λ (a b : ℕ × F). a.0 < b.0) e es ascending) (All-tail (λ (e : ℕ × F). e.0 < length shifts) e es there) (AllPairs-first (λ (a b : ℕ × F). a.0 < b.0) e es ascending))

-- ---- the rows

All-flat_map : {X Y : Type 0} (P : Y → Type 0) (f : X → List Y) (xs : List X) → All (λ x. All P (f x)) xs → All P (flat_map f xs)
All-flat_map P f [] h = All-nil P
All-flat_map {X} {Y} P f (x ∷ xs) h = All-append P (f x) (flat_map f xs) (All-head (λ (x : X). All P (f x)) x xs h) (All-flat_map P f xs (All-tail (λ (x : X). All P (f x)) x xs h))

All-enumerated : {X : Type 0} (P : ℕ × X → Type 0) (n : ℕ) (xs : List X) → ((i : ℕ) (x : X) → i < length xs → slice_index_or xs i x ≡ x → P (n + i, x)) → All P (enumerate_from n xs)
All-enumerated P n [] h = All-nil P
All-enumerated {X} P n (x ∷ xs) h =
    let here : n + 0 ≡ n = omega arith in
    All-cons P (n, x) (enumerate_from (n + 1) xs) (subst (λ m. P (m, x)) here (h 0 x (omega arith) refl))
    (All-enumerated P (n + 1) xs (λ i y less is. let same : n + suc i ≡ n + 1 + i = omega arith in subst (λ m. P (m, y)) same (h (suc i) y (omega arith) is)))

module _ {F : Type 0} (value : F → Number) (lp : Lp F) (formed : IsWellFormed value lp) where
  abbrev shifts_of : List form.Shift
  shifts_of = map (λ (column : Column F). form.shift_of (bound_value value column.lower) (bound_value value column.upper)) lp.columns

  shifts_sized : length shifts_of ≡ length lp.columns
  shifts_sized = length-map lp.columns (λ (column : Column F). form.shift_of (bound_value value column.lower) (bound_value value column.upper))

  abbrev IsOrdered : form.StandardRow → Type 0
  IsOrdered row = InOrder 1 (1 + sum_by form.width shifts_of) row.entries

  shifted_ordered : (i : ℕ) (row : Row F) → AreRowEntries value (length lp.columns) row.entries → IsOrdered (form.shifted_row value lp i row)
  shifted_ordered i row h = entries_in_order value shifts_of row.entries 0 h.ascending (subst (λ n. All (λ (e : ℕ × F). e.0 < n) row.entries) (sym shifts_sized) h.there) (λ k o less. omega arith)

  by_sense : (s : Sense) (i : ℕ) (row : form.StandardRow) → IsOrdered row → All IsOrdered (form.rows_by_sense s i row)
  by_sense sense.E i row h = All-cons IsOrdered row (form.negated_row i row ∷ []) h (All-cons IsOrdered (form.negated_row i row) [] (negated_in_order row.entries 1 (1 + sum_by form.width shifts_of) h) (All-nil IsOrdered))
  by_sense sense.L i row h = All-cons IsOrdered row [] h (All-nil IsOrdered)
  by_sense sense.G i row h = All-cons IsOrdered (form.negated_row i row) [] (negated_in_order row.entries 1 (1 + sum_by form.width shifts_of) h) (All-nil IsOrdered)
  by_sense sense.N i row h = All-nil IsOrdered

  by_bounds : (j : ℕ) (lower upper : Option Number) → j < length shifts_of → All IsOrdered (form.bound_rows j (form.column_at (form.columns_of value lp) j).0 lower upper)
  by_bounds j (Some l) (Some u) less =
      let number = column_number 1 shifts_of j less in
      let least = start_least 1 shifts_of j in
      let next = start_next 1 shifts_of j less in
      let some = some_width (form.column_at (form.numbered 1 shifts_of) j).1 in
      let most : start 1 shifts_of (suc j) ≤ 1 + sum_by form.width shifts_of = subst (λ n. start 1 shifts_of (suc j) ≤ n) (start_last 1 shifts_of) (start_grows 1 shifts_of (suc j) (length shifts_of) (omega arith)) in
      All-cons IsOrdered (record { right = u -ℚ l; entries = ((form.column_at (form.columns_of value lp) j).0, whole (pos 1)) ∷ []; origin = form.of_bound j }) [] (omega arith, omega arith, tt) (All-nil IsOrdered)
    where
      some_width : (s : form.Shift) → 1 ≤ form.width s
      some_width (form.from_lower b) = omega arith
      some_width (form.from_upper b) = omega arith
      some_width form.free = omega arith
  by_bounds j (Some l) None less = All-nil IsOrdered
  by_bounds j None (Some u) less = All-nil IsOrdered
  by_bounds j None None less = All-nil IsOrdered

  rows_ordered : All IsOrdered (form.rows_of value lp)
  rows_ordered =
      All-append IsOrdered
      (flat_map (λ (p : ℕ × Row F). form.rows_by_sense p.1.sense p.0 (form.shifted_row value lp p.0 p.1)) (enumerate_from 0 lp.rows))
      (flat_map (λ (p : ℕ × Column F). form.bound_rows p.0 (form.column_at (form.columns_of value lp) p.0).0 (bound_value value p.1.lower) (bound_value value p.1.upper)) (enumerate_from 0 lp.columns))
      (All-flat_map IsOrdered (λ (p : ℕ × Row F). form.rows_by_sense p.1.sense p.0 (form.shifted_row value lp p.0 p.1)) (enumerate_from 0 lp.rows)
      (All-enumerated (λ (p : ℕ × Row F). All IsOrdered (form.rows_by_sense p.1.sense p.0 (form.shifted_row value lp p.0 p.1))) 0 lp.rows
      (λ i row less is. by_sense row.sense (0 + i) (form.shifted_row value lp (0 + i) row) (shifted_ordered (0 + i) row (subst (λ (r : Row F). AreRowEntries value (length lp.columns) r.entries) is (formed.entries i row less))))))
      (All-flat_map IsOrdered (λ (p : ℕ × Column F). form.bound_rows p.0 (form.column_at (form.columns_of value lp) p.0).0 (bound_value value p.1.lower) (bound_value value p.1.upper)) (enumerate_from 0 lp.columns)
      (All-enumerated (λ (p : ℕ × Column F). All IsOrdered (form.bound_rows p.0 (form.column_at (form.columns_of value lp) p.0).0 (bound_value value p.1.lower) (bound_value value p.1.upper))) 0 lp.columns
      (λ j column less is. by_bounds (0 + j) (bound_value value column.lower) (bound_value value column.upper) (let size = shifts_sized in omega arith))))

-- ---- sizes

pub form_in_order : {F : Type 0} (value : F → Number) (lp : Lp F) → IsWellFormed value lp → IsInForm (form.standard_form value lp)
form_in_order {F} value lp formed =
    let columns = form.columns_of value lp in
    let count = count_is value lp formed in
    let widths = variables_counted value lp in
    let first = rows_over value columns 0 lp.rows in
    let following = bounds_over value columns 0 lp.columns in
    let bound : 1 + sum_by form.width (shifts_of value lp formed) ≡ length (form.standard_form value lp).objective + 1 = omega (arith, count, widths) in
    record {
      rows = subst (λ n. All (λ (row : form.StandardRow). InOrder 1 n row.entries) (form.rows_of value lp)) bound (rows_ordered value lp formed);
      rows_few = omega (arith, length-append first following, rows_over_counted value columns 0 lp.rows, bounds_over_counted value columns 0 lp.columns, rows_few value lp formed);
      variables_few = omega (arith, count, widths, variables_few value lp formed);
    }
