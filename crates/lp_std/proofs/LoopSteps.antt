-- The loops over columns, entries and rows, as the code runs them.
use Rattle.std.proofs.Common.{◌≡◌, ℕ, zero, suc, ◌+◌, ◌<◌, ◌≤◌, pos, List, [], ◌∷◌, ◌++◌, length, map, get_or, take, drop, Some, None, sym, ap, ◌∙◌, arith, append_assoc}
use Rattle.std.proofs.lemmas.List.{take_more, drop_all, append-nil, map-append}
use Rattle.std.proofs.lemmas.Grind.{flat_map-append}
use Rattle.gq_number.specs.Number.{Number, whole, ◌+ℚ◌, ◌-ℚ◌, ◌*ℚ◌}
use Rattle.gq_number.specs.Sums.{sum_by_ℚ}
use Rattle.gq_number.proofs.Sums.{sum_by_ℚ-nil, sum_by_ℚ-cons}
use Rattle.gq_number.proofs.Ring.{ring_ℚ}
use Rattle.lp_core.specs.declared.answer.StepName.{StepName}
use Rattle.lp_core.specs.StandardForm as form
use Rattle.lp_core.specs.Steps.{shifting, row_steps}
use Rattle.lp_form.proofs.LoopSteps.{drop_item}
use Rattle.lp_std.specs.declared.types.Shift.{Shift}
use Rattle.lp_std.specs.Meaning.{shift_value}
use Rattle.lp_std.specs.InnerSteps.{first_stop, placed_value, right_after, spread_entries}
use Rattle.lp_std.proofs.Stops.{stop_after, stop_before}

-- ---- numbers of variables

module _ {F : Type 0} (value : F → Number) where
  pub numbered_goes : (placed : List (ℕ × Shift F)) (shifts : List (Shift F)) (i n : ℕ) (s : Shift F) → i < length shifts → s ≡ get_or shifts i s → placed_value value (placed ++ (n, s) ∷ []) ++ form.numbered (n + form.width (shift_value value s)) (map (shift_value value) (drop (i + 1) shifts)) ≡ placed_value value placed ++ form.numbered n (map (shift_value value) (drop i shifts))
  numbered_goes placed shifts i n s here is =
      ap (λ ys. ys ++ form.numbered (n + form.width (shift_value value s)) (map (shift_value value) (drop (i + 1) shifts))) (map-append (λ (p : ℕ × Shift F). (p.0, shift_value value p.1)) placed ((n, s) ∷ []))
      ∙ append_assoc (placed_value value placed) ((n, shift_value value s) ∷ []) (form.numbered (n + form.width (shift_value value s)) (map (shift_value value) (drop (i + 1) shifts)))
      ∙ sym (ap (λ xs. placed_value value placed ++ form.numbered n (map (shift_value value) xs)) (drop_item shifts i s here is))

  pub numbered_ends : (placed : List (ℕ × Shift F)) (shifts : List (Shift F)) (i n : ℕ) → length shifts ≤ i → placed_value value placed ≡ placed_value value placed ++ form.numbered n (map (shift_value value) (drop i shifts))
  numbered_ends placed shifts i n end =
      sym (append-nil (placed_value value placed)) ∙ sym (ap (λ xs. placed_value value placed ++ form.numbered n (map (shift_value value) xs)) (drop_all i shifts end))

  -- a column at its place
  pub column_at-map : (columns : List (ℕ × Shift F)) (j : ℕ) (p : ℕ × Shift F) → j < length columns → p ≡ get_or columns j p → form.column_at (placed_value value columns) j ≡ (p.0, shift_value value p.1)
  column_at-map [] j p h e = absurd (omega arith)
  column_at-map (q ∷ columns) zero p h e = ap (λ (r : ℕ × Shift F). (r.0, shift_value value r.1)) (sym e)
  column_at-map (q ∷ columns) (suc j) p h e = column_at-map columns j p (omega arith) e

-- ---- the entries of a row

module _ {F : Type 0} (value : F → Number) (limit : ℕ) (columns : List (ℕ × Shift F)) (row : ℕ) (entries : List (ℕ × F)) where
  module _ (i : ℕ) (e : ℕ × F) (p : ℕ × Shift F) (here : i < length entries) (e_is : e ≡ get_or entries i e) (there : e.0 < length columns) (p_is : p ≡ get_or columns e.0 p) where
    steps_here : (right : Number) → row_steps value limit (placed_value value columns) row right (drop i entries) ≡ shifting limit row e.0 (shift_value value p.1) (value e.1) right ++ row_steps value limit (placed_value value columns) row (right -ℚ value e.1 *ℚ form.base (shift_value value p.1)) (drop (i + 1) entries)
    steps_here right =
        ap (row_steps value limit (placed_value value columns) row right) (drop_item entries i e here e_is)
        ∙ ap (λ (c : ℕ × form.Shift). shifting limit row e.0 c.1 (value e.1) right ++ row_steps value limit (placed_value value columns) row (right -ℚ value e.1 *ℚ form.base c.1) (drop (i + 1) entries)) (column_at-map value columns e.0 p there p_is)

    pub steps_go : (left next : F) → (first_stop (shifting limit row e.0 (shift_value value p.1) (value e.1) (value left)) ≡ None) × (value next ≡ value left -ℚ value e.1 *ℚ form.base (shift_value value p.1)) → first_stop (row_steps value limit (placed_value value columns) row (value left) (drop i entries)) ≡ first_stop (row_steps value limit (placed_value value columns) row (value next) (drop (i + 1) entries))
    steps_go left next h =
        ap first_stop (steps_here (value left))
        ∙ stop_after (shifting limit row e.0 (shift_value value p.1) (value e.1) (value left)) (row_steps value limit (placed_value value columns) row (value left -ℚ value e.1 *ℚ form.base (shift_value value p.1)) (drop (i + 1) entries)) h.0
        ∙ ap (λ n. first_stop (row_steps value limit (placed_value value columns) row n (drop (i + 1) entries))) (sym h.1)

    pub steps_stop : (left : F) (step : StepName) → first_stop (shifting limit row e.0 (shift_value value p.1) (value e.1) (value left)) ≡ Some step → first_stop (row_steps value limit (placed_value value columns) row (value left) (drop i entries)) ≡ Some step
    steps_stop left step h =
        ap first_stop (steps_here (value left))
        ∙ stop_before (shifting limit row e.0 (shift_value value p.1) (value e.1) (value left)) (row_steps value limit (placed_value value columns) row (value left -ℚ value e.1 *ℚ form.base (shift_value value p.1)) (drop (i + 1) entries)) step h

    pub right_goes : (left next : F) → value next ≡ value left -ℚ value e.1 *ℚ form.base (shift_value value p.1) → right_after value (placed_value value columns) (value left) (drop i entries) ≡ right_after value (placed_value value columns) (value next) (drop (i + 1) entries)
    right_goes left next h =
        ap (right_after value (placed_value value columns) (value left)) (drop_item entries i e here e_is)
        ∙ ap (λ (c : ℕ × form.Shift). right_after value (placed_value value columns) (value left -ℚ value e.1 *ℚ form.base c.1) (drop (i + 1) entries)) (column_at-map value columns e.0 p there p_is)
        ∙ ap (λ n. right_after value (placed_value value columns) n (drop (i + 1) entries)) (sym h)

    pub spread_more : spread_entries value (placed_value value columns) (take (i + 1) entries) ≡ spread_entries value (placed_value value columns) (take i entries) ++ form.spread p.0 (shift_value value p.1) (value e.1)
    spread_more =
        ap (spread_entries value (placed_value value columns)) (take_more entries i e here ∙ ap (λ y. take i entries ++ y ∷ []) (sym e_is))
        ∙ flat_map-append (λ (d : ℕ × F). form.spread (form.column_at (placed_value value columns) d.0).0 (form.column_at (placed_value value columns) d.0).1 (value d.1)) (take i entries) (e ∷ [])
        ∙ ap (λ ys. spread_entries value (placed_value value columns) (take i entries) ++ ys) (append-nil (form.spread (form.column_at (placed_value value columns) e.0).0 (form.column_at (placed_value value columns) e.0).1 (value e.1)) ∙ ap (λ (c : ℕ × form.Shift). form.spread c.0 c.1 (value e.1)) (column_at-map value columns e.0 p there p_is))

  pub steps_end : (i : ℕ) (right : Number) → length entries ≤ i → first_stop (row_steps value limit (placed_value value columns) row right (drop i entries)) ≡ None
  steps_end i right end = ap (λ xs. first_stop (row_steps value limit (placed_value value columns) row right xs)) (drop_all i entries end)

  pub right_ends : (i : ℕ) (right : Number) → length entries ≤ i → right_after value (placed_value value columns) right (drop i entries) ≡ right
  right_ends i right end = ap (right_after value (placed_value value columns) right) (drop_all i entries end)

-- the right side taken entry by entry is the one less the sum
pub right_sum : {F : Type 0} (value : F → Number) (columns : List (ℕ × form.Shift)) (right : Number) (entries : List (ℕ × F)) → right_after value columns right entries ≡ right -ℚ sum_by_ℚ (λ (e : ℕ × F). value e.1 *ℚ form.base (form.column_at columns e.0).1) entries
right_sum value columns right [] = sym (ap (λ n. right -ℚ n) (sum_by_ℚ-nil _) ∙ less_nothing right)
  where
    less_nothing : (x : Number) → x -ℚ whole (pos 0) ≡ x
    less_nothing x = simp ring_ℚ
right_sum {F} value columns right (e ∷ entries) =
    let term = value e.1 *ℚ form.base (form.column_at columns e.0).1 in
    let rest = sum_by_ℚ (λ (d : ℕ × F). value d.1 *ℚ form.base (form.column_at columns d.0).1) entries in
    right_sum value columns (right -ℚ term) entries ∙ less_both right term rest ∙ ap (λ n. right -ℚ n) (sym (sum_by_ℚ-cons _ e entries))
  where
    less_both : (x y z : Number) → (x -ℚ y) -ℚ z ≡ x -ℚ (y +ℚ z)
    less_both x y z = simp ring_ℚ
