-- If a right side is within its range, the listed duals give the bound that a feasible point of the
-- program with that right side attains.
use Rattle.std.proofs.Common.{◌≡◌, ℕ, zero, suc, ◌+◌, ◌<◌, ◌≤◌, pos, List, [], ◌∷◌, length, map, get_or, Option, Some, refl, sym, ap, ◌∙◌, subst, arith}
use Rattle.std.specs.Prelude.{slice_get, option_map}
use Rattle.std.specs.List.{All, range_with_len}
use Rattle.std.proofs.lemmas.Option.{slice_get-map}
use Rattle.std.proofs.lemmas.List.FromFn.{length-range_with_len, get_or-range_with_len}
use Rattle.std.proofs.lemmas.List.Elements.{All-map}
use Rattle.gq_number.specs.Number.{Number, whole, ◌+ℚ◌, ◌-ℚ◌, ◌*ℚ◌}
use Rattle.gq_number.specs.Order.{◌≤ℚ◌}
use Rattle.gq_number.proofs.Order
use Rattle.lp_core.specs.declared.program.Sense.{Sense}
use Rattle.lp_core.specs.declared.program.Sense.TheVariants as sense
use Rattle.lp_core.specs.declared.program.Column.{Column}
use Rattle.lp_core.specs.declared.program.Row.{Row}
use Rattle.lp_core.specs.declared.program.Lp.{Lp}
use Rattle.lp_core.specs.Sums.{value_of_column}
use Rattle.lp_core.specs.Feasible.{Feasible}
use Rattle.lp_core.specs.WellFormed.{IsWellFormed}
use Rattle.lp_core.specs.DualBound.{dual_bound}
use Rattle.lp_core.specs.Proofs.{Crosses}
use Rattle.lp_core.specs.Numbers.{row_numbers, lp_numbers}
use Rattle.lp_core.specs.StandardForm.{Standard, standard_form, variables_of, rows_of_sense, dual_by_sense, duals_from, multiplier, directed, levels_back, duals_back}
use Rattle.lp_core.specs.Dictionary.{Dictionary, constant_at, InPhaseOne, OpeningIsRequired}
use Rattle.lp_core.specs.Pivots.{last_of, NothingImproves}
use Rattle.lp_std.specs.Last.{IsDictionaryOf}
use Rattle.lp_std.proofs.Shapes.{All-from_map}
use Rattle.lp_std.proofs.Ends.{within_form, optimal_proved, count_is}
use Rattle.lp_nocycle.proofs.SameForm.{form_same, variables_same}
use Rattle.lp_range.specs.declared.interval.Interval.{Interval}
use Rattle.lp_range.specs.Spans.{Gain, Span, IsInSpan, Stay, span}
use Rattle.lp_range.specs.Ranges.{interval_value, span_value, right_gain, right_gains, right_spans, rights}
use Rattle.lp_range.specs.Moved.{itself, rows_with_right, with_right, MeetsBoundWithRight}
use Rattle.lp_range.proofs.Spans.{AreAbove, within_stays}
use Rattle.lp_range.proofs.Moves.{moved, moved_of_form, nothing_moved, costs_same}
use Rattle.lp_range.proofs.Pushes.{slack_at, slack_high, push, rows_bound, form_is_moved, gained_is}
use Rattle.lp_range.proofs.Numbers.{with_right_formed, numbers_formed, none_cross}

-- ---- the gains of constants

module _ (limit : ℕ) (d : Dictionary) (s : Sense) (v : ℕ) where
  pub amount_is : (s : Sense) (k : ℕ) → (right_gain limit d s v k).amount ≡ constant_at d k
  amount_is sense.E k = refl
  amount_is sense.L k = refl
  amount_is sense.G k = refl
  amount_is sense.N k = refl

  number_at : (k e : ℕ) → k < length (range_with_len 0 (length d.basic)) → get_or (range_with_len 0 (length d.basic)) k e ≡ k
  number_at k e less =
      let within : k < length d.basic = omega (arith, less, length-range_with_len 0 (length d.basic)) in
      get_or-range_with_len 0 (length d.basic) k e within ∙ (let same : 0 + k ≡ k = omega arith in same)

  pub constants_above : ¬ (OpeningIsRequired d) → AreAbove (right_gains limit d s v)
  constants_above not_required =
      All-map (λ (g : Gain). whole (pos 0) ≤ℚ g.amount) (right_gain limit d s v) (range_with_len 0 (length d.basic))
      (λ k e less.
      let within : k < length d.basic = omega (arith, less, length-range_with_len 0 (length d.basic)) in
      subst (λ j. whole (pos 0) ≤ℚ (right_gain limit d s v j).amount) (sym (number_at k e less))
      (subst (λ u. whole (pos 0) ≤ℚ u) (sym (amount_is s k)) (Order.≤ℚ_from_not_above (whole (pos 0)) (constant_at d k) (λ below. not_required (k, within, below)))))

  pub constant_stays : (t : Number) → Stay (right_gains limit d s v) t → (k : ℕ) → k < length d.basic → whole (pos 0) ≤ℚ constant_at d k +ℚ t *ℚ (right_gain limit d s v k).each
  constant_stays t stay k less =
      let there : k < length (range_with_len 0 (length d.basic)) = omega (arith, less, length-range_with_len 0 (length d.basic)) in
      let all = All-from_map (λ (g : Gain). whole (pos 0) ≤ℚ g.amount +ℚ t *ℚ g.each) (right_gain limit d s v) (range_with_len 0 (length d.basic)) stay in
      subst (λ u. whole (pos 0) ≤ℚ u +ℚ t *ℚ (right_gain limit d s v k).each) (amount_is s k)
      (subst (λ j. whole (pos 0) ≤ℚ (right_gain limit d s v j).amount +ℚ t *ℚ (right_gain limit d s v j).each) (number_at k 0 there) (all k 0 there))

-- ---- the duals do not name right sides

duals_rows : (right : Number) (q : ℕ → Number) (r i : ℕ) (rows : List (Row Number)) → duals_from q r (rows_with_right i right rows) ≡ duals_from q r rows
duals_rows right q r i [] = refl
duals_rows right q r zero (row ∷ rows) = refl
duals_rows right q r (suc i) (row ∷ rows) = ap (λ l. dual_by_sense row.sense q r ∷ l) (duals_rows right q (r + rows_of_sense row.sense) i rows)

-- ---- a program of numbers

module _ (limit : ℕ) (lp : Lp Number) (formed : IsWellFormed itself lp) (ordered : All (λ (c : Column Number). ¬ (Crosses itself c.lower c.upper)) lp.columns) (d : Dictionary) (is : IsDictionaryOf (standard_form itself lp) d) (second : ¬ (InPhaseOne d)) (nothing : NothingImproves d) (i : ℕ) (row : Row Number) (at : slice_get lp.rows i ≡ Some row) (right : Number) (stay : Stay (right_gains limit d row.sense (slack_at (variables_of itself lp + 1) i lp.rows)) (right -ℚ row.right)) where
  abbrev v : ℕ
  v = slack_at (variables_of itself lp + 1) i lp.rows

  abbrev pushed : ℕ → Number
  pushed = push lp formed i row at right

  within_bound : v + rows_of_sense row.sense ≤ d.variables + 1
  within_bound =
      let high = slack_high (variables_of itself lp + 1) i lp.rows row at in
      omega (arith, high, is.variables, count_is itself lp formed, rows_bound lp formed i row at right)

  stays : (k : ℕ) → k < length d.basic → whole (pos 0) ≤ℚ constant_at (moved pushed d) k
  stays k less =
      subst (λ u. whole (pos 0) ≤ℚ constant_at d k +ℚ u) (sym (gained_is limit d v (right -ℚ row.right) k row.sense within_bound)) (constant_stays limit d row.sense v (right -ℚ row.right) stay k less)

  not_required : ¬ (OpeningIsRequired (moved pushed d))
  not_required required = Order.not_above (whole (pos 0)) (constant_at (moved pushed d) required.0) (stays required.0 required.1) required.2

  of_form : IsDictionaryOf (standard_form itself (with_right i right lp)) (moved pushed d)
  of_form = moved_of_form pushed d (standard_form itself lp) (standard_form itself (with_right i right lp)) is (form_is_moved lp formed i row at right) second not_required (within_form itself lp formed)

  same_duals : duals_back itself (with_right i right lp) (last_of (moved pushed d)) ≡ duals_back itself lp (last_of d)
  same_duals =
      ap (map (directed lp.maximize))
      (duals_rows right (multiplier (variables_of itself lp) (last_of (moved pushed d)).costs) 0 i lp.rows ∙ ap (λ cs. duals_from (multiplier (variables_of itself lp) cs) 0 lp.rows) (costs_same pushed d))

  pub meets_with : (x : List Number) × Feasible itself (with_right i right lp) x × (dual_bound itself (with_right i right lp) (duals_back itself lp (last_of d)) ≡ Some (value_of_column x lp.objective))
  meets_with =
      let proof = optimal_proved itself (with_right i right lp) (with_right_formed right i lp formed) ordered (moved pushed d) of_form not_required second (nothing_moved pushed d not_required nothing) in
      let x = levels_back itself (with_right i right lp) (last_of (moved pushed d)) in
      (x, proof.feasible, subst (λ ds. dual_bound itself (with_right i right lp) ds ≡ Some (value_of_column x lp.objective)) same_duals proof.bound)

-- ---- the ranges of rows

-- a range is that of its row
spans_at : {F : Type 0} (value : F → Number) (limit : ℕ) (d : Dictionary) (v : ℕ) (rows : List (Row F)) (i : ℕ) (o : Option Span) → slice_get (right_spans limit d value v rows) i ≡ Some o → (row : Row F) × (slice_get rows i ≡ Some row) × (span limit (value row.right) (right_gains limit d row.sense (slack_at v i rows)) ≡ o)
spans_at value limit d v [] i o at = absurd (cc)
spans_at value limit d v (row ∷ rows) zero o at = (row, refl, cc)
spans_at value limit d v (row ∷ rows) (suc i) o at = spans_at value limit d (v + rows_of_sense row.sense) rows i o at

module _ {F : Type 0} (value : F → Number) (limit : ℕ) (lp : Lp F) (d : Dictionary) where
  spans_same : (v : ℕ) (rows : List (Row F)) → right_spans limit d itself v (map (row_numbers value) rows) ≡ right_spans limit d value v rows
  spans_same v [] = refl
  spans_same v (row ∷ rows) = ap (λ l. span limit (value row.right) (right_gains limit d row.sense v) ∷ l) (spans_same (v + rows_of_sense row.sense) rows)

  rights_same : rights itself limit (lp_numbers value lp) d ≡ rights value limit lp d
  rights_same = spans_same (variables_of itself (lp_numbers value lp) + 1) lp.rows ∙ ap (λ n. right_spans limit d value (n + 1) lp.rows) (variables_same value lp)

  duals_from_same : (p : ℕ → Number) (r : ℕ) (rows : List (Row F)) → duals_from p r (map (row_numbers value) rows) ≡ duals_from p r rows
  duals_from_same p r [] = refl
  duals_from_same p r (row ∷ rows) = ap (λ l. dual_by_sense row.sense p r ∷ l) (duals_from_same p (r + rows_of_sense row.sense) rows)

  duals_same : duals_back itself (lp_numbers value lp) (last_of d) ≡ duals_back value lp (last_of d)
  duals_same =
      ap (map (directed lp.maximize))
      (duals_from_same (multiplier (variables_of itself (lp_numbers value lp)) (last_of d).costs) 0 lp.rows ∙ ap (λ n. duals_from (multiplier n (last_of d).costs) 0 lp.rows) (variables_same value lp))

  module _ (formed : IsWellFormed value lp) (none : All (λ (c : Column F). ¬ (Crosses value c.lower c.upper)) lp.columns) (is : IsDictionaryOf (standard_form value lp) d) (second : ¬ (InPhaseOne d)) (nothing : NothingImproves d) where
    abbrev numbers : Lp Number
    numbers = lp_numbers value lp

    pub rights_meet : (made : List (Option (Interval F))) (duals : List Number) → map (span_value value) made ≡ rights value limit lp d → duals ≡ duals_back value lp (last_of d) → (i : ℕ) (interval : Interval F) (right : Number) → slice_get made i ≡ Some (Some interval) → IsInSpan (interval_value value interval) right → MeetsBoundWithRight value lp duals i right
    rights_meet made duals made_is duals_are i interval right at within =
        let there : slice_get (rights itself limit (lp_numbers value lp) d) i ≡ Some (Some (interval_value value interval)) =
        ap (λ l. slice_get l i) (rights_same ∙ sym made_is) ∙ slice_get-map (span_value value) made i ∙ ap (option_map (span_value value)) at in
        let found = spans_at itself limit d (variables_of itself (lp_numbers value lp) + 1) (map (row_numbers value) lp.rows) i (Some (interval_value value interval)) there in
        let row = found.0 in
        let slack = slack_at (variables_of itself (lp_numbers value lp) + 1) i (map (row_numbers value) lp.rows) in
        let stay = within_stays limit row.right right (right_gains limit d row.sense slack) (interval_value value interval) (constants_above limit d row.sense slack nothing.0) found.2 within in
        subst (λ ds. MeetsBoundWithRight value lp ds i right) (duals_same ∙ sym duals_are)
        (meets_with limit numbers (numbers_formed value lp formed) (none_cross value lp.columns none) d (subst (λ (s : Standard). IsDictionaryOf s d) (sym (form_same value lp)) is) second nothing i row found.1 right stay)
