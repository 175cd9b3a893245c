-- The loops of the code: gain by gain, row by row, column by column, pivot by pivot.
use Rattle.std.proofs.Common.{◌≡◌, ◌≢◌, ℕ, suc, ◌+◌, ◌-◌, ◌<◌, ◌≤◌, ◌&&◌, Bool, true, false, not, cond, inl, inr, pos, List, [], ◌∷◌, ◌++◌, length, map, filter, drop, get_or, Option, Some, None, refl, sym, ap, ap₂, ◌∙◌, subst, arith, append_assoc}
use Rattle.std.specs.Prelude.{slice_get, Contains, IsTrue, is_some, sum_by, ◌↔◌}
use Rattle.std.specs.List.{range_with_len}
use Rattle.std.specs.declared.cmp.Ordering.{Ordering}
use Rattle.std.specs.declared.cmp.Ordering.TheVariants.{Less, Equal, Greater}
use Rattle.std.proofs.lemmas.Bool.{eq-eqb, ne_eqb}
use Rattle.std.proofs.lemmas.List.{drop_all, map-append, append-nil, length-append, get_or_default}
use Rattle.std.proofs.lemmas.List.Sums.{sum_by-cons}
use Rattle.std.proofs.lemmas.List.Elements.{All-head}
use Rattle.gq_number.specs.Number.{Number, whole, ◌-ℚ◌, neg_ℚ}
use Rattle.gq_number.specs.Order.{number_cmp}
use Rattle.gq_number.proofs.Signs.{≢-zero_above, ≢-zero_below}
use Rattle.gq_number.proofs.Compares.{number_cmp_decides}
use Rattle.gq_field.specs.Fits.{sum_fits}
use Rattle.lp_form.proofs.LoopSteps.{drop_item}
use Rattle.lp_core.specs.declared.answer.Pivot.{Pivot}
use Rattle.lp_core.specs.declared.answer.StepName.{StepName}
use Rattle.lp_core.specs.declared.answer.Rule.TheVariants.{Legal}
use Rattle.lp_core.specs.declared.program.Sense.{Sense}
use Rattle.lp_core.specs.declared.program.Sense.TheVariants as sense
use Rattle.lp_core.specs.declared.program.Row.{Row}
use Rattle.lp_core.specs.declared.program.Lp.{Lp}
use Rattle.lp_core.specs.WellFormed.{IsWellFormed, rows_of_sense}
use Rattle.lp_core.specs.Feasible.{bound_value}
use Rattle.lp_core.specs.DualBound.{objective_costs}
use Rattle.lp_core.specs.StandardForm.{width, numbered}
use Rattle.lp_core.specs.StandardForm as form
use Rattle.lp_core.specs.Dictionary.{Dictionary, entry_at, IsLegal, exchanged}
use Rattle.lp_core.specs.Steps.{ExpectedStep, AllFit, FirstStop, exchange_steps, count_of_rows}
use Rattle.lp_core.specs.Pivots.{row_of_basic, change_by_row, ByRule, LeadsWithin}
use Rattle.lp_std.specs.declared.types.Shift.{Shift}
use Rattle.lp_std.specs.Meaning.{shift_value}
use Rattle.lp_std.specs.InnerSteps.{rows_over, bounds_over}
use Rattle.lp_std.specs.Last.{IsDictionaryOf}
use Rattle.lp_std.proofs.Proved.{rows_over_counted}
use Rattle.lp_std.proofs.Ends.{count_is}
use Rattle.lp_std.proofs.Sums.{All-append_right}
use Rattle.lp_fraction_dict.specs.Pivots.{IsProper}
use Rattle.lp_fraction_dict.proofs.Lists.{place_is, no_place}
use Rattle.lp_fraction_dict.proofs.Improving.{found_or_not}
use Rattle.lp_range.specs.declared.interval.Interval.{Interval}
use Rattle.lp_range.specs.Spans.{Gain, end_of, low_by, high_by, end_fits, gain_fits, span_from, span}
use Rattle.lp_range.specs.Ranges.{span_value, right_gain, right_gains, right_spans, change, cost_gains, cost_spans}
use Rattle.lp_range.specs.InnerSteps.{IsFound, EndsWith}
use Rattle.lp_range.proofs.Spans.{span_goes, span_stops}

-- ---- signs by comparisons

pub not_zero_above : (e z : Number) (o : Ordering) → z ≡ whole (pos 0) → o ≡ number_cmp e z → o ≡ Greater → e ≡ whole (pos 0) → ⊥
not_zero_above e z o none is greater =
    ≢-zero_above e ((number_cmp_decides e (whole (pos 0))).2.0 (sym (is ∙ ap (number_cmp e) none) ∙ greater))

pub not_zero_below : (e z : Number) (o : Ordering) → z ≡ whole (pos 0) → o ≡ number_cmp e z → o ≡ Less → e ≡ whole (pos 0) → ⊥
not_zero_below e z o none is less =
    ≢-zero_below e ((number_cmp_decides e (whole (pos 0))).0.0 (sym (is ∙ ap (number_cmp e) none) ∙ less))

-- ---- one gain more

module _ {F : Type 0} (value : F → Number) (limit : ℕ) (x : Number) (moves : Interval F) (g : Gain) (gains : List Gain) where
  same_gain : (amount each : Number) → amount ≡ g.amount → g.fits ≡ true → each ≡ g.each → (record { amount = amount; each = each; fits = true }) ≡ g
  same_gain amount each amount_is fit each_is = λ t. record { amount = amount_is t; each = each_is t; fits = sym fit t }

  pub gain_goes : (after : Interval F) (amount : Number) (each : F) → IsFound value g (Some each) → amount ≡ g.amount → EndsWith value limit moves (record { amount = amount; each = value each; fits = true }) (Some after) → span_from limit x (bound_value value moves.low) (bound_value value moves.high) (g ∷ gains) ≡ span_from limit x (bound_value value after.low) (bound_value value after.high) gains
  gain_goes after amount each found amount_is ends =
      let e = subst (λ (k : Gain). EndsWith value limit moves k (Some after)) (same_gain amount (value each) amount_is found.0 found.1) ends in
      span_goes limit x (bound_value value moves.low) (bound_value value moves.high) g gains e.0 ∙ ap₂ (λ lo hi. span_from limit x lo hi gains) (sym e.1) (sym e.2)

  pub gain_stops : g.fits ≡ false → span_from limit x (bound_value value moves.low) (bound_value value moves.high) (g ∷ gains) ≡ None
  gain_stops misfit = span_stops limit x (bound_value value moves.low) (bound_value value moves.high) g gains (ap (λ b. b && end_fits (number_cmp g.each (whole (pos 0))) limit g) misfit)

  pub end_stops : (amount : Number) (each : F) → IsFound value g (Some each) → amount ≡ g.amount → gain_fits limit (record { amount = amount; each = value each; fits = true }) ≡ false → span_from limit x (bound_value value moves.low) (bound_value value moves.high) (g ∷ gains) ≡ None
  end_stops amount each found amount_is misfit =
      span_stops limit x (bound_value value moves.low) (bound_value value moves.high) g gains (subst (λ (k : Gain). gain_fits limit k ≡ false) (same_gain amount (value each) amount_is found.0 found.1) misfit)

-- an amount that gains nothing sets no end
pub no_end : {F : Type 0} (value : F → Number) (limit : ℕ) (moves : Interval F) (amount each zero : Number) (o : Ordering) → zero ≡ whole (pos 0) → o ≡ number_cmp each zero → o ≡ Equal → EndsWith value limit moves (record { amount = amount; each = each; fits = true }) (Some moves)
no_end value limit moves amount each zero o none is equal =
    let same : number_cmp each (whole (pos 0)) ≡ Equal = sym (is ∙ ap (number_cmp each) none) ∙ equal in
    let g : Gain = record { amount = amount; each = each; fits = true } in (
      ap (λ k. end_fits k limit g) same,
      sym (ap (λ k. low_by k (bound_value value moves.low) (end_of g)) same),
      sym (ap (λ k. high_by k (bound_value value moves.high) (end_of g)) same),
    )

-- the loop begins with no ends
pub traversal_begins : {F : Type 0} (value : F → Number) (limit : ℕ) (x : Number) (moves : Interval F) (gains rest : List Gain) → moves.low ≡ None → moves.high ≡ None → rest ≡ gains → span limit x gains ≡ span_from limit x (bound_value value moves.low) (bound_value value moves.high) rest
traversal_begins value limit x moves gains rest low high same =
    sym (ap₂ (λ lo hi. span_from limit x (bound_value value lo) (bound_value value hi) rest) low high ∙ ap (λ gs. span limit x gs) same)

-- ---- numbers in order

pub range_more : (k n : ℕ) → k < n → range_with_len k (n - k) ≡ k ∷ range_with_len (k + 1) (n - (k + 1))
range_more k n less = ap (range_with_len k) (let same : n - k ≡ suc (n - (k + 1)) = omega arith in same)

pub range_ends : (k n : ℕ) → n ≤ k → range_with_len k (n - k) ≡ []
range_ends k n most = ap (range_with_len k) (let same : n - k ≡ 0 = omega arith in same)

pub range_starts : (n : ℕ) → range_with_len 0 (n - 0) ≡ range_with_len 0 n
range_starts n = ap (range_with_len 0) (let same : n - 0 ≡ n = omega arith in same)

-- ---- what a variable gains

module _ (limit : ℕ) (d : Dictionary) (proper : IsProper d) (q v : ℕ) where
  pub change_some : (row : ℕ) → slice_get d.basic row ≡ Some v → change limit d q v ≡ neg_ℚ (entry_at d row q)
  change_some row at = ap (change_by_row d q v) (place_is d.basic row v proper.distinct at)

  pub change_same : ¬ (Contains d.basic v) → v ≡ q → change limit d q v ≡ whole (pos 1)
  change_same none same = ap (change_by_row d q v) (no_place d.basic v none) ∙ ap (λ b. cond b (whole (pos 1)) (whole (pos 0))) (eq-eqb q v (sym same))

  pub change_other : ¬ (Contains d.basic v) → v ≢ q → change limit d q v ≡ whole (pos 0)
  change_other none apart = ap (change_by_row d q v) (no_place d.basic v none) ∙ ap (λ b. cond b (whole (pos 1)) (whole (pos 0))) (ne_eqb q v (λ same. apart (sym same)))

-- ---- the variables that are not basic

module _ (d : Dictionary) (proper : IsProper d) (v : ℕ) where
  basic_row : Contains d.basic v → is_some (row_of_basic d v) ≡ true
  basic_row h =
      elim (found_or_not d.basic v) [
        | inl found ↦ ap is_some (place_is d.basic found.0 v proper.distinct found.1)
        | inr none ↦ absurd (none h)
      ]

  other_row : ¬ (Contains d.basic v) → is_some (row_of_basic d v) ≡ false
  other_row none = ap is_some (no_place d.basic v none)

  pub tests_basic : (b : Bool) → IsTrue b ↔ Contains d.basic v → not (is_some (row_of_basic d v)) ≡ not b
  tests_basic true h = ap not (basic_row (h.0 refl))
  tests_basic false h = ap not (other_row (λ basic. absurd (let clash : false ≡ true = h.1 basic in cc)))

module _ (p : ℕ → Bool) (made : List ℕ) (k n : ℕ) (less : k < n) where
  pub kept_goes : p k ≡ true → (made ++ k ∷ []) ++ filter p (range_with_len (k + 1) (n - (k + 1))) ≡ made ++ filter p (range_with_len k (n - k))
  kept_goes kept =
      append_assoc made (k ∷ []) (filter p (range_with_len (k + 1) (n - (k + 1))))
      ∙ ap (λ l. made ++ l) (sym (ap (filter p) (range_more k n less) ∙ ap (λ b. cond b (k ∷ filter p (range_with_len (k + 1) (n - (k + 1)))) (filter p (range_with_len (k + 1) (n - (k + 1))))) kept))

  pub left_goes : p k ≡ false → made ++ filter p (range_with_len (k + 1) (n - (k + 1))) ≡ made ++ filter p (range_with_len k (n - k))
  left_goes left =
      ap (λ l. made ++ l) (sym (ap (filter p) (range_more k n less) ∙ ap (λ b. cond b (k ∷ filter p (range_with_len (k + 1) (n - (k + 1)))) (filter p (range_with_len (k + 1) (n - (k + 1))))) left))

-- ---- what the constant of a row gains by the two slacks of an equation

module _ (limit : ℕ) (d : Dictionary) (v k : ℕ) (x y : Number) (first : x ≡ d.numbers k (v + 1)) (second : y ≡ d.numbers k (v + 2)) where
  next_is : y ≡ entry_at d k (v + 1)
  next_is = second ∙ ap (d.numbers k) (let same : v + 2 ≡ v + 1 + 1 = omega arith in same)

  pub pair_fits : (b : Bool) → sum_fits limit x (neg_ℚ y) ≡ b → (right_gain limit d sense.E v k).fits ≡ b
  pair_fits b e = ap₂ (λ p q. sum_fits limit p (neg_ℚ q)) (sym first) (sym next_is) ∙ e

  pub pair_gains : (z : Number) → z ≡ x -ℚ y → z ≡ (right_gain limit d sense.E v k).each
  pair_gains z e = e ∙ ap₂ (λ p q. p -ℚ q) first next_is

-- ---- rows

module _ {F : Type 0} (value : F → Number) (limit : ℕ) (d : Dictionary) (rows : List (Row F)) (i : ℕ) (row : Row F) (here : i < length rows) (is : row ≡ get_or rows i row) where
  pub rows_left : count_of_rows (drop i rows) ≡ rows_of_sense row.sense + count_of_rows (drop (i + 1) rows)
  rows_left = ap count_of_rows (drop_item rows i row here is) ∙ sum_by-cons (λ (row : Row F). rows_of_sense row.sense) row (drop (i + 1) rows)

  pub spans_go : (made : List (Option (Interval F))) (o : Option (Interval F)) (v : ℕ) → span_value value o ≡ span limit (value row.right) (right_gains limit d row.sense v) → map (span_value value) (made ++ o ∷ []) ++ right_spans limit d value (v + rows_of_sense row.sense) (drop (i + 1) rows) ≡ map (span_value value) made ++ right_spans limit d value v (drop i rows)
  spans_go made o v o_is =
      ap (λ l. l ++ right_spans limit d value (v + rows_of_sense row.sense) (drop (i + 1) rows)) (map-append (span_value value) made (o ∷ []) ∙ ap (λ s. map (span_value value) made ++ s ∷ []) o_is)
      ∙ append_assoc (map (span_value value) made) (span limit (value row.right) (right_gains limit d row.sense v) ∷ []) (right_spans limit d value (v + rows_of_sense row.sense) (drop (i + 1) rows))
      ∙ sym (ap (λ xs. map (span_value value) made ++ right_spans limit d value v xs) (drop_item rows i row here is))

pub spans_end : {F : Type 0} (value : F → Number) (limit : ℕ) (d : Dictionary) (rows : List (Row F)) (i v : ℕ) (made : List (Option (Interval F))) → length rows ≤ i → map (span_value value) made ≡ map (span_value value) made ++ right_spans limit d value v (drop i rows)
spans_end value limit d rows i v made end = sym (append-nil (map (span_value value) made)) ∙ sym (ap (λ xs. map (span_value value) made ++ right_spans limit d value v xs) (drop_all i rows end))

-- the first slack, and that the others stay within the variables
module _ {F : Type 0} (value : F → Number) (lp : Lp F) (formed : IsWellFormed value lp) (d : Dictionary) (is : IsDictionaryOf (form.standard_form value lp) d) where
  pub first_slack : (n m : ℕ) → n ≡ d.variables → m ≡ length d.basic → n - m + 1 ≡ form.variables_of value lp + 1
  first_slack n m variables rows = omega (arith, variables, rows, is.variables, is.sized, count_is value lp formed)

  pub slack_bound : form.variables_of value lp + 1 + count_of_rows lp.rows ≤ d.variables + 1
  slack_bound =
      let first = rows_over value (form.columns_of value lp) 0 lp.rows in
      let following = bounds_over value (form.columns_of value lp) 0 lp.columns in
      omega (arith, is.variables, count_is value lp formed, length-append first following, rows_over_counted value (form.columns_of value lp) 0 lp.rows)

module _ {F : Type 0} (value : F → Number) (limit : ℕ) (d : Dictionary) (lp : Lp F) (shifts : List (Shift F)) (j : ℕ) (shift : Shift F) (here : j < length shifts) (is : shift ≡ get_or shifts j shift) where
  pub widths_left : sum_by (λ (s : Shift F). width (shift_value value s)) (drop j shifts) ≡ width (shift_value value shift) + sum_by (λ (s : Shift F). width (shift_value value s)) (drop (j + 1) shifts)
  widths_left = ap (sum_by (λ (s : Shift F). width (shift_value value s))) (drop_item shifts j shift here is) ∙ sum_by-cons (λ (s : Shift F). width (shift_value value s)) shift (drop (j + 1) shifts)

  pub costs_go : (made : List (Option (Interval F))) (o : Option (Interval F)) (v : ℕ) → span_value value o ≡ span limit (objective_costs lp j) (cost_gains limit d lp.maximize (v, shift_value value shift)) → map (span_value value) (made ++ o ∷ []) ++ cost_spans limit d lp (j + 1) (numbered (v + width (shift_value value shift)) (map (shift_value value) (drop (j + 1) shifts))) ≡ map (span_value value) made ++ cost_spans limit d lp j (numbered v (map (shift_value value) (drop j shifts)))
  costs_go made o v o_is =
      let rest = cost_spans limit d lp (j + 1) (numbered (v + width (shift_value value shift)) (map (shift_value value) (drop (j + 1) shifts))) in
      ap (λ l. l ++ rest) (map-append (span_value value) made (o ∷ []) ∙ ap (λ s. map (span_value value) made ++ s ∷ []) o_is)
      ∙ append_assoc (map (span_value value) made) (span limit (objective_costs lp j) (cost_gains limit d lp.maximize (v, shift_value value shift)) ∷ []) rest
      ∙ sym (ap (λ xs. map (span_value value) made ++ cost_spans limit d lp j (numbered v (map (shift_value value) xs))) (drop_item shifts j shift here is))

pub costs_end : {F : Type 0} (value : F → Number) (limit : ℕ) (d : Dictionary) (lp : Lp F) (shifts : List (Shift F)) (j v : ℕ) (made : List (Option (Interval F))) → length shifts ≤ j → map (span_value value) made ≡ map (span_value value) made ++ cost_spans limit d lp j (numbered v (map (shift_value value) (drop j shifts)))
costs_end value limit d lp shifts j v made end =
    sym (append-nil (map (span_value value) made)) ∙ sym (ap (λ xs. map (span_value value) made ++ cost_spans limit d lp j (numbered v (map (shift_value value) xs))) (drop_all j shifts end))

-- ---- pivots

pub fit_or_stop : (steps : List ExpectedStep) (name : StepName) → AllFit steps → FirstStop steps name → ⊥
fit_or_stop steps name fit stop =
    let rest = All-append_right (λ (step : ExpectedStep). step.1 ≡ true) stop.before ((name, false) ∷ stop.following) (subst AllFit stop.split fit) in
    absurd (let clash : false ≡ true = All-head (λ (step : ExpectedStep). step.1 ≡ true) (name, false) stop.following rest in cc)

pub leaves_row : (d : Dictionary) (p : Pivot) (k : ℕ) → IsLegal d p k → slice_get d.basic k ≡ Some p.leave
leaves_row d p k legal = elim legal [ inl opening ↦ opening.leaves | inr step ↦ step.leaves ]

-- a rule does not look at the pivots so far
forget_done : (limit n : ℕ) (done other : List Pivot) (d : Dictionary) (pivots : List Pivot) (last : Dictionary) → LeadsWithin (ByRule Legal) limit n done d pivots last → LeadsWithin (ByRule Legal) limit n other d pivots last
forget_done limit n done other d [] last leads = (leads.0, tt)
forget_done limit n done other d (p ∷ pivots) last leads =
    let rest = forget_done limit (n + 1) (done ++ p ∷ []) (other ++ p ∷ []) (exchanged d p.enter leads.0.0) pivots last (leads.0.2, leads.1.2) in
    ((leads.0.0, leads.0.1, rest.0), (leads.1.0, leads.1.1, rest.1))

module _ (limit n : ℕ) (d : Dictionary) (pivots : List Pivot) (i : ℕ) (p : Pivot) (here : i < length pivots) (is : p ≡ get_or pivots i p) (last : Dictionary) (leads : LeadsWithin (ByRule Legal) limit n [] d (drop i pivots) last) where
  leads_here : LeadsWithin (ByRule Legal) limit n [] d (p ∷ drop (i + 1) pivots) last
  leads_here = subst (λ (ps : List Pivot). LeadsWithin (ByRule Legal) limit n [] d ps last) (drop_item pivots i p here is) leads

  pub pivot_is_required : (upcoming : ℕ) → n ≡ upcoming → (k : ℕ) × IsLegal d p k × AllFit (exchange_steps limit upcoming d p.enter k)
  pivot_is_required upcoming same = (leads_here.0.0, leads_here.0.1, subst (λ u. AllFit (exchange_steps limit u d p.enter leads_here.0.0)) same leads_here.1.1)

  pub leads_on : (after : Dictionary) → ((k : ℕ) → slice_get d.basic k ≡ Some p.leave → after ≡ exchanged d p.enter k) → LeadsWithin (ByRule Legal) limit (n + 1) [] after (drop (i + 1) pivots) last
  leads_on after is_exchanged =
      let row = leads_here.0.0 in
      subst (λ (e : Dictionary). LeadsWithin (ByRule Legal) limit (n + 1) [] e (drop (i + 1) pivots) last) (sym (is_exchanged row (leaves_row d p row leads_here.0.1)))
      (forget_done limit (n + 1) (p ∷ []) [] (exchanged d p.enter row) (drop (i + 1) pivots) last (leads_here.0.2, leads_here.1.2))

pub leads_end : (limit n : ℕ) (d : Dictionary) (pivots : List Pivot) (i : ℕ) (last : Dictionary) → length pivots ≤ i → LeadsWithin (ByRule Legal) limit n [] d (drop i pivots) last → d ≡ last
leads_end limit n d pivots i last end leads = sym (subst (λ (ps : List Pivot). LeadsWithin (ByRule Legal) limit n [] d ps last) (drop_all i pivots end) leads).0
