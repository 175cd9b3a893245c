-- Rows that are exchanged are those of the dictionary after the exchange, and the steps on them are
-- its steps.
use Rattle.std.proofs.Common.{◌≡◌, ◌≢◌, ℕ, zero, suc, ◌+◌, ◌<◌, ◌≤◌, ◌==◌, ◌&&◌, ◌⊎◌, inl, inr, true, pos, cond, List, [], ◌∷◌, length, map, Some, refl, sym, ap, ap₂, ◌∙◌, subst, subst₂, arith}
use Rattle.std.specs.Prelude.{slice_get, slice_set, slice_index_or, not, ◌↔◌, ◌^◌}
use Rattle.std.proofs.lemmas.Bool.{cases_eq, cases_lt}
use Rattle.std.proofs.lemmas.List.{length-map}
use mathlib.Core.Path.{fun_ext}
use Rattle.gq_number.specs.Number.{Number, whole, ◌-ℚ◌, ◌*ℚ◌}
use Rattle.lp_core.specs.declared.answer.Pivot.{Pivot}
use Rattle.lp_core.specs.declared.answer.StepName.TheVariants.{Exchange}
use Rattle.lp_core.specs.Steps.{AllFit, FirstStop, exchange_steps}
use Rattle.lp_core.specs.Sums.{value_of_column}
use Rattle.lp_core.specs.Dictionary.{Dictionary, Meets, OpeningIsRequired, basic_at, entry_at, IsLegal, divided_entry, exchanged_numbers, exchanged}
use Rattle.lp_fraction_dict.specs.declared.row.Entry.{Entry}
use Rattle.lp_core.specs.StandardForm.{Standard}
use Rattle.lp_std.specs.declared.stop.Stop.{Stop}
use Rattle.lp_std.specs.Last.{IsDictionaryOf}
use Rattle.lp_fraction_dict.specs.declared.fault.LineFault.{LineFault}
use Rattle.lp_fraction_dict.specs.declared.fault.LineFault.TheVariants as line_fault_of
use Rattle.lp_fraction_dict.specs.declared.fault.Part.{Part}
use Rattle.lp_fraction_dict.specs.declared.fault.Part.TheVariants as part
use Rattle.lp_fraction_dict.specs.Rows.{IsRow, number_in, StepsFit, Misfits}
use Rattle.lp_fraction_dict.specs.Lines.{InLine, stop_of, line, part_number, IsTurned, IsFirstTurn, without, kept_after}
use Rattle.lp_fraction_dict.specs.Tableau.{FractionTableau, fraction_dictionary, IsTableau}
use Rattle.lp_fraction_dict.specs.Pivots.{IsProper, StopsAtStep}
use Rattle.lp_fraction_dict.proofs.Rows.{number_later}
use Rattle.lp_fraction_dict.proofs.Kept.{get_within, index_default, index_past}
use Rattle.lp_fraction_dict.proofs.Equations.{eq_same, eq_other, meets_after, meets_before}
use Rattle.lp_fraction_dict.proofs.Steps.{exchange_fits, exchange_stops_first, exchange_stops}
use Rattle.lp_fraction_dict.proofs.OfForm.{of_form_after}
use Rattle.lp_fraction_dict.proofs.Proper.{leaves_at, leaves_is, place_within, pivot_some, enters_there, proper_after, none_required}

-- ---- the numbers of an exchange, and its steps

pub at_pivot : (d : Dictionary) (q k c : ℕ) → exchanged_numbers d q k k c ≡ divided_entry d q k c
at_pivot d q k c = ap (λ b. cond b (divided_entry d q k c) (d.numbers k c -ℚ entry_at d k q *ℚ divided_entry d q k c)) (eq_same k)

pub at_other : (d : Dictionary) (q k i c : ℕ) → i ≢ k → exchanged_numbers d q k i c ≡ d.numbers i c -ℚ entry_at d i q *ℚ divided_entry d q k c
at_other d q k i c other = ap (λ b. cond b (divided_entry d q k c) (d.numbers i c -ℚ entry_at d i q *ℚ divided_entry d q k c)) (eq_other i k other)

module _ {F : Type 0} (value : F → Number) (limit n : ℕ) (t : FractionTableau F) (q k : ℕ) where
  abbrev before : ℕ → List (Entry F)
  before = line t.rows t.objective

  module _ (after : ℕ → List (Entry F)) (turned : IsTurned value limit (t.variables + 2) before k (q + 1) after) where
    pub numbers_turned : (i c : ℕ) → number_in value (after i) c ≡ exchanged_numbers (fraction_dictionary value t) q k i c
    numbers_turned i c =
        elim (cases_eq i k) [
          | inl same ↦ subst (λ j. number_in value (after j) c ≡ exchanged_numbers (fraction_dictionary value t) q k j c) (sym same) (turned.divided.numbers c ∙ sym (at_pivot (fraction_dictionary value t) q k c))
          | inr other ↦
              (turned.others i other).numbers c ∙ ap (λ y. number_in value (before i) c -ℚ number_in value (before i) (q + 1) *ℚ y) (turned.divided.numbers c)
              ∙ sym (at_other (fraction_dictionary value t) q k i c other)
        ]

    pub turned_fits : AllFit (exchange_steps limit n (fraction_dictionary value t) q k)
    turned_fits =
        exchange_fits limit n (fraction_dictionary value t) q k (λ c. turned.divided.fit c) (λ i other c.
        subst (λ y. StepsFit limit (number_in value (before i) c) (number_in value (before i) (q + 1)) y) (turned.divided.numbers c) ((turned.others i other).fit c))

  part_is_first : (p : Part) → p ≡ part.Product → part_number p ≡ 0
  part_is_first p is = ap part_number is

  pub turned_stops : (i at : ℕ) (p : Part) → i < length t.basic + 1 → at < t.variables + 2 → IsFirstTurn value limit (t.variables + 2) before k (q + 1) i at p → FirstStop (exchange_steps limit n (fraction_dictionary value t) q k) (Exchange n (i + 1) at (part_number p))
  turned_stops i at p there within stops =
      elim stops [
        | inl first ↦
            let same = first.0 in
            let u = first.1 in
            subst₂ (λ j m. FirstStop (exchange_steps limit n (fraction_dictionary value t) q k) (Exchange n (j + 1) at m)) (sym same) (sym (part_is_first p u.is_product))
            (exchange_stops_first limit n (fraction_dictionary value t) q k at within u.before u.here)
        | inr s ↦
            exchange_stops limit n (fraction_dictionary value t) q k i at p there s.other within (λ c. s.divided.fit c)
            (λ j less other c. subst (λ y. StepsFit limit (number_in value (before j) c) (number_in value (before j) (q + 1)) y) (s.divided.numbers c) (s.fit j less other c))
            (λ c less. subst (λ y. StepsFit limit (number_in value (before i) c) (number_in value (before i) (q + 1)) y) (s.divided.numbers c) (s.here.before c less))
            (subst (λ y. Misfits limit (number_in value (before i) at) (number_in value (before i) (q + 1)) y p) (s.divided.numbers at) s.here.here)
      ]

-- ---- a row without a column

module _ {F : Type 0} (value : F → Number) where
  row_lower : (row : List (Entry F)) (low more high : ℕ) → IsRow value more high row → low ≤ more → IsRow value low high row
  row_lower [] low more high h less = tt
  row_lower (e ∷ es) low more high h less =
      let least = h.0 in
      (omega arith, h.1, h.2, h.3)

  without_cases : (m : ℕ) (e : Entry F) (es : List (Entry F)) → ((e.column ≡ m) × (without m (e ∷ es) ≡ without m es)) ⊎ ((e.column ≢ m) × (without m (e ∷ es) ≡ e ∷ without m es))
  without_cases m e es =
      elim (cases_eq e.column m) [
        | inl same ↦ inl (same, ap (λ b. cond (not b) (e ∷ without m es) (without m es)) (subst (λ x. (x == m) ≡ true) (sym same) (eq_same m)))
        | inr other ↦ inr (other, ap (λ b. cond (not b) (e ∷ without m es) (without m es)) (eq_other e.column m other))
      ]

  number_without_here : (row : List (Entry F)) (m : ℕ) → number_in value (without m row) m ≡ whole (pos 0)
  number_without_here [] m = refl
  number_without_here (e ∷ es) m =
      elim (without_cases m e es) [
        | inl gone ↦ ap (λ r. number_in value r m) gone.1 ∙ number_without_here es m
        | inr kept ↦ ap (λ r. number_in value r m) kept.1 ∙ number_later value e (without m es) m kept.0 ∙ number_without_here es m
      ]

  number_without : (row : List (Entry F)) (m c : ℕ) → c ≢ m → number_in value (without m row) c ≡ number_in value row c
  number_without [] m c other = refl
  number_without (e ∷ es) m c other =
      elim (without_cases m e es) [
        | inl gone ↦ ap (λ r. number_in value r c) gone.1 ∙ number_without es m c other ∙ sym (number_later value e es c (λ is. other (sym is ∙ gone.0)))
        | inr kept ↦ ap (λ r. number_in value r c) kept.1 ∙ ap (λ x. cond (e.column == c) (value e.number) x) (number_without es m c other)
      ]

  row_without : (row : List (Entry F)) (low high m : ℕ) → IsRow value low high row → IsRow value low high (without m row)
  row_without [] low high m h = tt
  row_without (e ∷ es) low high m h =
      let rest = row_without es (e.column + 1) high m h.3 in
      let least = h.0 in
      elim (without_cases m e es) [
        | inl gone ↦ subst (IsRow value low high) (sym gone.1) (row_lower (without m es) low (e.column + 1) high rest (omega arith))
        | inr kept ↦ subst (IsRow value low high) (sym kept.1) (h.0, h.1, h.2, rest)
      ]

  pub number_kept : (leave : ℕ) (row : List (Entry F)) (c : ℕ) → number_in value (kept_after leave row) c ≡ cond (leave == 0 && c == 1) (whole (pos 0)) (number_in value row c)
  number_kept leave row c =
      elim (cases_eq leave 0) [
        | inl gone ↦
            ap (λ b. number_in value (cond b (without 1 row) row) c) (leaves gone)
            ∙ elim (cases_eq c 1) [
              | inl one ↦ subst (λ x. number_in value (without 1 row) x ≡ whole (pos 0)) (sym one) (number_without_here row 1) ∙ sym (ap₂ (λ b f. cond (b && f) (whole (pos 0)) (number_in value row c)) (leaves gone) (subst (λ x. (x == 1) ≡ true) (sym one) (eq_same 1)))
              | inr other ↦ number_without row 1 c other ∙ sym (ap₂ (λ b f. cond (b && f) (whole (pos 0)) (number_in value row c)) (leaves gone) (eq_other c 1 other))
            ]
        | inr stays ↦ ap (λ b. number_in value (cond b (without 1 row) row) c) (eq_other leave 0 stays) ∙ sym (ap (λ b. cond (b && c == 1) (whole (pos 0)) (number_in value row c)) (eq_other leave 0 stays))
      ]
    where
      leaves : leave ≡ 0 → (leave == 0) ≡ true
      leaves gone = subst (λ x. (x == 0) ≡ true) (sym gone) (eq_same 0)

  pub row_kept : (leave : ℕ) (row : List (Entry F)) (low high : ℕ) → IsRow value low high row → IsRow value low high (kept_after leave row)
  row_kept leave row low high h =
      elim (cases_eq leave 0) [
        | inl gone ↦ subst (λ b. IsRow value low high (cond b (without 1 row) row)) (sym (subst (λ x. (x == 0) ≡ true) (sym gone) (eq_same 0))) (row_without row low high 1 h)
        | inr stays ↦ subst (λ b. IsRow value low high (cond b (without 1 row) row)) (sym (eq_other leave 0 stays)) h
      ]

line_map : {X : Type 0} (f : X → X) (xs : List X) (o : X) (i : ℕ) → slice_index_or (map f xs) i (f o) ≡ f (slice_index_or xs i o)
line_map f [] o i = refl
line_map f (x ∷ xs) o zero = refl
line_map f (x ∷ xs) o (suc i) = line_map f xs o i

-- ---- the dictionary after a pivot

-- What the code makes of a dictionary by a pivot: the rows are exchanged, and all but a dropped
-- variable 0 is kept.
pub record Pivoted {F : Type 0} (value : F → Number) (limit : ℕ) (t : FractionTableau F) (p : Pivot) (k : ℕ) (after : FractionTableau F) : Type 0 where
  pub rows : List (List (Entry F))
  pub objective : List (Entry F)
  pub sized : length rows ≡ length t.rows
  pub turned : IsTurned value limit (t.variables + 2) (line t.rows t.objective) k (p.enter + 1) (line rows objective)
  pub variables : after.variables ≡ t.variables
  pub basic : after.basic ≡ slice_set t.basic k p.enter
  pub rows_kept : after.rows ≡ map (kept_after p.leave) rows
  pub objective_kept : after.objective ≡ kept_after p.leave objective

module _ {F : Type 0} (value : F → Number) (limit : ℕ) (t : FractionTableau F) (p : Pivot) (k : ℕ) (after : FractionTableau F) (inv : IsTableau value t) (legal : IsLegal (fraction_dictionary value t) p k) (made : Pivoted value limit t p k after) where
  abbrev d : Dictionary
  d = fraction_dictionary value t

  line_after : (i : ℕ) → line after.rows after.objective i ≡ kept_after p.leave (line made.rows made.objective i)
  line_after i = ap₂ (λ rs o. slice_index_or rs i o) made.rows_kept made.objective_kept ∙ line_map (kept_after p.leave) made.rows made.objective i

  numbers_after : (i c : ℕ) → number_in value (line after.rows after.objective i) c ≡ (exchanged (fraction_dictionary value t) p.enter k).numbers i c
  numbers_after i c =
      ap (λ r. number_in value r c) (line_after i) ∙ number_kept value p.leave (line made.rows made.objective i) c
      ∙ ap₂ (λ l x. cond (l == 0 && c == 1) (whole (pos 0)) x) (sym (leaves_is (fraction_dictionary value t) p k inv.proper legal)) (numbers_turned value limit 0 t p.enter k (line made.rows made.objective) made.turned i c)

  abbrev made_of : ℕ → List ℕ → (ℕ → ℕ → Number) → Dictionary
  made_of variables basic numbers = record { variables = variables; basic = basic; numbers = numbers }

  pub pivoted_is : fraction_dictionary value after ≡ exchanged (fraction_dictionary value t) p.enter k
  pivoted_is =
      ap (λ v. made_of v after.basic (λ i c. number_in value (line after.rows after.objective i) c)) made.variables
      ∙ ap (λ b. made_of t.variables b (λ i c. number_in value (line after.rows after.objective i) c)) made.basic
      ∙ ap (λ f. made_of t.variables (slice_set t.basic k p.enter) f) (fun_ext (λ i. fun_ext (λ c. numbers_after i c)))

  row_is : (i : ℕ) → IsRow value 0 (t.variables + 2) (line made.rows made.objective i)
  row_is i =
      elim (cases_eq i k) [
        | inl same ↦ subst (λ j. IsRow value 0 (t.variables + 2) (line made.rows made.objective j)) (sym same) made.turned.divided.is_row
        | inr other ↦ (made.turned.others i other).is_row
      ]

  rows_after : (i : ℕ) → IsRow value 0 (t.variables + 2) (line after.rows after.objective i)
  rows_after i = subst (IsRow value 0 (t.variables + 2)) (sym (line_after i)) (row_kept value p.leave (line made.rows made.objective i) 0 (t.variables + 2) (row_is i))

  set_length : {X : Type 0} (xs : List X) (i : ℕ) (x : X) → length (slice_set xs i x) ≡ length xs
  set_length [] i x = refl
  set_length (y ∷ xs) zero x = refl
  set_length (y ∷ xs) (suc i) x = ap suc (set_length xs i x)

  sizes : length after.rows ≡ length t.rows
  sizes = ap length made.rows_kept ∙ length-map made.rows (kept_after p.leave) ∙ made.sized

  basic_size : length after.basic ≡ length t.basic
  basic_size = ap length made.basic ∙ set_length t.basic k p.enter

  row_or_none : (i : ℕ) → IsRow value 0 (t.variables + 2) (slice_index_or after.rows i [])
  row_or_none i =
      elim (cases_lt i (length after.rows)) [
        | inl less ↦ subst (IsRow value 0 (t.variables + 2)) (index_default after.rows i after.objective [] less) (rows_after i)
        | inr more ↦ subst (IsRow value 0 (t.variables + 2)) (sym (index_past after.rows i [] more)) tt
      ]

  pub pivoted_tableau : IsTableau value after
  pivoted_tableau =
      let variables = made.variables in
      let sized = inv.sized in
      let few = inv.few in
      let basic = basic_size in
      record {
        sized = subst (λ v. v + 2 < 2 ^ 32) (sym made.variables) inv.sized;
        few = omega arith;
        paired = sizes ∙ inv.paired ∙ sym basic_size;
        rows = λ i. subst (λ v. IsRow value 0 (v + 2) (slice_index_or after.rows i [])) (sym made.variables) (row_or_none i);
        objective = subst (λ v. IsRow value 0 (v + 2) after.objective) (sym made.variables) (subst (IsRow value 0 (t.variables + 2)) (index_past after.rows (length after.rows) after.objective (omega arith)) (rows_after (length after.rows)));
        proper = subst IsProper (sym pivoted_is) (proper_after (fraction_dictionary value t) p k inv.proper legal);
      }

  pub pivoted_not_required : ¬ (OpeningIsRequired (fraction_dictionary value after))
  pivoted_not_required required = none_required (fraction_dictionary value t) p k inv.proper legal (subst OpeningIsRequired pivoted_is required)

  pub pivoted_same : (x : List Number) (objective : Number) → (p.leave ≡ 0 → value_of_column x 0 ≡ whole (pos 0)) → Meets (fraction_dictionary value t) x objective ↔ Meets (fraction_dictionary value after) x objective
  pivoted_same x objective gone =
      let within = place_within (fraction_dictionary value t) p k inv.proper legal in
      let some = pivot_some (fraction_dictionary value t) p k inv.proper legal in
      let at_zero : basic_at (fraction_dictionary value t) k ≡ 0 → value_of_column x 0 ≡ whole (pos 0) = λ is. gone (sym (leaves_is (fraction_dictionary value t) p k inv.proper legal) ∙ is) in (
        λ m. subst (λ e. Meets e x objective) (sym pivoted_is) (meets_after (fraction_dictionary value t) p.enter k x objective within some at_zero m),
        λ m. meets_before (fraction_dictionary value t) p.enter k x objective within some at_zero (subst (λ e. Meets e x objective) pivoted_is m),
      )

-- ---- the pivot as the code makes it

module _ {F : Type 0} (value : F → Number) (limit : ℕ) (t : FractionTableau F) (p : Pivot) (inv : IsTableau value t) (allowed : (k : ℕ) × IsLegal (fraction_dictionary value t) p k) (place : ℕ) (at : slice_get t.basic place ≡ Some p.leave) where
  same_place : (k : ℕ) → slice_get t.basic k ≡ Some p.leave → place ≡ k
  same_place k there = inv.proper.distinct place k p.leave at there

  legal_here : IsLegal (fraction_dictionary value t) p place
  legal_here = subst (IsLegal (fraction_dictionary value t) p) (sym (same_place allowed.0 (leaves_at (fraction_dictionary value t) p allowed.0 inv.proper allowed.1))) allowed.1

  pub place_in_rows : place < length t.rows
  place_in_rows = let within = get_within t.basic place p.leave at in let paired = inv.paired in omega arith

  pub place_in_basic : place < length t.basic
  place_in_basic = get_within t.basic place p.leave at

  pub number_some : number_in value (slice_index_or t.rows place []) (p.enter + 1) ≢ whole (pos 0)
  number_some none = pivot_some (fraction_dictionary value t) p place inv.proper legal_here (ap (λ r. number_in value r (p.enter + 1)) (sym (index_default t.rows place [] t.objective place_in_rows)) ∙ none)

  pub enters_within : p.enter ≤ t.variables
  enters_within = enters_there (fraction_dictionary value t) p place inv.proper legal_here

  abbrev pub IsFault : ℕ → ℕ → Part → Type 0
  IsFault i column q = (i ≤ length t.rows) × (column < t.variables + 2) × IsFirstTurn value limit (t.variables + 2) (line t.rows t.objective) place (p.enter + 1) i column q

  pub fault_bound : (f : LineFault) → InLine IsFault f → InLine (λ i column q. i + 1 < 2 ^ 32) f
  fault_bound (line_fault_of.Limit i column q) h =
      let few = inv.few in
      let sized = inv.sized in
      let paired = inv.paired in
      let within = h.0 in
      omega arith
  fault_bound line_fault_of.Memory h = tt

  pub fault_stops : (n : ℕ) (f : LineFault) (stop : Stop) → InLine IsFault f → stop ≡ stop_of n f → (k : ℕ) → slice_get t.basic k ≡ Some p.leave → StopsAtStep (exchange_steps limit n (fraction_dictionary value t) p.enter k) stop
  fault_stops n (line_fault_of.Limit i column q) stop h is k there =
      let paired = inv.paired in
      let within = h.0 in
      subst (StopsAtStep (exchange_steps limit n (fraction_dictionary value t) p.enter k)) (sym is)
      (subst (λ j. FirstStop (exchange_steps limit n (fraction_dictionary value t) p.enter j) (Exchange n (i + 1) column (part_number q))) (same_place k there)
      (turned_stops value limit n t p.enter place i column q (omega arith) h.1 h.2))
  fault_stops n line_fault_of.Memory stop h is k there = subst (StopsAtStep (exchange_steps limit n (fraction_dictionary value t) p.enter k)) (sym is) tt

  module _ (rows : List (List (Entry F))) (objective : List (Entry F)) (turned : (length rows ≡ length t.rows) × IsTurned value limit (t.variables + 2) (line t.rows t.objective) place (p.enter + 1) (line rows objective)) (after : FractionTableau F) (variables : after.variables ≡ t.variables) (basic : after.basic ≡ slice_set t.basic place p.enter) (rows_kept : after.rows ≡ map (kept_after p.leave) rows) (objective_kept : after.objective ≡ kept_after p.leave objective) where
    made : Pivoted value limit t p place after
    made =
        record {
          rows = rows;
          objective = objective;
          sized = turned.0;
          turned = turned.1;
          variables = variables;
          basic = basic;
          rows_kept = rows_kept;
          objective_kept = objective_kept;
        }

    pub kept_tableau : IsTableau value after
    kept_tableau = pivoted_tableau value limit t p place after inv legal_here made

    pub is_exchanged : (k : ℕ) → slice_get t.basic k ≡ Some p.leave → fraction_dictionary value after ≡ exchanged (fraction_dictionary value t) p.enter k
    is_exchanged k there = pivoted_is value limit t p place after inv legal_here made ∙ ap (exchanged (fraction_dictionary value t) p.enter) (same_place k there)

    pub all_fit : (n k : ℕ) → slice_get t.basic k ≡ Some p.leave → AllFit (exchange_steps limit n (fraction_dictionary value t) p.enter k)
    all_fit n k there = subst (λ j. AllFit (exchange_steps limit n (fraction_dictionary value t) p.enter j)) (same_place k there) (turned_fits value limit n t p.enter place (line rows objective) turned.1)

    pub same_points : (x : List Number) (goal : Number) → (p.leave ≡ 0 → value_of_column x 0 ≡ whole (pos 0)) → Meets (fraction_dictionary value t) x goal ↔ Meets (fraction_dictionary value after) x goal
    same_points x goal gone = pivoted_same value limit t p place after inv legal_here made x goal gone

    pub stays_of_form : (s : Standard) → IsDictionaryOf s (fraction_dictionary value t) → IsDictionaryOf s (fraction_dictionary value after)
    stays_of_form s h =
        subst (IsDictionaryOf s) (sym (pivoted_is value limit t p place after inv legal_here made))
        (of_form_after s (fraction_dictionary value t) p place inv.proper legal_here (λ x goal gone. subst (λ e. Meets (fraction_dictionary value t) x goal ↔ Meets e x goal) (pivoted_is value limit t p place after inv legal_here made) (same_points x goal gone)) h)

    pub is_not_required : ¬ (OpeningIsRequired (fraction_dictionary value after))
    is_not_required = pivoted_not_required value limit t p place after inv legal_here made
