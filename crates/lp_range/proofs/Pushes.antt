-- The standard form of a program of which one right side is moved.
use Rattle.std.proofs.Common.{◌≡◌, ℕ, zero, suc, ◌+◌, ◌<◌, ◌≤◌, pos, List, [], ◌∷◌, ◌++◌, length, map, Some, refl, sym, ap, ap₂, ◌∙◌, subst, arith}
use Rattle.std.specs.Prelude.{slice_get, slice_index_or}
use Rattle.std.specs.List.{range_with_len}
use Rattle.std.proofs.lemmas.List.{length-append}
use Rattle.gq_number.specs.Number.{Number, whole, ◌+ℚ◌, ◌-ℚ◌, ◌*ℚ◌, neg_ℚ}
use Rattle.std.proofs.lemmas.List.Sums.{sum_by-cons}
use Rattle.gq_number.specs.Sums.{sum_by_ℚ}
use Rattle.gq_number.proofs.Ring.{ring_ℚ, *ℚ-zero}
use Rattle.gq_number.proofs.Field.{*ℚ_comm}
use Rattle.gq_number.proofs.Sums.{sum_by_ℚ-+ℚ, sum_by_ℚ-zero}
use Rattle.lp_core.specs.declared.program.Sense.{Sense}
use Rattle.lp_core.specs.declared.program.Sense.TheVariants as sense
use Rattle.lp_core.specs.declared.program.Row.{Row}
use Rattle.lp_core.specs.declared.program.Lp.{Lp}
use Rattle.lp_core.specs.StandardForm as form
use Rattle.lp_core.specs.StandardForm.{StandardRow, rows_of_sense}
use Rattle.lp_core.specs.Dictionary.{Dictionary, entry_at, no_row}
use Rattle.lp_core.specs.Steps.{count_of_rows}
use Rattle.lp_core.specs.WellFormed.{IsWellFormed}
use Rattle.lp_core.proofs.RowSums.{sum_by_same}
use Rattle.lp_std.specs.InnerSteps.{shifted_over, rows_over, bounds_over}
use Rattle.lp_std.proofs.RowSteps.{counted_by_sense}
use Rattle.lp_std.proofs.Sums.{unit_at, unit_here, unit_there, range_unit}
use Rattle.lp_std.proofs.Proved.{rows_over_counted}
use Rattle.lp_std.proofs.Ends.{count_is}
use Rattle.lp_range.specs.Moved.{itself, rows_with_right, with_right}
use Rattle.lp_range.specs.Ranges.{right_gain}
use Rattle.lp_range.proofs.Moves.{IsMovedForm, gained}

-- the move of each variable's value when the right side of a row of this sense, whose first slack
-- is v, moves by t
abbrev pub push_of : Sense → ℕ → Number → ℕ → Number
push_of sense.E v t w = unit_at v t w +ℚ unit_at (v + 1) (neg_ℚ t) w
push_of sense.L v t w = unit_at v t w
push_of sense.G v t w = unit_at v (neg_ℚ t) w
push_of sense.N v t w = whole (pos 0)

-- the first slack of the row at a place, where that of the first row is v
abbrev pub slack_at : {F : Type 0} → ℕ → ℕ → List (Row F) → ℕ
slack_at v i [] = v
slack_at v zero (row ∷ rows) = v
slack_at v (suc i) (row ∷ rows) = slack_at (v + rows_of_sense row.sense) i rows

two_zeros : whole (pos 0) +ℚ whole (pos 0) ≡ whole (pos 0)
two_zeros = simp ring_ℚ

pub push_before : (s : Sense) (v : ℕ) (t : Number) (w : ℕ) → w < v → push_of s v t w ≡ whole (pos 0)
push_before sense.E v t w less = ap₂ (λ a b. a +ℚ b) (unit_there v w t (omega arith)) (unit_there (v + 1) w (neg_ℚ t) (omega arith)) ∙ two_zeros
push_before sense.L v t w less = unit_there v w t (omega arith)
push_before sense.G v t w less = unit_there v w (neg_ℚ t) (omega arith)
push_before sense.N v t w less = refl

push_past : (s : Sense) (v : ℕ) (t : Number) (w : ℕ) → v + rows_of_sense s ≤ w → push_of s v t w ≡ whole (pos 0)
push_past sense.E v t w more =
    let far : v + 2 ≤ w = more in
    ap₂ (λ a b. a +ℚ b) (unit_there v w t (omega arith)) (unit_there (v + 1) w (neg_ℚ t) (omega arith)) ∙ two_zeros
push_past sense.L v t w more = let far : v + 1 ≤ w = more in unit_there v w t (omega arith)
push_past sense.G v t w more = let far : v + 1 ≤ w = more in unit_there v w (neg_ℚ t) (omega arith)
push_past sense.N v t w more = refl

slack_low : {F : Type 0} (v i : ℕ) (rows : List (Row F)) → v ≤ slack_at v i rows
slack_low v i [] = omega arith
slack_low v zero (row ∷ rows) = omega arith
slack_low v (suc i) (row ∷ rows) = omega (arith, slack_low (v + rows_of_sense row.sense) i rows)

counted : {F : Type 0} (row : Row F) (rows : List (Row F)) → count_of_rows (row ∷ rows) ≡ rows_of_sense row.sense + count_of_rows rows
counted {F} row rows = sum_by-cons (λ (r : Row F). rows_of_sense r.sense) row rows

pub slack_high : {F : Type 0} (v i : ℕ) (rows : List (Row F)) (row : Row F) → slice_get rows i ≡ Some row → slack_at v i rows + rows_of_sense row.sense ≤ v + count_of_rows rows
slack_high v i [] row at = absurd (cc)
slack_high {F} v zero (x ∷ rows) row at =
    let same : x ≡ row = cc in
    let first : rows_of_sense x.sense ≡ rows_of_sense row.sense = ap (λ (r : Row F). rows_of_sense r.sense) same in
    omega (arith, first, counted x rows)
slack_high v (suc i) (x ∷ rows) row at =
    let rest = slack_high (v + rows_of_sense x.sense) i rows row at in
    omega (arith, rest, counted x rows)

-- ---- rows of the standard form, one by one

-- a row with its right side moved by what the push has at a number
abbrev MovedRow : (ℕ → Number) → ℕ → StandardRow → StandardRow → Type 0
MovedRow push w old new = (new.entries ≡ old.entries) × (new.right ≡ old.right +ℚ push w)

-- rows, of which the first has the slack v
abbrev AreMoved : (ℕ → Number) → ℕ → List StandardRow → List StandardRow → Type 0
AreMoved push v [] [] = Unit {0}
AreMoved push v (old ∷ olds) (new ∷ news) = MovedRow push v old new × AreMoved push (v + 1) olds news
AreMoved push v olds news = ⊥

module _ (push : ℕ → Number) where
  unmoved : (v : ℕ) (rows : List StandardRow) → ((w : ℕ) → v ≤ w → w < v + length rows → push w ≡ whole (pos 0)) → AreMoved push v rows rows
  unmoved v [] none = tt
  unmoved v (row ∷ rows) none = ((refl, nothing row.right ∙ ap (λ u. row.right +ℚ u) (sym (none v (omega arith) (omega arith)))), unmoved (v + 1) rows (λ w low high. none w (omega arith) (omega arith)))
    where
      nothing : (a : Number) → a ≡ a +ℚ whole (pos 0)
      nothing a = simp ring_ℚ

  moved_append : (v : ℕ) (a b c e : List StandardRow) → AreMoved push v a c → AreMoved push (v + length a) b e → AreMoved push v (a ++ b) (c ++ e)
  moved_append v [] b [] e first rest = subst (λ n. AreMoved push n b e) (let same : v + 0 ≡ v = omega arith in same) rest
  moved_append v [] b (y ∷ c) e first rest = absurd first
  moved_append v (x ∷ a) b [] e first rest = absurd first
  moved_append v (x ∷ a) b (y ∷ c) e first rest = (first.0, moved_append (v + 1) a b c e first.1 (subst (λ n. AreMoved push n b e) (let same : v + length (x ∷ a) ≡ v + 1 + length a = omega arith in same) rest))

  moved_length : (v : ℕ) (olds news : List StandardRow) → AreMoved push v olds news → length news ≡ length olds
  moved_length v [] [] h = refl
  moved_length v [] (y ∷ news) h = absurd h
  moved_length v (x ∷ olds) [] h = absurd h
  moved_length v (x ∷ olds) (y ∷ news) h = ap (λ n. suc n) (moved_length (v + 1) olds news h.1)

  moved_each : (v : ℕ) (olds news : List StandardRow) → AreMoved push v olds news → (r : ℕ) → r < length olds → MovedRow push (v + r) (slice_index_or olds r no_row) (slice_index_or news r no_row)
  moved_each v [] [] h r less = absurd (omega arith)
  moved_each v [] (y ∷ news) h r less = absurd h
  moved_each v (x ∷ olds) [] h r less = absurd h
  moved_each v (x ∷ olds) (y ∷ news) h zero less = subst (λ n. MovedRow push n x y) (let same : v ≡ v + 0 = omega arith in same) h.0
  moved_each v (x ∷ olds) (y ∷ news) h (suc r) less =
      subst (λ n. MovedRow push n (slice_index_or olds r no_row) (slice_index_or news r no_row)) (let same : v + 1 + r ≡ v + suc r = omega arith in same) (moved_each (v + 1) olds news h.1 r (omega arith))

-- the rows of a row of the program
module _ (v j : ℕ) (t : Number) (old new : StandardRow) (entries : new.entries ≡ old.entries) (right : new.right ≡ old.right +ℚ t) where
  negated : new.right ≡ old.right +ℚ t → neg_ℚ new.right ≡ neg_ℚ old.right +ℚ neg_ℚ t
  negated e = ap neg_ℚ e ∙ apart old.right t
    where
      apart : (a b : Number) → neg_ℚ (a +ℚ b) ≡ neg_ℚ a +ℚ neg_ℚ b
      apart a b = simp ring_ℚ

  negated_entries : (form.negated_row j new).entries ≡ (form.negated_row j old).entries
  negated_entries = ap (map (λ (e : ℕ × Number). (e.0, neg_ℚ e.1))) entries

  sense_moved : (s : Sense) → AreMoved (push_of s v t) v (form.rows_by_sense s j old) (form.rows_by_sense s j new)
  sense_moved sense.E = (
    (entries, right ∙ ap (λ u. old.right +ℚ u) (sym (ap₂ (λ a b. a +ℚ b) (unit_here v t) (unit_there (v + 1) v (neg_ℚ t) (omega arith)) ∙ first t))),
    (
      (negated_entries, negated right ∙ ap (λ u. neg_ℚ old.right +ℚ u) (sym (ap₂ (λ a b. a +ℚ b) (unit_there v (v + 1) t (omega arith)) (unit_here (v + 1) (neg_ℚ t)) ∙ second (neg_ℚ t)))),
      tt,
    ),
  )
    where
      first : (a : Number) → a +ℚ whole (pos 0) ≡ a
      first a = simp ring_ℚ

      second : (a : Number) → whole (pos 0) +ℚ a ≡ a
      second a = simp ring_ℚ
  sense_moved sense.L = ((entries, right ∙ ap (λ u. old.right +ℚ u) (sym (unit_here v t))), tt)
  sense_moved sense.G = ((negated_entries, negated right ∙ ap (λ u. neg_ℚ old.right +ℚ u) (sym (unit_here v (neg_ℚ t)))), tt)
  sense_moved sense.N = tt

-- ---- the rows of the program

module _ (columns : List (ℕ × form.Shift)) (right : Number) where
  rows_moved : (v i j : ℕ) (rows : List (Row Number)) (row : Row Number) → slice_get rows i ≡ Some row → AreMoved (push_of row.sense (slack_at v i rows) (right -ℚ row.right)) v (rows_over itself columns j rows) (rows_over itself columns j (rows_with_right i right rows))
  rows_moved v i j [] row at = absurd (cc)
  rows_moved v zero j (x ∷ rows) row at =
      let same : x ≡ row = cc in
      let y : Row Number = record x { right = right } in
      let old = shifted_over itself columns j x in
      let new = shifted_over itself columns j y in
      let rest = rows_over itself columns (j + 1) rows in
      let push = push_of x.sense v (right -ℚ x.right) in
      let count = counted_by_sense x.sense j (shifted_over itself columns j x) in
      subst (λ (r : Row Number). AreMoved (push_of r.sense v (right -ℚ r.right)) v (form.rows_by_sense x.sense j old ++ rest) (form.rows_by_sense x.sense j new ++ rest)) same
      (moved_append push v (form.rows_by_sense x.sense j old) rest (form.rows_by_sense x.sense j new) rest (sense_moved v j (right -ℚ x.right) old new refl (turned right x.right _) x.sense)
      (unmoved push (v + length (form.rows_by_sense x.sense j old)) rest (λ w low high. push_past x.sense v (right -ℚ x.right) w (omega (arith, count, low)))))
    where
      turned : (a b c : Number) → a -ℚ c ≡ (b -ℚ c) +ℚ (a -ℚ b)
      turned a b c = simp ring_ℚ
  rows_moved v (suc i) j (x ∷ rows) row at =
      let old = shifted_over itself columns j x in
      let first = form.rows_by_sense x.sense j (shifted_over itself columns j x) in
      let count = counted_by_sense x.sense j (shifted_over itself columns j x) in
      let slack = slack_at (v + rows_of_sense x.sense) i rows in
      let push = push_of row.sense (slack_at (v + rows_of_sense x.sense) i rows) (right -ℚ row.right) in
      moved_append push v first (rows_over itself columns (j + 1) rows) first (rows_over itself columns (j + 1) (rows_with_right i right rows))
      (unmoved push v first (λ w low high. push_before row.sense slack (right -ℚ row.right) w (omega (arith, slack_low (v + rows_of_sense x.sense) i rows, count, high))))
      (subst (λ n. AreMoved push n (rows_over itself columns (j + 1) rows) (rows_over itself columns (j + 1) (rows_with_right i right rows))) (ap (λ n. v + n) (sym count)) (rows_moved (v + rows_of_sense x.sense) i (j + 1) rows row at))

-- ---- a program

module _ (lp : Lp Number) (formed : IsWellFormed itself lp) (i : ℕ) (row : Row Number) (at : slice_get lp.rows i ≡ Some row) (right : Number) where
  abbrev pub slack : ℕ
  slack = slack_at (form.variables_of itself lp + 1) i lp.rows

  abbrev pub push : ℕ → Number
  push = push_of row.sense (slack_at (form.variables_of itself lp + 1) i lp.rows) (right -ℚ row.right)

  all_moved : AreMoved push (form.variables_of itself lp + 1) (form.rows_of itself lp) (form.rows_of itself (with_right i right lp))
  all_moved =
      let columns = form.columns_of itself lp in
      let v = form.variables_of itself lp + 1 in
      let first = rows_over itself (form.columns_of itself lp) 0 lp.rows in
      let following = bounds_over itself (form.columns_of itself lp) 0 lp.columns in
      let count : length (rows_over itself (form.columns_of itself lp) 0 lp.rows) ≡ count_of_rows lp.rows = rows_over_counted itself (form.columns_of itself lp) 0 lp.rows in
      let high = slack_high (form.variables_of itself lp + 1) i lp.rows row at in
      moved_append push v first following (rows_over itself columns 0 (rows_with_right i right lp.rows)) following (rows_moved columns right v i 0 lp.rows row at)
      (unmoved push (v + length first) following (λ w low less. push_past row.sense slack (right -ℚ row.right) w (omega (arith, high, count, low))))

  pub rows_bound : count_of_rows lp.rows ≤ length (form.rows_of itself lp)
  rows_bound =
      let first = rows_over itself (form.columns_of itself lp) 0 lp.rows in
      let following = bounds_over itself (form.columns_of itself lp) 0 lp.columns in
      omega (arith, length-append first following, rows_over_counted itself (form.columns_of itself lp) 0 lp.rows)

  pub form_is_moved : IsMovedForm push (form.standard_form itself lp) (form.standard_form itself (with_right i right lp))
  form_is_moved =
      let v = form.variables_of itself lp + 1 in
      let count = count_is itself lp formed in
      record {
        objective = refl;
        constant = refl;
        sized = moved_length push v (form.rows_of itself lp) (form.rows_of itself (with_right i right lp)) all_moved;
        entries = λ r less. (moved_each push v (form.rows_of itself lp) (form.rows_of itself (with_right i right lp)) all_moved r less).0;
        right = λ r less.
            (moved_each push v (form.rows_of itself lp) (form.rows_of itself (with_right i right lp)) all_moved r less).1
            ∙ ap (λ n. (slice_index_or (form.rows_of itself lp) r no_row).right +ℚ push (n + 1 + r)) (sym count);
        quiet = λ w less. push_before row.sense slack (right -ℚ row.right) w (omega (arith, less, count, slack_low (form.variables_of itself lp + 1) i lp.rows));
      }

-- ---- what the constants gain

module _ (limit : ℕ) (d : Dictionary) (v : ℕ) (t : Number) (k : ℕ) where
  unit_gained : (w : ℕ) (c : Number) → w < d.variables + 1 → sum_by_ℚ (λ u. entry_at d k u *ℚ unit_at w c u) (range_with_len 0 (d.variables + 1)) ≡ c *ℚ entry_at d k w
  unit_gained w c less =
      sum_by_same (λ u. entry_at d k u *ℚ unit_at w c u) (λ u. unit_at w c u *ℚ entry_at d k u) (range_with_len 0 (d.variables + 1)) (λ u. *ℚ_comm (entry_at d k u) (unit_at w c u))
      ∙ range_unit w c (entry_at d k) 0 (d.variables + 1) (omega arith) (omega arith)

  pub gained_is : (s : Sense) → v + rows_of_sense s ≤ d.variables + 1 → gained (push_of s v t) d k ≡ t *ℚ (right_gain limit d s v k).each
  gained_is sense.E within_bound =
      let far : v + 2 ≤ d.variables + 1 = within_bound in
      sum_by_same (λ u. entry_at d k u *ℚ (unit_at v t u +ℚ unit_at (v + 1) (neg_ℚ t) u)) (λ u. entry_at d k u *ℚ unit_at v t u +ℚ entry_at d k u *ℚ unit_at (v + 1) (neg_ℚ t) u) (range_with_len 0 (d.variables + 1)) (λ u. apart (entry_at d k u) (unit_at v t u) (unit_at (v + 1) (neg_ℚ t) u))
      ∙ sum_by_ℚ-+ℚ (λ u. entry_at d k u *ℚ unit_at v t u) (λ u. entry_at d k u *ℚ unit_at (v + 1) (neg_ℚ t) u) (range_with_len 0 (d.variables + 1))
      ∙ ap₂ (λ a b. a +ℚ b) (unit_gained v t (omega arith)) (unit_gained (v + 1) (neg_ℚ t) (omega arith))
      ∙ joined t (entry_at d k v) (entry_at d k (v + 1))
    where
      apart : (a x y : Number) → a *ℚ (x +ℚ y) ≡ a *ℚ x +ℚ a *ℚ y
      apart a x y = simp ring_ℚ

      joined : (t a b : Number) → t *ℚ a +ℚ neg_ℚ t *ℚ b ≡ t *ℚ (a -ℚ b)
      joined t a b = simp ring_ℚ
  gained_is sense.L within_bound = let far : v + 1 ≤ d.variables + 1 = within_bound in unit_gained v t (omega arith)
  gained_is sense.G within_bound = let far : v + 1 ≤ d.variables + 1 = within_bound in unit_gained v (neg_ℚ t) (omega arith) ∙ turned t (entry_at d k v)
    where
      turned : (t a : Number) → neg_ℚ t *ℚ a ≡ t *ℚ neg_ℚ a
      turned t a = simp ring_ℚ
  gained_is sense.N within_bound =
      sum_by_same (λ u. entry_at d k u *ℚ whole (pos 0)) (λ u. whole (pos 0)) (range_with_len 0 (d.variables + 1)) (λ u. *ℚ-zero (entry_at d k u)) ∙ sum_by_ℚ-zero (range_with_len 0 (d.variables + 1)) ∙ sym (*ℚ-zero t)
