-- A dictionary by other lines that stand for the same numbers, and the opening pivot.
use Rattle.std.proofs.Common.{◌≡◌, ◌≢◌, ℕ, ◌+◌, ◌*◌, ◌≤◌, inl, inr, pos, nat_abs, cond, List, length, Option, Some, None, refl, sym, ap, ◌∙◌, subst, subst₂, arith}
use mathlib.Core.Path.{fun_ext}
use Rattle.std.specs.Prelude.{slice_get}
use Rattle.std.proofs.lemmas.Bool.{cases_eq, eq-eqb, ne_eqb}
use Rattle.std.proofs.Math.Nat.{mul-le-mul}
use Rattle.gq_number.specs.Number.{Number, whole, ratio, neg_ℚ}
use Rattle.gq_number.specs.Order.{◌<ℚ◌}
use Rattle.lp_core.specs.declared.answer.Pivot.{Pivot}
use Rattle.lp_core.specs.Dictionary.{Dictionary, entry_at, IsLegal, exchanged}
use Rattle.lp_fraction_dict.specs.Pivots.{IsProper}
use Rattle.lp_fraction_dict.specs.Tableau.{IsPlace}
use Rattle.lp_fraction_dict.proofs.Proper.{enters_new}
use Rattle.lp_integer_rows.specs.declared.line.Line.{Line}
use Rattle.lp_integers.specs.Lines.{whole_at}
use Rattle.lp_integer_rows.specs.Form.{wholes, line_number, number_or_none, lines_number, numbers_above, IsLine, AreLines, AreSameLines, IsRaisedAt, IsRaisedLine}
use Rattle.lp_integer_dict.specs.WithinBound.{DeferredStaysWithin, IsDeferred, RowsStayWithin}
use Rattle.lp_integer_rows.specs.Turning.{turned_at, with_row_negated}
use Rattle.lp_integer_dict.specs.Whole.{row_of, WholeTableau, integer_dictionary, IsWhole}
use Rattle.lp_integer_rows.proofs.Turning.{turned_same, turned_negated}
use Rattle.lp_integer_rows.proofs.Plans.{get_within, some_at, same_some, set_same}
use Rattle.lp_integer_dict.proofs.Reading.{at_line, above_number, number_above}
use Rattle.lp_integer_dict.proofs.Sameness.{same_are, same_bounded, same_numbers}
use Rattle.lp_integer_rows.proofs.Updating.{ratio_none}
use Rattle.lp_integer_dict.proofs.Wholes.{row_within, row_apart, row_turned}
use Rattle.lp_integer_dict.proofs.Pivoting.{IsAfter, after_is, plain_numbers, plain_stays, stays_numbers, k_in, pivot_there}

-- ---- other lines for the same numbers

module _ (width bound : ℕ) (before after : List Line) (are : AreLines width before) (s : AreSameLines before after) where
  same_putoff : (k : ℕ) → IsDeferred k before bound → IsDeferred k after bound
  same_putoff k h =
      let y = some_at after k (let e = s.sized in let less = get_within before k h.pivot h.there in omega arith) in
      let is = s.each k h.pivot y.0 h.there y.1 in
      let of_pivot = (are k h.pivot h.there).0 in
      record {
        pivot = y.0;
        there = y.1;
        above = number_above (whole_at (wholes y.0) 1) y.0.denominator is.is_line.positive (subst (λ x. whole (pos 0) <ℚ x) (sym (is.numbers 1)) (above_number (whole_at (wholes h.pivot) 1) h.pivot.denominator of_pivot.positive h.above));
        within_bound = record {
          own = let low = is.most in let high = h.within_bound.own in omega arith;
          others = λ i l other at.
              let x = some_at before i (let e = s.sized in let less = get_within after i l at in omega arith) in
              let of_l = s.each i x.0 l x.1 at in
              let within_bound = h.within_bound.others i x.0 other x.1 in
              let first : l.most * nat_abs (whole_at (wholes y.0) 1) ≤ x.0.most * nat_abs (whole_at (wholes h.pivot) 1) = mul-le-mul of_l.most (is.magnitudes 1) in
              let second : nat_abs (whole_at (wholes l) 1) * y.0.most ≤ nat_abs (whole_at (wholes x.0) 1) * h.pivot.most = mul-le-mul (of_l.magnitudes 1) is.most in
              omega arith;
        };
      }

  pub same_bound : (o : Option ℕ) → RowsStayWithin o before bound → RowsStayWithin o after bound
  same_bound None h = same_bounded before after s bound h
  same_bound (Some k) h = same_putoff k h

module _ (t : WholeTableau) (w : IsWhole t) (lines : List Line) (s : AreSameLines t.lines lines) where
  abbrev pub tableau_same : WholeTableau
  tableau_same = record { variables = t.variables; basic = t.basic; lines = lines; deferred = t.deferred; bound = t.bound }

  numbers_same : lines_number lines ≡ lines_number t.lines
  numbers_same = fun_ext (λ i. fun_ext (λ c. same_numbers t.lines lines s i c))

  pub dictionary_same : integer_dictionary tableau_same ≡ integer_dictionary t
  dictionary_same = ap (λ (n : ℕ → ℕ → Number). made_of t.variables t.basic (λ i c. numbers_above t.deferred n (row_of (length t.basic) i) c)) numbers_same
    where
      made_of : ℕ → List ℕ → (ℕ → ℕ → Number) → Dictionary
      made_of variables basic numbers = record { variables = variables; basic = basic; numbers = numbers }

  pub whole_same : IsWhole tableau_same
  whole_same =
      record {
        sized = w.sized;
        paired = s.sized ∙ w.paired;
        are_whole = record {
          are_lines = same_are t.lines lines s (t.variables + 2) w.are_whole.are_lines;
          wide = w.are_whole.wide;
          small = w.are_whole.small;
          within_bound = same_bound (t.variables + 2) t.bound t.lines lines w.are_whole.are_lines s t.deferred w.are_whole.within_bound;
        };
        is_deferred = w.is_deferred;
        proper = subst IsProper (sym dictionary_same) w.proper;
      }

-- ---- the opening pivot

module _ (t : WholeTableau) (w : IsWhole t) (p : Pivot) (k : ℕ) (legal : IsLegal (integer_dictionary t) p k) (opens : p.enter ≡ 0) where
  abbrev d : Dictionary
  d = integer_dictionary t

  abbrev kept : ℕ → ℕ → Number
  kept i c = lines_number t.lines (row_of (length t.basic) i) c

  -- nothing is deferred before it
  none_off : (o : Option ℕ) → t.deferred ≡ o → o ≡ None
  none_off None is = refl
  none_off (Some z) is = absurd (enters_new d p k w.proper legal z 0 (subst (λ x. IsPlace t.basic 0 x) is w.is_deferred) (sym opens))

  pub opens_plain : t.deferred ≡ None
  opens_plain = none_off t.deferred refl

  pub opens_some : (x : Line) → slice_get t.lines k ≡ Some x → whole_at (wholes x) 1 ≢ pos 0
  opens_some x at none =
      pivot_there t w p k legal
      (ap (entry_at d k) opens ∙ plain_numbers t w p k legal opens_plain k 1 ∙ ap (λ r. lines_number t.lines r 1) (row_within (length t.basic) k (k_in t w p k legal)) ∙ at_line t.lines k x at 1 ∙ ap (λ n. ratio n x.denominator) none ∙ ratio_none x.denominator)

  module _ (lines : List Line) (r : IsRaisedAt k t.lines lines) (within_bound : (x : Line) → slice_get t.lines k ≡ Some x → DeferredStaysWithin k x t.lines t.bound) where
    before_at : (x : Line) × (slice_get t.lines k ≡ Some x)
    before_at = some_at t.lines k (let e = w.paired in let less = k_in t w p k legal in omega arith)

    after_at : (y : Line) × (slice_get lines k ≡ Some y)
    after_at = some_at lines k (let e = w.paired in let f = r.sized in let less = k_in t w p k legal in omega arith)

    raised : IsRaisedLine before_at.0 after_at.0
    raised = r.here before_at.0 after_at.0 before_at.1 after_at.1

    own_row : (c : ℕ) → lines_number lines (row_of (length t.basic) k) c ≡ line_number after_at.0 c
    own_row c = ap (λ x. lines_number lines x c) (row_within (length t.basic) k (k_in t w p k legal)) ∙ at_line lines k after_at.0 after_at.1 c

    own_kept : (c : ℕ) → line_number before_at.0 c ≡ kept k c
    own_kept c = sym (at_line t.lines k before_at.0 before_at.1 c) ∙ ap (λ x. lines_number t.lines x c) (sym (row_within (length t.basic) k (k_in t w p k legal)))

    rest : (i c : ℕ) → i ≢ k → lines_number lines (row_of (length t.basic) i) c ≡ kept i c
    rest i c other = ap (λ o. number_or_none o c) (r.others (row_of (length t.basic) i) (row_apart (length t.basic) i k (k_in t w p k legal) other))

    plain_lines : ((c : ℕ) → line_number after_at.0 c ≡ line_number before_at.0 c) → (i c : ℕ) → lines_number lines (row_of (length t.basic) i) c ≡ kept i c
    plain_lines e i c = elim (cases_eq i k) [
      | inl same ↦ subst (λ j. lines_number lines (row_of (length t.basic) j) c ≡ kept j c) (sym same) (own_row c ∙ e c ∙ own_kept c)
      | inr other ↦ rest i c other
    ]

    negated_lines : ((c : ℕ) → line_number after_at.0 c ≡ neg_ℚ (line_number before_at.0 c)) → (i c : ℕ) → lines_number lines (row_of (length t.basic) i) c ≡ with_row_negated kept k i c
    negated_lines e i c = elim (cases_eq i k) [
      | inl same ↦
          subst (λ j. lines_number lines (row_of (length t.basic) j) c ≡ with_row_negated kept k j c) (sym same)
          (own_row c ∙ e c ∙ ap neg_ℚ (own_kept c) ∙ sym (ap (λ b. cond b (neg_ℚ (kept k c)) (kept k c)) (eq-eqb k k refl)))
      | inr other ↦ rest i c other ∙ sym (ap (λ b. cond b (neg_ℚ (kept i c)) (kept i c)) (ne_eqb i k other))
    ]

    opens_same : (i c : ℕ) → numbers_above (Some k) (lines_number lines) (row_of (length t.basic) i) c ≡ (exchanged d p.enter k).numbers i c
    opens_same i c =
        row_turned (length t.basic) (lines_number lines) 1 k i c (k_in t w p k legal)
        ∙ elim raised.numbers [
          | inl e ↦ turned_same (λ j. lines_number lines (row_of (length t.basic) j)) kept 1 k i c (plain_lines e)
          | inr e ↦ turned_same (λ j. lines_number lines (row_of (length t.basic) j)) (with_row_negated kept k) 1 k i c (negated_lines e) ∙ turned_negated kept 1 k i c
        ]
        ∙ sym (turned_same d.numbers kept 1 k i c (plain_numbers t w p k legal opens_plain))
        ∙ ap (λ v. turned_at d.numbers (v + 1) k i c) (sym opens)
        ∙ sym (stays_numbers t w p k legal (plain_stays t w p k legal opens_plain) i c)

    opens_bound : IsDeferred k lines t.bound
    opens_bound =
        let has = within_bound before_at.0 before_at.1 in
        record {
          pivot = after_at.0;
          there = after_at.1;
          above = raised.above;
          within_bound = record {
            own = let e = raised.most in let f = has.own in omega arith;
            others = λ i l other at.
                subst₂ (λ u m. l.most * u + nat_abs (whole_at (wholes l) 1) * m ≤ t.bound) (sym (raised.magnitudes 1)) (sym raised.most) (has.others i l other (sym (r.others i other) ∙ at));
          };
        }

    opens_are : AreLines (t.variables + 2) lines
    opens_are i l at =
        elim (cases_eq i k) [
          | inl same ↦
              let is : after_at.0 ≡ l = same_some after_at.0 l (sym after_at.1 ∙ subst (λ j. slice_get lines j ≡ Some l) same at) in
              subst (λ x. IsLine x × (length (wholes x) ≡ t.variables + 2)) is (raised.is_line, raised.sized ∙ (w.are_whole.are_lines k before_at.0 before_at.1).1)
          | inr other ↦ w.are_whole.are_lines i l (sym (r.others i other) ∙ at)
        ]

    pub after_open : IsAfter t w p k legal lines (Some k)
    after_open =
        after_is t w p k legal lines (Some k) r.sized
        (record { are_lines = opens_are; wide = w.are_whole.wide; small = w.are_whole.small; within_bound = opens_bound })
        (set_same t.basic k p.enter (k_in t w p k legal) ∙ ap Some opens) opens_same
