-- A pivot: what the stored rows mean after it, and that they stay within the bound.
use Rattle.std.proofs.Common.{◌≡◌, ◌≢◌, ℕ, ◌+◌, ◌*◌, ◌<◌, ◌≤◌, ◌==◌, ◌&&◌, inl, inr, pos, nat_abs, cond, List, length, length-set, Option, Some, None, refl, sym, ap, ◌∙◌, subst, subst₂, arith}
use mathlib.Core.Path.{fun_ext}
use Rattle.std.specs.Prelude.{slice_get, slice_set, Contains}
use Rattle.std.proofs.lemmas.Bool.{cases_eq, eq-eqb, ne_eqb}
use Rattle.gq_number.specs.Number.{Number, whole, ratio, neg_ℚ}
use Rattle.gq_number.specs.Order.{◌<ℚ◌}
use Rattle.gq_number.proofs.Signs.{≢-zero_above}
use Rattle.lp_core.specs.declared.answer.Pivot.{Pivot}
use Rattle.lp_core.specs.Dictionary.{Dictionary, basic_at, entry_at, IsLegal, IsStep, exchanged}
use Rattle.lp_fraction_dict.specs.Pivots.{IsProper}
use Rattle.lp_fraction_dict.specs.Tableau.{IsPlace}
use Rattle.lp_fraction_dict.proofs.Proper.{proper_after, place_within, pivot_some, enters_there, basic_after}
use Rattle.lp_fraction_dict.proofs.Kept.{get_index, contains_get}
use Rattle.lp_integer_rows.specs.declared.line.Line.{Line}
use Rattle.lp_integers.specs.Lines.{whole_at}
use Rattle.lp_integer_rows.specs.Form.{wholes, line_number, number_or_none, lines_number, numbers_above, IsLine, AreLines, AreBounded, AreForgotten, IsRaisedAt, IsRaisedLine, AreSwapped}
use Rattle.lp_integer_dict.specs.WithinBound.{DeferredStaysWithin, IsDeferred, AreWhole, AreExchangedWithin}
use Rattle.lp_integer_rows.specs.Turning.{turned_at, swapped, with_row_negated, IsDeferredExchange}
use Rattle.lp_integer_dict.specs.Whole.{row_of, WholeTableau, integer_dictionary, IsWhole}
use Rattle.lp_integer_rows.proofs.Turning.{turned_same, turned_negated, swapped_first, swapped_second, swapped_third, above, leaves}
use Rattle.lp_integer_rows.proofs.Plans.{get_within, index_get, some_at, same_some, set_other}
use Rattle.lp_integer_dict.proofs.Reading.{at_line, above_number, bounded_lines}
use Rattle.lp_integer_dict.proofs.Wholes.{row_within, row_below, row_apart, row_turned, sign_off}
use Rattle.lp_integer_rows.proofs.Updating.{ratio_none}

-- ---- lines that were exchanged

module _ (bound column place leaving rows : ℕ) (before after : List Line) (paired : length before ≡ rows + 1) (within : place < rows) (h : AreExchangedWithin bound column place leaving before after) where
  pub turned_sized : length after ≡ length before
  turned_sized = h.sized

  pub turned_are : (width : ℕ) → AreLines width before → AreLines width after
  turned_are width are = h.are_lines width are

  pub turned_numbers : (i c : ℕ) → lines_number after (row_of rows i) c ≡ turned_at (λ j. lines_number before (row_of rows j)) column place i c
  turned_numbers i c =
      let less : row_of rows i < length before = let e = row_below rows i in omega arith in
      h.numbers (row_of rows i) c less ∙ row_turned rows (lines_number before) column place i c within

  pub turned_bounded : AreBounded bound after
  turned_bounded = h.within_bound.bounded

-- ---- what holds of every pivot

module _ (t : WholeTableau) (w : IsWhole t) (p : Pivot) (k : ℕ) (legal : IsLegal (integer_dictionary t) p k) where
  abbrev q : ℕ
  q = p.enter

  abbrev d : Dictionary
  d = integer_dictionary t

  abbrev rows : ℕ
  rows = length t.basic

  abbrev kept : ℕ → ℕ → Number
  kept i c = lines_number t.lines (row_of (length t.basic) i) c

  abbrev pub tableau_after : List Line → Option ℕ → WholeTableau
  tableau_after lines deferred = record { variables = t.variables; basic = slice_set t.basic k p.enter; lines = lines; deferred = deferred; bound = t.bound }

  pub k_in : k < length t.basic
  k_in = place_within d p k w.proper legal

  pub pivot_there : entry_at d k p.enter ≢ whole (pos 0)
  pivot_there = pivot_some d p k w.proper legal

  pub column_in : p.enter + 1 < t.variables + 2
  column_in = let e = enters_there d p k w.proper legal in omega arith

  dictionary_is : (lines : List Line) (deferred : Option ℕ) → ((i c : ℕ) → numbers_above deferred (lines_number lines) (row_of (length t.basic) i) c ≡ (exchanged d p.enter k).numbers i c) → integer_dictionary (tableau_after lines deferred) ≡ exchanged d p.enter k
  dictionary_is lines deferred same =
      ap (λ (f : ℕ → ℕ → Number). made_of t.variables (slice_set t.basic k p.enter) f) (fun_ext (λ i. fun_ext (λ c. ap (λ n. numbers_above deferred (lines_number lines) (row_of n i) c) (length-set t.basic k p.enter) ∙ same i c)))
    where
      made_of : ℕ → List ℕ → (ℕ → ℕ → Number) → Dictionary
      made_of variables basic numbers = record { variables = variables; basic = basic; numbers = numbers }

  pub record IsAfter (lines : List Line) (deferred : Option ℕ) : Type 0 where
    pub is_dictionary : integer_dictionary (tableau_after lines deferred) ≡ exchanged d p.enter k
    pub is_whole : IsWhole (tableau_after lines deferred)

  pub after_is : (lines : List Line) (deferred : Option ℕ) → length lines ≡ length t.lines → AreWhole lines deferred (t.variables + 2) t.bound → IsPlace (slice_set t.basic k p.enter) 0 deferred → ((i c : ℕ) → numbers_above deferred (lines_number lines) (row_of (length t.basic) i) c ≡ (exchanged d p.enter k).numbers i c) → IsAfter lines deferred
  after_is lines deferred sized are place same =
      let is = dictionary_is lines deferred same in
      record {
        is_dictionary = is;
        is_whole = record {
          sized = w.sized;
          paired = sized ∙ w.paired ∙ ap (λ n. n + 1) (sym (length-set t.basic k p.enter));
          are_whole = are;
          is_deferred = place;
          proper = subst IsProper (sym is) (proper_after d p k w.proper legal);
        };
      }

  -- where a variable other than 0 leaves no column is dropped
  pub stays_numbers : basic_at d k ≢ 0 → (i c : ℕ) → (exchanged d p.enter k).numbers i c ≡ turned_at d.numbers (p.enter + 1) k i c
  stays_numbers stays i c = ap (λ b. cond (b && (c == 1)) (whole (pos 0)) (turned_at d.numbers (p.enter + 1) k i c)) (ne_eqb (basic_at d k) 0 stays)

  pub plain_numbers : t.deferred ≡ None → (i c : ℕ) → d.numbers i c ≡ kept i c
  plain_numbers is i c = ap (λ o. numbers_above o (lines_number t.lines) (row_of (length t.basic) i) c) is

  basic_there : slice_get t.basic k ≡ Some (basic_at d k)
  basic_there = let x = some_at t.basic k k_in in x.1 ∙ ap Some (sym (get_index t.basic k x.0 0 x.1))

  pub plain_stays : t.deferred ≡ None → basic_at d k ≢ 0
  plain_stays is zero_is =
      let none : ¬ (Contains t.basic 0) = subst (λ o. IsPlace t.basic 0 o) is w.is_deferred in
      none (contains_get t.basic k 0 (basic_there ∙ ap Some zero_is))

  -- ---- a pivot with nothing deferred

  module _ (is : t.deferred ≡ None) (lines : List Line) (h : AreExchangedWithin t.bound (p.enter + 1) k k t.lines lines) where
    plain_same : (i c : ℕ) → numbers_above None (lines_number lines) (row_of (length t.basic) i) c ≡ (exchanged d p.enter k).numbers i c
    plain_same i c =
        turned_numbers t.bound (p.enter + 1) k k (length t.basic) t.lines lines w.paired k_in h i c
        ∙ sym (turned_same d.numbers kept (p.enter + 1) k i c (plain_numbers is))
        ∙ sym (stays_numbers (plain_stays is) i c)

    plain_whole : AreWhole lines None (t.variables + 2) t.bound
    plain_whole =
        record {
          are_lines = turned_are t.bound (p.enter + 1) k k (length t.basic) t.lines lines w.paired k_in h (t.variables + 2) w.are_whole.are_lines;
          wide = w.are_whole.wide;
          small = w.are_whole.small;
          within_bound = turned_bounded t.bound (p.enter + 1) k k (length t.basic) t.lines lines w.paired k_in h;
        }

    -- neither the one that enters nor the others are variable 0
    plain_place : p.enter ≢ 0 → IsPlace (slice_set t.basic k p.enter) 0 None
    plain_place other has =
        let none : ¬ (Contains t.basic 0) = subst (λ o. IsPlace t.basic 0 o) is w.is_deferred in
        elim (basic_after d p k w.proper legal has.0 0 (index_get (slice_set t.basic k p.enter) has.0 0 0 has.1 has.2)) [
          | inl new ↦ other (sym new.1)
          | inr old ↦ none (contains_get t.basic has.0 0 old.1)
        ]

    pub after_plain : p.enter ≢ 0 → IsAfter lines None
    after_plain other = after_is lines None (turned_sized t.bound (p.enter + 1) k k (length t.basic) t.lines lines w.paired k_in h) plain_whole (plain_place other) plain_same

  -- ---- variable 0 is deferred in the row z

  module _ (z : ℕ) (is : t.deferred ≡ Some z) where
    abbrev wz : AreWhole t.lines (Some z) (t.variables + 2) t.bound
    wz = subst (λ o. AreWhole t.lines o (t.variables + 2) t.bound) is w.are_whole

    pub z_at : slice_get t.basic z ≡ Some 0
    z_at = subst (λ o. IsPlace t.basic 0 o) is w.is_deferred

    pub z_in : z < length t.basic
    z_in = get_within t.basic z 0 z_at

    pub off_bounded : AreBounded t.bound t.lines
    off_bounded = bounded_lines t.lines z (t.variables + 2) t.bound wz

    pub off_above : IsDeferredExchange d kept z
    off_above =
        let line = wz.within_bound.pivot in
        record {
          some = ≢-zero_above (kept z 1) (subst (λ x. whole (pos 0) <ℚ x) (sym (ap (λ r. lines_number t.lines r 1) (row_within (length t.basic) z z_in) ∙ at_line t.lines z line wz.within_bound.there 1)) (above_number (whole_at (wholes line) 1) line.denominator (wz.are_lines z line wz.within_bound.there).0.positive wz.within_bound.above));
          numbers = λ i c. ap (λ o. numbers_above o (lines_number t.lines) (row_of (length t.basic) i) c) is ∙ row_turned (length t.basic) (lines_number t.lines) 1 z i c z_in;
        }

    -- variable 0 leaves
    module _ (same : k ≡ z) (mid lines : List Line) (h : AreExchangedWithin t.bound (p.enter + 1) k k t.lines mid) (f : AreForgotten mid lines) where
      out_at : slice_get t.basic k ≡ Some 0
      out_at = subst (λ j. slice_get t.basic j ≡ Some 0) (sym same) z_at

      out_zero : basic_at d k ≡ 0
      out_zero = get_index t.basic k 0 0 out_at

      out_above : IsDeferredExchange d kept k
      out_above = subst (IsDeferredExchange d kept) (sym same) off_above

      mid_sized : length mid ≡ length t.lines
      mid_sized = turned_sized t.bound (p.enter + 1) k k (length t.basic) t.lines mid w.paired k_in h

      forgotten_number : (i c : ℕ) → lines_number lines (row_of (length t.basic) i) c ≡ cond (c == 1) (whole (pos 0)) (lines_number mid (row_of (length t.basic) i) c)
      forgotten_number i c =
          let less = row_below (length t.basic) i in
          let paired = w.paired in
          let x = some_at mid (row_of (length t.basic) i) (let e = mid_sized in omega arith) in
          let y = some_at lines (row_of (length t.basic) i) (let e = mid_sized in let g = f.sized in omega arith) in
          at_line lines (row_of (length t.basic) i) y.0 y.1 c ∙ (f.each (row_of (length t.basic) i) x.0 y.0 x.1 y.1).numbers c
          ∙ ap (λ n. cond (c == 1) (whole (pos 0)) n) (sym (at_line mid (row_of (length t.basic) i) x.0 x.1 c))

      out_same : (i c : ℕ) → numbers_above None (lines_number lines) (row_of (length t.basic) i) c ≡ (exchanged d p.enter k).numbers i c
      out_same i c =
          forgotten_number i c
          ∙ ap (λ n. cond (c == 1) (whole (pos 0)) n) (turned_numbers t.bound (p.enter + 1) k k (length t.basic) t.lines mid w.paired k_in h i c)
          ∙ sym (leaves d kept p.enter k out_above pivot_there i c out_zero)

      out_whole : AreWhole lines None (t.variables + 2) t.bound
      out_whole =
          record {
            are_lines = λ i y at.
                let x = some_at mid i (let e = get_within lines i y at in let g = f.sized in omega arith) in
                let s = f.each i x.0 y x.1 at in
                (s.is_line, s.sized ∙ (turned_are t.bound (p.enter + 1) k k (length t.basic) t.lines mid w.paired k_in h (t.variables + 2) w.are_whole.are_lines i x.0 x.1).1);
            wide = w.are_whole.wide;
            small = w.are_whole.small;
            within_bound = λ i y at.
                let x = some_at mid i (let e = get_within lines i y at in let g = f.sized in omega arith) in
                let low = (f.each i x.0 y x.1 at).most in
                let high = turned_bounded t.bound (p.enter + 1) k k (length t.basic) t.lines mid w.paired k_in h i x.0 x.1 in
                omega arith;
          }

      out_place : p.enter ≢ 0 → IsPlace (slice_set t.basic k p.enter) 0 None
      out_place other has =
          elim (basic_after d p k w.proper legal has.0 0 (index_get (slice_set t.basic k p.enter) has.0 0 0 has.1 has.2)) [
            | inl new ↦ other (sym new.1)
            | inr old ↦ old.0 (w.proper.distinct has.0 k 0 old.1 out_at)
          ]

      pub after_out : p.enter ≢ 0 → IsAfter lines None
      after_out other = after_is lines None (f.sized ∙ mid_sized) out_whole (out_place other) out_same

    -- another variable leaves
    module _ (apart : k ≢ z) (mid swap lines : List Line) (h : AreExchangedWithin t.bound (p.enter + 1) z k t.lines mid) (s : AreSwapped z k mid swap) (r : IsRaisedAt z swap lines) (enters : entry_at d z p.enter ≢ whole (pos 0)) where
      other_mid_sized : length mid ≡ length t.lines
      other_mid_sized = turned_sized t.bound (p.enter + 1) z k (length t.basic) t.lines mid w.paired z_in h

      other_sized : length lines ≡ length t.lines
      other_sized = r.sized ∙ s.sized ∙ other_mid_sized

      other_stays : basic_at d k ≢ 0
      other_stays zero_is = apart (w.proper.distinct k z 0 (basic_there ∙ ap Some zero_is) z_at)

      abbrev made : ℕ → ℕ → Number
      made = swapped (turned_at kept (p.enter + 1) z) z k

      mid_number : (i c : ℕ) → lines_number mid (row_of (length t.basic) i) c ≡ turned_at kept (p.enter + 1) z i c
      mid_number i c = turned_numbers t.bound (p.enter + 1) z k (length t.basic) t.lines mid w.paired z_in h i c

      swap_number : (i c : ℕ) → lines_number swap (row_of (length t.basic) i) c ≡ made i c
      swap_number i c =
          elim (cases_eq i z) [
            | inl at_z ↦
                subst (λ j. lines_number swap (row_of (length t.basic) j) c ≡ made j c) (sym at_z)
                (ap (λ x. lines_number swap x c) (row_within (length t.basic) z z_in) ∙ ap (λ o. number_or_none o c) s.first ∙ ap (λ x. lines_number mid x c) (sym (row_within (length t.basic) k k_in)) ∙ mid_number k c
                ∙ sym (swapped_first (turned_at kept (p.enter + 1) z) z k c))
            | inr not_z ↦
                elim (cases_eq i k) [
                  | inl at_k ↦
                      subst (λ j. lines_number swap (row_of (length t.basic) j) c ≡ made j c) (sym at_k)
                      (ap (λ x. lines_number swap x c) (row_within (length t.basic) k k_in) ∙ ap (λ o. number_or_none o c) s.second ∙ ap (λ x. lines_number mid x c) (sym (row_within (length t.basic) z z_in)) ∙ mid_number z c
                      ∙ sym (swapped_second (turned_at kept (p.enter + 1) z) z k c apart))
                  | inr not_k ↦
                      ap (λ o. number_or_none o c) (s.others (row_of (length t.basic) i) (row_apart (length t.basic) i z z_in not_z) (row_apart (length t.basic) i k k_in not_k)) ∙ mid_number i c
                      ∙ sym (swapped_third (turned_at kept (p.enter + 1) z) z k i c not_z not_k)
                ]
          ]

      z_less : z < length mid
      z_less = let e = other_mid_sized in let g = w.paired in let less = z_in in omega arith

      raised_there : (x : Line) × (slice_get swap z ≡ Some x)
      raised_there = some_at swap z (let e = s.sized in let less = z_less in omega arith)

      lines_there : (y : Line) × (slice_get lines z ≡ Some y)
      lines_there = some_at lines z (let e = s.sized in let g = r.sized in let less = z_less in omega arith)

      raised : IsRaisedLine raised_there.0 lines_there.0
      raised = r.here raised_there.0 lines_there.0 raised_there.1 lines_there.1

      -- rows other than z, and the row z by how its line was raised
      rest_number : (i c : ℕ) → i ≢ z → lines_number lines (row_of (length t.basic) i) c ≡ made i c
      rest_number i c not_z = ap (λ o. number_or_none o c) (r.others (row_of (length t.basic) i) (row_apart (length t.basic) i z z_in not_z)) ∙ swap_number i c

      z_number : (c : ℕ) → lines_number lines (row_of (length t.basic) z) c ≡ line_number lines_there.0 c
      z_number c = ap (λ x. lines_number lines x c) (row_within (length t.basic) z z_in) ∙ at_line lines z lines_there.0 lines_there.1 c

      z_made : (c : ℕ) → line_number raised_there.0 c ≡ made z c
      z_made c = sym (at_line swap z raised_there.0 raised_there.1 c) ∙ ap (λ x. lines_number swap x c) (sym (row_within (length t.basic) z z_in)) ∙ swap_number z c

      plain_lines : ((c : ℕ) → line_number lines_there.0 c ≡ line_number raised_there.0 c) → (i c : ℕ) → lines_number lines (row_of (length t.basic) i) c ≡ made i c
      plain_lines e i c = elim (cases_eq i z) [
        | inl at_z ↦ subst (λ j. lines_number lines (row_of (length t.basic) j) c ≡ made j c) (sym at_z) (z_number c ∙ e c ∙ z_made c)
        | inr not_z ↦ rest_number i c not_z
      ]

      negated_lines : ((c : ℕ) → line_number lines_there.0 c ≡ neg_ℚ (line_number raised_there.0 c)) → (i c : ℕ) → lines_number lines (row_of (length t.basic) i) c ≡ with_row_negated made z i c
      negated_lines e i c = elim (cases_eq i z) [
        | inl at_z ↦
            subst (λ j. lines_number lines (row_of (length t.basic) j) c ≡ with_row_negated made z j c) (sym at_z)
            (z_number c ∙ e c ∙ ap neg_ℚ (z_made c) ∙ sym (ap (λ b. cond b (neg_ℚ (made z c)) (made z c)) (eq-eqb z z refl)))
        | inr not_z ↦ rest_number i c not_z ∙ sym (ap (λ b. cond b (neg_ℚ (made i c)) (made i c)) (ne_eqb i z not_z))
      ]

      other_same : (i c : ℕ) → numbers_above (Some z) (lines_number lines) (row_of (length t.basic) i) c ≡ (exchanged d p.enter k).numbers i c
      other_same i c =
          row_turned (length t.basic) (lines_number lines) 1 z i c z_in
          ∙ elim raised.numbers [
            | inl e ↦ turned_same (λ j. lines_number lines (row_of (length t.basic) j)) made 1 z i c (plain_lines e)
            | inr e ↦ turned_same (λ j. lines_number lines (row_of (length t.basic) j)) (with_row_negated made z) 1 z i c (negated_lines e) ∙ turned_negated made 1 z i c
          ]
          ∙ sym ((above d kept p.enter z off_above enters k apart other_stays pivot_there).numbers i c)

      -- the rows after it stay within the bound
      abbrev first : Line
      first = raised_there.0

      first_bound : DeferredStaysWithin k first mid t.bound
      first_bound = h.within_bound.others first apart (sym s.first ∙ raised_there.1)

      -- a line of the others that came from the place i
      line_bound : (i : ℕ) (l : Line) → i ≢ k → slice_get mid i ≡ Some l → l.most * nat_abs (whole_at (wholes lines_there.0) 1) + nat_abs (whole_at (wholes l) 1) * lines_there.0.most ≤ t.bound
      line_bound i l not_k at =
          subst₂ (λ u m. l.most * u + nat_abs (whole_at (wholes l) 1) * m ≤ t.bound) (sym (raised.magnitudes 1)) (sym raised.most) (first_bound.others i l not_k at)

      other_bound : IsDeferred z lines t.bound
      other_bound =
          record {
            pivot = lines_there.0;
            there = lines_there.1;
            above = raised.above;
            within_bound = record {
              own = subst (λ m. m ≤ t.bound) (sym raised.most) first_bound.own;
              others = λ i l not_z at.
                  let in_swap : slice_get swap i ≡ Some l = sym (r.others i not_z) ∙ at in
                  elim (cases_eq i k) [
                    | inl at_k ↦ line_bound z l (λ e. apart (sym e)) (sym s.second ∙ subst (λ j. slice_get swap j ≡ Some l) at_k in_swap)
                    | inr not_k ↦ line_bound i l not_k (sym (s.others i not_z not_k) ∙ in_swap)
                  ];
            };
          }

      mid_are : AreLines (t.variables + 2) mid
      mid_are = turned_are t.bound (p.enter + 1) z k (length t.basic) t.lines mid w.paired z_in h (t.variables + 2) w.are_whole.are_lines

      pub swap_are : AreLines (t.variables + 2) swap
      swap_are i l at =
          elim (cases_eq i z) [
            | inl at_z ↦ mid_are k l (sym s.first ∙ subst (λ j. slice_get swap j ≡ Some l) at_z at)
            | inr not_z ↦
                elim (cases_eq i k) [
                  | inl at_k ↦ mid_are z l (sym s.second ∙ subst (λ j. slice_get swap j ≡ Some l) at_k at)
                  | inr not_k ↦ mid_are i l (sym (s.others i not_z not_k) ∙ at)
                ]
          ]

      other_are : AreLines (t.variables + 2) lines
      other_are i l at =
          elim (cases_eq i z) [
            | inl at_z ↦
                let is : lines_there.0 ≡ l = same_some lines_there.0 l (sym lines_there.1 ∙ subst (λ j. slice_get lines j ≡ Some l) at_z at) in
                subst (λ x. IsLine x × (length (wholes x) ≡ t.variables + 2)) is (raised.is_line, raised.sized ∙ (swap_are z first raised_there.1).1)
            | inr not_z ↦ swap_are i l (sym (r.others i not_z) ∙ at)
          ]

      other_whole : AreWhole lines (Some z) (t.variables + 2) t.bound
      other_whole = record { are_lines = other_are; wide = w.are_whole.wide; small = w.are_whole.small; within_bound = other_bound }

      pub after_other : IsAfter lines (Some z)
      after_other = after_is lines (Some z) other_sized other_whole (set_other t.basic k z p.enter (λ e. apart (sym e)) ∙ z_at) other_same

  -- ---- the numbers by which a step is chosen

  pub step_of : p.enter ≢ 0 → IsStep d p k
  step_of other = elim legal [ inl o ↦ absurd (other o.enters) | inr s ↦ s ]

  pub plain_above : t.deferred ≡ None → p.enter ≢ 0 → whole (pos 0) <ℚ lines_number t.lines k (p.enter + 1)
  plain_above is other =
      subst (λ x. whole (pos 0) <ℚ x) (plain_numbers is k (p.enter + 1) ∙ ap (λ r. lines_number t.lines r (p.enter + 1)) (row_within (length t.basic) k k_in)) (step_of other).ties.limits.1

  module _ (z : ℕ) (is : t.deferred ≡ Some z) (other : p.enter ≢ 0) where
    pub entry_above : whole (pos 0) <ℚ entry_at d z p.enter
    entry_above = (step_of other).improves.above z (inl (z_at z is))

    pub off_pivot_above : whole (pos 0) <ℚ lines_number t.lines z (p.enter + 1)
    off_pivot_above =
        let line = (wz z is).within_bound.pivot in
        let there = (wz z is).within_bound.there in
        let above = (sign_off t w z is line there p.enter).1 entry_above in
        subst (λ x. whole (pos 0) <ℚ x) (sym (at_line t.lines z line there (p.enter + 1))) (above_number (whole_at (wholes line) (p.enter + 1)) line.denominator ((wz z is).are_lines z line there).0.positive above)

    pub entry_some : entry_at d z p.enter ≢ whole (pos 0)
    entry_some = ≢-zero_above (entry_at d z p.enter) entry_above

    -- before the line is raised: its number of variable 0 is not 0
    pub raise_some : (apart : k ≢ z) (mid swap : List Line) → AreExchangedWithin t.bound (p.enter + 1) z k t.lines mid → AreSwapped z k mid swap → (x : Line) → slice_get swap z ≡ Some x → whole_at (wholes x) 1 ≢ pos 0
    raise_some apart mid swap h s x at none =
        let stays : basic_at d k ≢ 0 = λ zero_is. apart (w.proper.distinct k z 0 (basic_there ∙ ap Some zero_is) (z_at z is)) in
        let a = above d kept p.enter z (off_above z is) entry_some k apart stays pivot_there in
        let made_is : swapped (turned_at kept (p.enter + 1) z) z k z 1 ≡ line_number x 1 =
        swapped_first (turned_at kept (p.enter + 1) z) z k 1 ∙ sym (turned_numbers t.bound (p.enter + 1) z k (length t.basic) t.lines mid w.paired (z_in z is) h k 1)
        ∙ ap (λ r. lines_number mid r 1) (row_within (length t.basic) k k_in) ∙ ap (λ o. number_or_none o 1) (sym s.first ∙ at) in
        a.some (made_is ∙ ap (λ n. ratio n x.denominator) none ∙ ratio_none x.denominator)

    pub swapped_are : (mid swap : List Line) → AreExchangedWithin t.bound (p.enter + 1) z k t.lines mid → AreSwapped z k mid swap → AreLines (t.variables + 2) swap
    swapped_are mid swap h s i l at =
        let are = turned_are t.bound (p.enter + 1) z k (length t.basic) t.lines mid w.paired (z_in z is) h (t.variables + 2) w.are_whole.are_lines in
        elim (cases_eq i z) [
          | inl at_z ↦ are k l (sym s.first ∙ subst (λ j. slice_get swap j ≡ Some l) at_z at)
          | inr not_z ↦
              elim (cases_eq i k) [
                | inl at_k ↦ are z l (sym s.second ∙ subst (λ j. slice_get swap j ≡ Some l) at_k at)
                | inr not_k ↦ are i l (sym (s.others i not_z not_k) ∙ at)
              ]
        ]
