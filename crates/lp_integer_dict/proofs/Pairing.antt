-- Each step of an exchange fits if each row, together with the leaving variable's, stays within the
-- bound.
use Rattle.std.proofs.Common.{◌≡◌, ◌≢◌, ℕ, zero, suc, ◌+◌, ◌*◌, ◌<◌, ◌≤◌, inl, inr, true, false, true≢false, ℤ, pos, ◌-ℤ◌, ◌*ℤ◌, nat_abs, cond, List, length, Option, Some, None, refl, sym, ap, ap₂, ◌∙◌, subst, subst₂, arith, mul-pos}
use Rattle.std.specs.Prelude.{slice_get, MatchOption, IfSome, IsTrue, is_some}
use Rattle.std.specs.Ordering.{nat_cmp, ord_max}
use Rattle.std.proofs.lemmas.Bool.{cases_eq, eq-eqb, ne_eqb}
use Rattle.std.proofs.lemmas.Bool.Decides.{nat_tests}
use Rattle.std.proofs.Math.Nat.{mul-le-mul}
use Rattle.gq_number.specs.Number.{whole, ratio, ◌*ℚ◌, ◌/ℚ◌}
use Rattle.gq_number.proofs.Means.{Means}
use Rattle.gq_number.proofs.Naming.{times_one}
use Rattle.lp_core.specs.Dictionary.{Dictionary, entry_at}
use Rattle.lp_core.specs.Steps.{AllFit, product_fits, quotient_fits, difference_fits, exchange_steps}
use Rattle.lp_integer_rows.specs.declared.line.Line.{Line}
use Rattle.lp_integer_dict.specs.declared.pairs.Measure.{Measure}
use Rattle.lp_integers.specs.Lines.{whole_at}
use Rattle.lp_integer_rows.specs.Form.{wholes, lines_number, numbers_above, IsLine, AreFactors, AreBounded}
use Rattle.lp_integer_dict.specs.WithinBound.{AreWhole, most_or_one, denominator_or_one, zero_or_one, whole_or_zero, line_denominator, row_most, row_number}
use Rattle.lp_integer_dict.specs.Pairs.{IsPairWithin, PairExceeds, IsSomePairCrowded, IsMeasured, IsRowOver, IsLowestRow, IsRoomy, IsPairFit, ArePairsFit, rows_top}
use Rattle.lp_integer_dict.specs.Whole.{row_of, WholeTableau, integer_dictionary, IsWhole}
use Rattle.lp_integer_dict.proofs.BoundLemmas.{fits_by_means, pair_product, pair_difference}
use Rattle.lp_integer_rows.proofs.Lessening.{with_sign, with_sign_within, quotient_means}
use Rattle.lp_integer_rows.proofs.Plans.{some_at}
use Rattle.lp_integer_dict.proofs.Reading.{at_line, own_number_is, other_number_is, own_shared, other_shared, own_named, other_named, some_v, top_within, low_within}
use Rattle.lp_integer_dict.proofs.Steps.{exchange_fits, BothFit}
use Rattle.lp_integer_rows.proofs.Updating.{ratio_none}
use Rattle.lp_integer_dict.proofs.Wholes.{row_within, row_below, row_apart}

-- ---- the rows of what lines stand for

-- A row is whole numbers over one denominator, within a magnitude.
pub record IsRow (lines : List Line) (o : Option ℕ) (bound i : ℕ) : Type 0 where
  pub positive : 0 < line_denominator o lines i
  pub low : line_denominator o lines i ≤ row_most o lines i
  pub high : row_most o lines i ≤ bound
  pub number : ℕ → ℤ
  pub number_is : (c : ℕ) → ratio (number c) (line_denominator o lines i) ≡ numbers_above o (lines_number lines) i c
  pub named : (c : ℕ) → number c ≡ row_number o lines i c
  pub within : (c : ℕ) → nat_abs (number c) ≤ row_most o lines i

-- nothing is deferred
plain_row : (lines : List Line) (width bound i : ℕ) → AreWhole lines None width bound → i < length lines → IsRow lines None bound i
plain_row lines width bound i w less =
    let l = some_at lines i less in
    let of_line : IsLine l.0 = (w.are_lines i l.0 l.1).0 in
    let low_is : denominator_or_one (slice_get lines i) ≡ l.0.denominator = ap denominator_or_one l.1 in
    let most_is : most_or_one (slice_get lines i) ≡ l.0.most = ap most_or_one l.1 in
    record {
      positive = subst (λ d. 0 < d) (sym low_is) of_line.positive;
      low = subst₂ (λ d m. d ≤ m) (sym low_is) (sym most_is) of_line.denominator_within;
      high = subst (λ m. m ≤ bound) (sym most_is) (w.within_bound i l.0 l.1);
      number = λ c. whole_at (wholes l.0) c;
      number_is = λ c. ap (ratio (whole_at (wholes l.0) c)) low_is ∙ sym (at_line lines i l.0 l.1 c);
      named = λ c. sym (ap (λ o. whole_or_zero o c) l.1);
      within = λ c. subst (λ m. nat_abs (whole_at (wholes l.0) c) ≤ m) (sym most_is) (of_line.numbers_within c);
    }

module _ (lines : List Line) (k width bound : ℕ) (w : AreWhole lines (Some k) width bound) where
  abbrev p : Line
  p = w.within_bound.pivot

  abbrev u : ℕ
  u = nat_abs (whole_at (wholes p) 1)

  of_pivot : IsLine p
  of_pivot = (w.are_lines k p w.within_bound.there).0

  own_most : row_most (Some k) lines k ≡ p.most
  own_most =
      ap (λ b. cond b (most_or_one (slice_get lines k)) (most_or_one (slice_get lines k) * zero_or_one (slice_get lines k) + zero_or_one (slice_get lines k) * most_or_one (slice_get lines k))) (eq-eqb k k refl)
      ∙ ap most_or_one w.within_bound.there

  own_row : IsRow lines (Some k) bound k
  own_row =
      let low_is : u ≡ line_denominator (Some k) lines k = own_shared lines k width bound w in
      record {
        positive = subst (λ d. 0 < d) low_is (some_v lines k width bound w);
        low = subst₂ (λ d m. d ≤ m) low_is (sym own_most) (of_pivot.numbers_within 1);
        high = subst (λ m. m ≤ bound) (sym own_most) w.within_bound.within_bound.own;
        number = λ c. whole_at (wholes p) c;
        number_is = λ c. ap (ratio (whole_at (wholes p) c)) (sym low_is) ∙ own_number_is lines k width bound w c;
        named = λ c. own_named lines k width bound w c;
        within = λ c. subst (λ m. nat_abs (whole_at (wholes p) c) ≤ m) (sym own_most) (of_pivot.numbers_within c);
      }

  module _ (i : ℕ) (l : Line) (other : i ≢ k) (there : slice_get lines i ≡ Some l) where
    of_line : IsLine l
    of_line = (w.are_lines i l there).0

    other_most : row_most (Some k) lines i ≡ l.most * u + nat_abs (whole_at (wholes l) 1) * p.most
    other_most =
        ap (λ b. cond b (most_or_one (slice_get lines k)) (most_or_one (slice_get lines i) * zero_or_one (slice_get lines k) + zero_or_one (slice_get lines i) * most_or_one (slice_get lines k))) (ne_eqb i k other)
        ∙ ap₂ (λ x y. most_or_one x * zero_or_one y + zero_or_one x * most_or_one y) there w.within_bound.there

    other_row : IsRow lines (Some k) bound i
    other_row =
        let low_is : u * l.denominator ≡ line_denominator (Some k) lines i = other_shared lines k width bound w i l other there in
        record {
          positive = subst (λ d. 0 < d) low_is (mul-pos (some_v lines k width bound w) of_line.positive);
          low = subst₂ (λ d m. d ≤ m) low_is (sym other_most) (low_within l p of_line of_pivot);
          high = subst (λ m. m ≤ bound) (sym other_most) (w.within_bound.within_bound.others i l other there);
          number = λ c. whole_at (wholes p) 1 *ℤ whole_at (wholes l) c -ℤ whole_at (wholes l) 1 *ℤ whole_at (wholes p) c;
          number_is = λ c.
              ap (ratio (whole_at (wholes p) 1 *ℤ whole_at (wholes l) c -ℤ whole_at (wholes l) 1 *ℤ whole_at (wholes p) c)) (sym low_is)
              ∙ other_number_is lines k width bound w i c l other there;
          named = λ c. other_named lines k width bound w i c l other there;
          within = λ c. subst (λ m. nat_abs (whole_at (wholes p) 1 *ℤ whole_at (wholes l) c -ℤ whole_at (wholes l) 1 *ℤ whole_at (wholes p) c) ≤ m) (sym other_most) (top_within l p of_line of_pivot c);
        }

pub rows_are : (lines : List Line) (o : Option ℕ) (width bound i : ℕ) → AreWhole lines o width bound → i < length lines → IsRow lines o bound i
rows_are lines None width bound i w less = plain_row lines width bound i w less
rows_are lines (Some k) width bound i w less = elim (cases_eq i k) [
  | inl same ↦ subst (λ j. IsRow lines (Some k) bound j) (sym same) (own_row lines k width bound w)
  | inr other ↦ let l = some_at lines i less in other_row lines k width bound w i l.0 other l.1
]

-- ---- what the code measures

pub most_plain : (lines : List Line) (o : Option ℕ) (i : ℕ) (l : Line) → o ≡ None → slice_get lines i ≡ Some l → l.most ≡ row_most o lines i
most_plain lines o i l is there = sym (ap most_or_one there) ∙ sym (ap (λ t. row_most t lines i) is)

pub most_own : (lines : List Line) (o : Option ℕ) (k i : ℕ) (p : Line) → o ≡ Some k → i ≡ k → slice_get lines k ≡ Some p → p.most ≡ row_most o lines i
most_own lines o k i p is same there =
    sym (ap most_or_one there)
    ∙ sym (ap (λ b. cond b (most_or_one (slice_get lines k)) (most_or_one (slice_get lines i) * zero_or_one (slice_get lines k) + zero_or_one (slice_get lines i) * most_or_one (slice_get lines k))) (eq-eqb i k same))
    ∙ sym (ap (λ t. row_most t lines i) is)

pub most_other : (lines : List Line) (o : Option ℕ) (k i : ℕ) (l p : Line) → o ≡ Some k → i ≢ k → slice_get lines i ≡ Some l → slice_get lines k ≡ Some p → l.most * nat_abs (whole_at (wholes p) 1) + nat_abs (whole_at (wholes l) 1) * p.most ≡ row_most o lines i
most_other lines o k i l p is other there at =
    sym (ap₂ (λ x y. most_or_one x * zero_or_one y + zero_or_one x * most_or_one y) there at)
    ∙ sym (ap (λ b. cond b (most_or_one (slice_get lines k)) (most_or_one (slice_get lines i) * zero_or_one (slice_get lines k) + zero_or_one (slice_get lines i) * most_or_one (slice_get lines k))) (ne_eqb i k other))
    ∙ sym (ap (λ t. row_most t lines i) is)

-- a row as whole numbers over its denominator
row_at : (lines : List Line) (o : Option ℕ) (bound i column : ℕ) → (r : IsRow lines o bound i) → IsRowOver lines o i column (r.number column) (line_denominator o lines i) (row_most o lines i)
row_at lines o bound i column r =
    record { positive = r.positive; low = r.low; number_is = r.number_is column; each = λ c. (r.number c, r.number_is c, r.within c) }

measured_over : (lines : List Line) (o : Option ℕ) (bound i column : ℕ) (m : Measure) → IsRow lines o bound i → IsMeasured lines o i column m → IsRowOver lines o i column m.number (line_denominator o lines i) m.most
measured_over lines o bound i column m r is =
    record {
      positive = r.positive;
      low = subst (λ t. line_denominator o lines i ≤ t) (sym is.most) r.low;
      number_is = is.number;
      each = λ c. (r.number c, r.number_is c, subst (λ t. nat_abs (r.number c) ≤ t) (sym is.most) (r.within c));
    }

pub fit_of : (lines : List Line) (o : Option ℕ) (width bound leaving column i : ℕ) (row last : Measure) → AreWhole lines o width bound → i < length lines → leaving < length lines → IsMeasured lines o i column row → IsMeasured lines o leaving column last → IsPairWithin row.number last.number row.most last.most bound → IsPairFit lines o leaving column bound i
fit_of lines o width bound leaving column i row last w within also m k h =
    record {
      number = row.number;
      of_leaving = last.number;
      denominator = line_denominator o lines i;
      denominator_leaving = line_denominator o lines leaving;
      most = row.most;
      most_leaving = last.most;
      row = measured_over lines o bound i column row (rows_are lines o width bound i w within) m;
      row_leaving = measured_over lines o bound leaving column last (rows_are lines o width bound leaving w also) k;
      within_bound = h;
    }

pub lowest_fit : (lines : List Line) (o : Option ℕ) (leaving column bound i : ℕ) (row last : Measure) → IsLowestRow lines o i column row → IsLowestRow lines o leaving column last → IsPairWithin row.number last.number row.most last.most bound → IsPairFit lines o leaving column bound i
lowest_fit lines o leaving column bound i row last m k h =
    record {
      number = row.number;
      of_leaving = last.number;
      denominator = m.denominator;
      denominator_leaving = k.denominator;
      most = row.most;
      most_leaving = last.most;
      row = m.row;
      row_leaving = k.row;
      within_bound = h;
    }

pub crowded_of : (lines : List Line) (o : Option ℕ) (leaving column bound i : ℕ) (row last : Measure) → i < length lines → i ≢ leaving → IsLowestRow lines o i column row → IsLowestRow lines o leaving column last → PairExceeds row.number last.number row.most last.most bound → IsSomePairCrowded lines o leaving column bound
crowded_of lines o leaving column bound i row last within other m k h =
    record { at = i; within = within; other = other; row = row; row_leaving = last; row_is = m; leaving_is = k; no_bound = h }

pub fit_more : (lines : List Line) (o : Option ℕ) (leaving column bound n : ℕ) → ArePairsFit lines o leaving column bound n → (n ≢ leaving → IsPairFit lines o leaving column bound n) → ArePairsFit lines o leaving column bound (n + 1)
fit_more lines o leaving column bound n h here i less other = elim (cases_eq i n) [
  | inl same ↦ subst (IsPairFit lines o leaving column bound) (sym same) (here (λ e. other (same ∙ e)))
  | inr apart ↦ h i (omega arith) other
]

-- two rows stay within the bound by their integers as they are, without a common factor
pub bound_plain : (f p : ℤ) (most other bound : ℕ) → nat_abs p * most + nat_abs f * other ≤ bound → IsPairWithin f p most other bound
bound_plain f p most other bound within_bound =
    record { of_row = p; of_leaving = f; shared = 1; positive = omega arith; first = times_one p; second = times_one f; within_bound = within_bound }

pub bound_shared : (f p a b : ℤ) (most other bound : ℕ) → AreFactors f p a b → nat_abs a * most + nat_abs b * other ≤ bound → IsPairWithin f p most other bound
bound_shared f p a b most other bound h within_bound =
    record { of_row = a; of_leaving = b; shared = h.shared; positive = h.positive; first = h.first; second = h.second; within_bound = within_bound }

pub found_within : (o : Option ℕ) (n bound : ℕ) → MatchOption o (bound < n) (λ s. (s ≡ n) × (s ≤ bound)) → IsTrue (is_some o) → n ≤ bound
found_within None n bound h told = absurd (true≢false (sym told))
found_within (Some s) n bound h told = let e = h.0 in let f = h.1 in omega arith

pub found_past : (o : Option ℕ) (n bound : ℕ) → MatchOption o (bound < n) (λ s. (s ≡ n) × (s ≤ bound)) → is_some o ≡ false → bound < n
found_past None n bound h told = h
found_past (Some s) n bound h told = absurd (true≢false told)

pub first_most : (a b : ℕ) → a ≤ ord_max nat_cmp a b
first_most a b = grind (arith, nat_tests)

pub second_most : (a b : ℕ) → b ≤ ord_max nat_cmp a b
second_most a b = grind (arith, nat_tests)

-- by one magnitude for all lines
pub top_found : (o : Option ℕ) (n bound : ℕ) → MatchOption o (bound < n) (λ s. (s ≡ n) × (s ≤ bound)) → IfSome o (λ s. s ≡ n)
top_found None n bound h = tt
top_found (Some s) n bound h = h.0

below_square : (m n : ℕ) → m ≤ n → m ≤ n * n + n * n
below_square m zero less = omega arith
below_square m (suc n) less = omega arith

row_top : (lines : List Line) (o : Option ℕ) (width most top i : ℕ) → AreWhole lines o width most → AreBounded top lines → i < length lines → row_most o lines i ≤ rows_top o top
row_top lines None width most top i w h less = let l = some_at lines i less in subst (λ m. m ≤ top) (sym (ap most_or_one l.1)) (h i l.0 l.1)
row_top lines (Some k) width most top i w h less =
    let low_pivot : w.within_bound.pivot.most ≤ top = h k w.within_bound.pivot w.within_bound.there in
    elim (cases_eq i k) [
      | inl same ↦ subst (λ j. row_most (Some k) lines j ≤ top * top + top * top) (sym same) (subst (λ m. m ≤ top * top + top * top) (sym (own_most lines k width most w)) (below_square w.within_bound.pivot.most top low_pivot))
      | inr other ↦
          let l = some_at lines i less in
          let low : l.0.most ≤ top = h i l.0 l.1 in
          let of_l = (w.are_lines i l.0 l.1).0 in
          let of_p = (w.are_lines k w.within_bound.pivot w.within_bound.there).0 in
          let u_low = of_p.numbers_within 1 in
          let z_low = of_l.numbers_within 1 in
          let first : l.0.most * nat_abs (whole_at (wholes w.within_bound.pivot) 1) ≤ top * top = mul-le-mul low (omega arith) in
          let second : nat_abs (whole_at (wholes l.0) 1) * w.within_bound.pivot.most ≤ top * top = mul-le-mul (omega arith) low_pivot in
          subst (λ m. m ≤ top * top + top * top) (sym (other_most lines k width most w i l.0 other l.1)) (omega arith)
    ]

pub lines_roomy : (lines : List Line) (o : Option ℕ) (width most bound top : ℕ) → AreWhole lines o width most → AreBounded top lines → rows_top o top * rows_top o top + rows_top o top * rows_top o top ≤ bound → IsRoomy lines o bound
lines_roomy lines o width most bound top w h square = record { top = rows_top o top; rows = λ i less. row_top lines o width most top i w h less; square = square }

-- by one magnitude for all rows
pub roomy_fits : (lines : List Line) (o : Option ℕ) (width bound leaving column : ℕ) → AreWhole lines o width bound → leaving < length lines → IsRoomy lines o bound → ArePairsFit lines o leaving column bound (length lines)
roomy_fits lines o width bound leaving column w within h i less other =
    let row = rows_are lines o width bound i w less in
    let last = rows_are lines o width bound leaving w within in
    let high = h.rows i less in
    let high_last = h.rows leaving within in
    let top = row.within column in
    let top_last = last.within column in
    let first : nat_abs (last.number column) * row_most o lines i ≤ h.top * h.top = mul-le-mul (let e = top_last in omega arith) high in
    let second : nat_abs (row.number column) * row_most o lines leaving ≤ h.top * h.top = mul-le-mul (let e = top in omega arith) high_last in
    let square = h.square in
    record {
      number = row.number column;
      of_leaving = last.number column;
      denominator = line_denominator o lines i;
      denominator_leaving = line_denominator o lines leaving;
      most = row_most o lines i;
      most_leaving = row_most o lines leaving;
      row = row_at lines o bound i column row;
      row_leaving = row_at lines o bound leaving column last;
      within_bound = bound_plain (row.number column) (last.number column) (row_most o lines i) (row_most o lines leaving) bound (omega arith);
    }

-- ---- the steps of an exchange

wider : {f p : ℤ} {most other bound limit : ℕ} → bound ≤ limit → IsPairWithin f p most other bound → IsPairWithin f p most other limit
wider more h =
    record {
      of_row = h.of_row;
      of_leaving = h.of_leaving;
      shared = h.shared;
      positive = h.positive;
      first = h.first;
      second = h.second;
      within_bound = let low = h.within_bound in omega arith;
    }

module _ (t : WholeTableau) (w : IsWhole t) (q k : ℕ) (less : k < length t.basic) (some : entry_at (integer_dictionary t) k q ≢ whole (pos 0)) (h : ArePairsFit t.lines t.deferred k (q + 1) t.bound (length t.lines)) (limit pivot : ℕ) (within_bound : t.bound ≤ limit) where
  abbrev d : Dictionary
  d = integer_dictionary t

  abbrev low : ℕ → ℕ
  low i = line_denominator t.deferred t.lines i

  abbrev at : ℕ → ℕ
  at i = row_of (length t.basic) i

  at_within : (i : ℕ) → at i < length t.lines
  at_within i = let e = w.paired in let f = row_below (length t.basic) i in omega arith

  leaving : IsRow t.lines t.deferred t.bound k
  leaving = rows_are t.lines t.deferred (t.variables + 2) t.bound k w.are_whole (let e = w.paired in omega arith)

  own_number : (c : ℕ) → numbers_above t.deferred (lines_number t.lines) k c ≡ d.numbers k c
  own_number c = ap (λ r. numbers_above t.deferred (lines_number t.lines) r c) (sym (row_within (length t.basic) k less))

  leaving_is : (c : ℕ) → ratio (leaving.number c) (low k) ≡ d.numbers k c
  leaving_is c = leaving.number_is c ∙ own_number c

  not_zero : (p : ℤ) (m : ℕ) → ratio p m ≡ d.numbers k (q + 1) → p ≢ pos 0
  not_zero p m is none = some (sym is ∙ ap (λ z. ratio z m) none ∙ ratio_none m)

  quotient : (c : ℕ) → quotient_fits limit (d.numbers k c) (entry_at d k q) ≡ true
  quotient c =
      let n : ℤ = leaving.number c in
      let p : ℤ = leaving.number (q + 1) in
      let means : Means (d.numbers k c /ℚ d.numbers k (q + 1)) (with_sign p n) (nat_abs p) =
      subst₂ (λ x y. Means (x /ℚ y) (with_sign p n) (nat_abs p)) (leaving_is c) (leaving_is (q + 1)) (quotient_means n p (low k) leaving.positive (not_zero p (low k) (leaving_is (q + 1)))) in
      let top = leaving.within c in
      let below = leaving.within (q + 1) in
      let high = leaving.high in
      let signed = with_sign_within p n in
      fits_by_means limit means (omega arith) (omega arith)

  others : (i : ℕ) → i ≢ k → (c : ℕ) → BothFit limit pivot d q k i c
  others i other c =
      let fit = h (at i) (at_within i) (row_apart (length t.basic) i k less other) in
      let x = fit.row.each c in
      let y = fit.row_leaving.each c in
      let f : ℤ = fit.number in
      let p : ℤ = fit.of_leaving in
      let y_is : ratio y.0 fit.denominator_leaving ≡ d.numbers k c = y.1 ∙ own_number c in
      let p_is : ratio p fit.denominator_leaving ≡ d.numbers k (q + 1) = fit.row_leaving.number_is ∙ own_number (q + 1) in
      let both = wider within_bound fit.within_bound in (
        subst (λ e. product_fits limit e (d.numbers k c /ℚ d.numbers k (q + 1)) ≡ true) fit.row.number_is
            (subst₂ (λ s z. product_fits limit (ratio f fit.denominator) (s /ℚ z) ≡ true) y_is p_is
            (pair_product limit x.0 y.0 f p fit.denominator fit.denominator_leaving fit.most fit.most_leaving fit.row.positive fit.row_leaving.positive (not_zero p fit.denominator_leaving p_is) x.2 fit.row.low y.2 both)),
        subst₂ (λ v e. difference_fits limit v (e *ℚ (d.numbers k c /ℚ d.numbers k (q + 1))) ≡ true) x.1 fit.row.number_is
            (subst₂ (λ s z. difference_fits limit (ratio x.0 fit.denominator) (ratio f fit.denominator *ℚ (s /ℚ z)) ≡ true) y_is p_is
            (pair_difference limit x.0 y.0 f p fit.denominator fit.denominator_leaving fit.most fit.most_leaving fit.row.positive fit.row_leaving.positive (not_zero p fit.denominator_leaving p_is) x.2 fit.row.low y.2 both)),
      )

  pub steps_fit : AllFit (exchange_steps limit pivot d q k)
  steps_fit = exchange_fits limit pivot d q k quotient others
