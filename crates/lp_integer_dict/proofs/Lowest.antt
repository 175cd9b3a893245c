-- A row in lowest terms.
use Rattle.std.proofs.Common.{◌≡◌, ℕ, ◌*◌, ◌/◌, ◌<◌, ◌≤◌, inl, inr, ℤ, pos, ◌-ℤ◌, ◌*ℤ◌, nat_abs, int_div, cond, List, length, Option, Some, None, refl, sym, ap, ap₂, ◌∙◌, subst, arith, mul_comm}
use Rattle.std.specs.Prelude.{slice_get}
use Rattle.std.specs.Int.{◌∣◌}
use Rattle.std.proofs.lemmas.Bool.{cases_eq, cases_lt, eq-eqb, ne_eqb}
use Rattle.std.proofs.Math.Nat.{div-mul_cancel, div-le_of_le-mul, dvd-mul_right, dvd-zero, dvd_of_mul-dvd-mul_right, eq-one_of_dvd-one, le-div_iff_mul-le, mul-dvd-mul_right, mul-le-mul_right, one-mul, pos_of_dvd_of_pos}
use Rattle.gq_number.specs.Number.{ratio}
use Rattle.gq_number.proofs.Naming.{ratio-times}
use Rattle.gq_number.proofs.Whole.{nat_abs-*ℤ, int_div-*ℤ}
use Rattle.lp_integers.proofs.Lines.{whole_past}
use Rattle.lp_integers.proofs.Places.{times_none}
use Rattle.lp_integer_rows.specs.declared.line.Line.{Line}
use Rattle.lp_integer_dict.specs.declared.pairs.Measure.{Measure}
use Rattle.lp_integer_rows.specs.Form.{wholes, lines_number, numbers_above, AreLines}
use Rattle.lp_integer_dict.specs.WithinBound.{AreWhole, whole_or_zero, line_denominator, row_number}
use Rattle.lp_integer_dict.specs.Pairs.{IsLowestRow}
use Rattle.lp_integer_dict.proofs.Pairing.{IsRow, rows_are}

-- past the last column a row has 0
line_past : (width c : ℕ) (lines : List Line) (i : ℕ) → AreLines width lines → width ≤ c → whole_or_zero (slice_get lines i) c ≡ pos 0
line_past width c lines i are past = at (slice_get lines i) refl
  where
    at : (o : Option Line) → slice_get lines i ≡ o → whole_or_zero o c ≡ pos 0
    at None is = refl
    at (Some l) is = let wide = (are i l is).1 in whole_past (wholes l) c (omega arith)

crossed_none : (a b x y : ℤ) → x ≡ pos 0 → y ≡ pos 0 → a *ℤ x -ℤ b *ℤ y ≡ pos 0
crossed_none a b x y x_is y_is = ap₂ (λ s t. a *ℤ s -ℤ b *ℤ t) x_is y_is ∙ ap₂ (λ s t. s -ℤ t) (times_none a) (times_none b)

pub row_past : (lines : List Line) (o : Option ℕ) (width i c : ℕ) → AreLines width lines → width ≤ c → row_number o lines i c ≡ pos 0
row_past lines None width i c are past = line_past width c lines i are past
row_past lines (Some k) width i c are past =
    elim (cases_eq i k) [
      | inl same ↦
          ap (λ b. cond b (whole_or_zero (slice_get lines k) c) (whole_or_zero (slice_get lines k) 1 *ℤ whole_or_zero (slice_get lines i) c -ℤ whole_or_zero (slice_get lines i) 1 *ℤ whole_or_zero (slice_get lines k) c)) (eq-eqb i k same)
          ∙ line_past width c lines k are past
      | inr other ↦
          ap (λ b. cond b (whole_or_zero (slice_get lines k) c) (whole_or_zero (slice_get lines k) 1 *ℤ whole_or_zero (slice_get lines i) c -ℤ whole_or_zero (slice_get lines i) 1 *ℤ whole_or_zero (slice_get lines k) c)) (ne_eqb i k other)
          ∙ crossed_none (whole_or_zero (slice_get lines k) 1) (whole_or_zero (slice_get lines i) 1) (whole_or_zero (slice_get lines i) c) (whole_or_zero (slice_get lines k) c) (line_past width c lines i are past) (line_past width c lines k are past)
    ]

-- What is reckoned of a row: the greatest divisor of all its parts, and their greatest magnitude.
pub record IsReckoned (lines : List Line) (o : Option ℕ) (width i g most : ℕ) : Type 0 where
  pub positive : 0 < g
  pub of_denominator : g ∣ line_denominator o lines i
  pub of_numbers : (c : ℕ) → c < width → g ∣ nat_abs (row_number o lines i c)
  pub greatest : (d : ℕ) → d ∣ line_denominator o lines i → ((c : ℕ) → c < width → d ∣ nat_abs (row_number o lines i c)) → d ∣ g
  pub low : line_denominator o lines i ≤ most
  pub within : (c : ℕ) → c < width → nat_abs (row_number o lines i c) ≤ most
  pub least : (b : ℕ) → line_denominator o lines i ≤ b → ((c : ℕ) → c < width → nat_abs (row_number o lines i c) ≤ b) → most ≤ b

module _ (lines : List Line) (o : Option ℕ) (width bound i column g top : ℕ) (w : AreWhole lines o width bound) (inside : i < length lines) (h : IsReckoned lines o width i g top) (m : Measure) (number_is : m.number *ℤ pos g ≡ row_number o lines i column) (most_is : m.most ≡ top / g) where
  abbrev low : ℕ
  low = line_denominator o lines i

  abbrev number : ℕ → ℤ
  number c = row_number o lines i c

  row : IsRow lines o bound i
  row = rows_are lines o width bound i w inside

  past : (c : ℕ) → width ≤ c → number c ≡ pos 0
  past c from = row_past lines o width i c w.are_lines from

  divides : (c : ℕ) → g ∣ nat_abs (number c)
  divides c = elim (cases_lt c width) [
    | inl less ↦ h.of_numbers c less
    | inr from ↦ subst (λ z. g ∣ nat_abs z) (sym (past c from)) (dvd-zero g)
  ]

  within : (c : ℕ) → nat_abs (number c) ≤ top
  within c = elim (cases_lt c width) [
    | inl less ↦ h.within c less
    | inr from ↦ subst (λ z. nat_abs z ≤ top) (sym (past c from)) (omega arith)
  ]

  abbrev over : ℕ
  over = low / g

  over_is : over * g ≡ low
  over_is = div-mul_cancel g h.of_denominator

  over_some : 0 < over
  over_some = pos_of_dvd_of_pos (subst (λ d. over ∣ d) over_is (dvd-mul_right over g)) row.positive

  abbrev part : ℕ → ℤ
  part c = int_div (number c) (pos g)

  part_is : (c : ℕ) → part c *ℤ pos g ≡ number c
  part_is c = int_div-*ℤ (number c) g (divides c)

  -- a whole number over the denominator without the divisor
  divided : (n : ℤ) (c : ℕ) → n *ℤ pos g ≡ number c → ratio n over ≡ numbers_above o (lines_number lines) i c
  divided n c is = sym (ratio-times n over g over_some h.positive) ∙ ap₂ ratio (is ∙ sym (row.named c)) over_is ∙ row.number_is c

  magnitude : (n : ℤ) (c : ℕ) → n *ℤ pos g ≡ number c → nat_abs n * g ≡ nat_abs (number c)
  magnitude n c is = sym (nat_abs-*ℤ n (pos g)) ∙ ap nat_abs is

  below : (n : ℤ) (c : ℕ) → n *ℤ pos g ≡ number c → nat_abs n ≤ m.most
  below n c is = subst (λ t. nat_abs n ≤ t) (sym most_is) ((le-div_iff_mul-le h.positive).1 (subst (λ t. t ≤ top) (sym (magnitude n c is)) (within c)))

  pub lowest : IsLowestRow lines o i column m
  lowest =
      record {
        denominator = over;
        row = record {
          positive = over_some;
          low = subst (λ t. over ≤ t) (sym most_is) ((le-div_iff_mul-le h.positive).1 (subst (λ t. t ≤ top) (sym over_is) h.low));
          number_is = divided m.number column number_is;
          each = λ c. (part c, divided (part c) c (part_is c), below (part c) c (part_is c));
        };
        reduced = λ d of_over of_all.
            let all : d * g ∣ g =
            h.greatest (d * g) (subst (λ t. d * g ∣ t) over_is (mul-dvd-mul_right d of_over g))
            (λ c less. subst (λ t. d * g ∣ t) (magnitude (part c) c (part_is c)) (mul-dvd-mul_right d (of_all c (part c) (divided (part c) c (part_is c))) g)) in
            eq-one_of_dvd-one (dvd_of_mul-dvd-mul_right d h.positive (subst (λ t. d * g ∣ t) (sym (one-mul g)) all));
        least = λ b low_b all_b.
            let times : top ≤ b * g =
            h.least (b * g) (subst (λ t. t ≤ b * g) over_is (mul-le-mul_right g low_b))
            (λ c less. subst (λ t. t ≤ b * g) (magnitude (part c) c (part_is c)) (mul-le-mul_right g (all_b c (part c) (divided (part c) c (part_is c))))) in
            subst (λ t. t ≤ b) (sym most_is) (div-le_of_le-mul g (subst (λ t. top ≤ t) (mul_comm b g) times));
      }
