-- The factors of an exchange, and what a line becomes in it.
use Rattle.std.proofs.Common.{◌≡◌, ◌⊎◌, ℕ, zero, suc, ◌*◌, ◌/◌, ◌<◌, ◌≤◌, ◌^◌, inl, inr, ℤ, pos, negsuc, ◌-ℤ◌, ◌*ℤ◌, neg_ℤ, ◌<ℤ◌, nat_abs, int_div, length, FitsSigned, to_z, of_z, sym, refl, ap, ap₂, ◌∙◌, subst, arith, mul-pos, mul_comm, mul-one, ◌+◌}
use Rattle.std.specs.Int.{◌∣◌, w128}
use Rattle.std.proofs.lemmas.Int.{ints, to_z-of_z, to_z_pos, quot_fits}
use Rattle.std.proofs.lemmas.Nat.Gcd.{le_of_dvd}
use Rattle.std.proofs.lemmas.Bool.{cases_lt}
use Rattle.std.proofs.Math.Nat.{div-mul_cancel, dvd-mul_right, pos_of_dvd_of_pos, le-div_iff_mul-le, div-le_self, mul-le-mul_left, mul-le-mul_right, mul-dvd-mul_right, dvd_of_mul-dvd-mul_right, eq-one_of_dvd-one, one-mul}
use Rattle.gq_number.specs.Gcd.{gcd}
use Rattle.gq_number.specs.Number.{Number, whole, ratio, ◌-ℚ◌, ◌*ℚ◌, ◌/ℚ◌}
use Rattle.gq_number.proofs.Gcd.{gcd_pos, gcd-dvd_left, gcd-dvd_right, gcd_comm, gcd-zero}
use Rattle.gq_number.proofs.Whole.{nat_abs-*ℤ, int_div-*ℤ}
use Rattle.gq_number.proofs.Naming.{ratio-times, ratio_is, times_one}
use Rattle.gq_number.proofs.Quotients.{zero-/ℚ}
use Rattle.gq_number.proofs.Ring.{ring_ℚ}
use Rattle.lp_integer_rows.specs.declared.line.Line.{Line}
use Rattle.lp_integer_rows.specs.declared.line.Factors.{Factors}
use Rattle.lp_integers.specs.Lines.{whole_at, AreWithin, AreDivided}
use Rattle.lp_integer_rows.specs.Marks.{IsClear, AreMarked, AreLeading}
use Rattle.lp_integer_rows.specs.Form.{wholes, line_number, IsLine, AreFactors, IsPlanned, IsWithinFactors, IsLessenedLine, IsSameLine, IsDividedLine, IsReducedLine, IsLowest, own_factors}
use Rattle.lp_integers.proofs.Lines.{whole_past}
use Rattle.lp_integers.proofs.Places.{one_time, one_times, times_none, less_none}
use Rattle.lp_integer_rows.proofs.Lessening.{lessened, divided_line}

-- ---- the factors

-- a divisor that two numbers share, the second of them above 0
pub record IsShared (f p : ℤ) (g : ℕ) : Type 0 where
  pub positive : 0 < g
  pub small : g < 2 ^ 127
  pub first : g ∣ nat_abs f
  pub second : g ∣ nat_abs p

pub shared_is : (f p : ℤ) (g : ℕ) → FitsSigned w128 p → pos 0 <ℤ p → g ≡ gcd (nat_abs f) (nat_abs p) → IsShared f p g
shared_is f p g fits above is =
    let some : 0 < nat_abs p = omega (arith, ints) in
    let small : nat_abs p < 2 ^ 127 = omega (arith, ints, fits.sfits) in
    let inside : g ∣ nat_abs p = subst (λ d. d ∣ nat_abs p) (sym is) (gcd-dvd_right (nat_abs f) (nat_abs p)) in
    let most : g ≤ nat_abs p = le_of_dvd some inside in
    record {
      positive = subst (λ d. 0 < d) (sym is) (gcd_pos (nat_abs f) (nat_abs p) some);
      small = omega arith;
      first = subst (λ d. d ∣ nat_abs f) (sym is) (gcd-dvd_left (nat_abs f) (nat_abs p));
      second = inside;
    }

-- what the code's quotient by a divisor is
pub record IsDividedBy (n : ℤ) (g : ℕ) : Type 0 where
  pub fits : FitsSigned w128 (int_div (to_z w128 (of_z w128 n)) (to_z w128 g))
  pub value : to_z w128 (of_z w128 (int_div (to_z w128 (of_z w128 n)) (to_z w128 g))) *ℤ pos g ≡ n

pub divided_by : (n : ℤ) (g : ℕ) → FitsSigned w128 n → 0 < g → g < 2 ^ 127 → g ∣ nat_abs n → IsDividedBy n g
divided_by n g fits positive small divides =
    let g_is : to_z w128 g ≡ pos g = to_z_pos w128 g small in
    let n_is : to_z w128 (of_z w128 n) ≡ n = to_z-of_z w128 n fits in
    let quotient : FitsSigned w128 (int_div n (pos g)) = quot_fits w128 n (pos g) fits (omega (arith, ints)) in
    let same : int_div (to_z w128 (of_z w128 n)) (to_z w128 g) ≡ int_div n (pos g) = ap₂ int_div n_is g_is in
    record {
      fits = subst (λ z. FitsSigned w128 z) (sym same) quotient;
      value = ap (λ z. to_z w128 (of_z w128 z) *ℤ pos g) same ∙ ap (λ z. z *ℤ pos g) (to_z-of_z w128 (int_div n (pos g)) quotient) ∙ int_div-*ℤ n g divides;
    }

none_times : (g : ℕ) → 0 ≡ 0 * g
none_times g = omega arith

pub above_factor : (a p : ℤ) (g : ℕ) → 0 < g → a *ℤ pos g ≡ p → pos 0 <ℤ p → pos 0 <ℤ a
above_factor (pos zero) p g positive e above = absurd (let f : pos 0 ≡ p = ap pos (none_times g) ∙ e in omega (arith, ints))
above_factor (pos (suc k)) p g positive e above = omega (arith, ints)
above_factor (negsuc k) p g positive e above = absurd (let f : neg_ℤ (pos (suc k * g)) ≡ p = e in omega (arith, ints))

-- two numbers that share nothing are their own factors
pub once_factors : (f p : ℤ) → pos 0 <ℤ p → 1 ≡ gcd (nat_abs f) (nat_abs p) → AreFactors f p p f
once_factors f p above is = record { shared = 1; greatest = is; positive = omega arith; above = above; first = times_one p; second = times_one f }

-- ---- the line

none_left : (a b : ℤ) → pos 0 ≡ a *ℤ pos 0 -ℤ b *ℤ pos 0
none_left a b = sym (ap₂ (λ x y. x -ℤ y) (times_none a) (times_none b))

-- the whole numbers of a line after its update
pub record IsUpdated (before pivot after : Line) (a b : ℤ) : Type 0 where
  pub sized : length (wholes after) ≡ length (wholes before)
  pub numbers : (c : ℕ) → c < length (wholes before) → whole_at (wholes after) c ≡ a *ℤ whole_at (wholes before) c -ℤ b *ℤ whole_at (wholes pivot) c
  pub denominator : after.denominator ≡ before.denominator * nat_abs a
  pub numbers_within : AreWithin (wholes after) after.most
  pub denominator_within : after.denominator ≤ after.most
  pub most : after.most ≤ nat_abs a * before.most + nat_abs b * pivot.most
  pub small : after.most < 2 ^ 127
  pub marks : (c : ℕ) → IsClear after.marks c → IsClear before.marks c × IsClear pivot.marks c
  pub leading : AreLeading (wholes after) after.leading

pub same_le : {x y : ℕ} → x ≡ y → x ≤ y
same_le is = omega arith

none_below : (x y : ℤ) → nat_abs x ≤ nat_abs y → y ≡ pos 0 → x ≡ pos 0
none_below x y low none = omega (arith, ints)

-- the marks of a line serve for numbers of no greater magnitude
pub marked_below : (before after : Line) → IsLine before → after.marks ≡ before.marks → ((c : ℕ) → nat_abs (whole_at (wholes after) c) ≤ nat_abs (whole_at (wholes before) c)) → AreMarked (wholes after) after.marks
marked_below before after is marks low c clear =
    none_below (whole_at (wholes after) c) (whole_at (wholes before) c) (low c) (is.marked c (subst (λ m. IsClear m c) marks clear))

le_times : (n g : ℕ) → 0 < g → n ≤ n * g
le_times n g some =
    let extended : n * 1 ≤ n * g = mul-le-mul_left n some in
    let one = mul-one n in
    omega arith

module _ (before pivot after : Line) (column : ℕ) (a b : ℤ) (f : Factors) (of_before : IsLine before) (of_pivot : IsLine pivot) (same_length : length (wholes pivot) ≡ length (wholes before)) (above : pos 0 <ℤ whole_at (wholes pivot) column) (factors : AreFactors (whole_at (wholes before) column) (whole_at (wholes pivot) column) a b) (u : IsUpdated before pivot after a b) (a_of : a ≡ f.line) (b_of : b ≡ f.pivot) (most_of : f.most ≡ nat_abs f.line * before.most + nat_abs f.pivot * pivot.most) where
  every_number : (c : ℕ) → whole_at (wholes after) c ≡ a *ℤ whole_at (wholes before) c -ℤ b *ℤ whole_at (wholes pivot) c
  every_number c =
      elim (cases_lt c (length (wholes before))) [
        | inl less ↦ u.numbers c less
        | inr past ↦
            whole_past (wholes after) c (let e = u.sized in omega arith) ∙ none_left a b
            ∙ sym (ap₂ (λ x y. a *ℤ x -ℤ b *ℤ y) (whole_past (wholes before) c past) (whole_past (wholes pivot) c (omega arith)))
      ]

  a_is : a ≡ pos (nat_abs a)
  a_is = let h = factors.above in omega (arith, ints)

  p_is : whole_at (wholes pivot) column ≡ pos (nat_abs (whole_at (wholes pivot) column))
  p_is = omega (arith, ints)

  some_a : 0 < nat_abs a
  some_a = let h = factors.above in omega (arith, ints)

  product_is : nat_abs (whole_at (wholes pivot) column) ≡ nat_abs a * factors.shared
  product_is = ap nat_abs (sym factors.first ∙ ap (λ z. z *ℤ pos factors.shared) a_is)

  numbers_after : (c : ℕ) → line_number after c ≡ line_number before c -ℚ line_number before column *ℚ (line_number pivot c /ℚ line_number pivot column)
  numbers_after c =
      ap₂ ratio (every_number c ∙ ap (λ z. z *ℤ whole_at (wholes before) c -ℤ b *ℤ whole_at (wholes pivot) c) a_is) (u.denominator ∙ mul_comm before.denominator (nat_abs a))
      ∙ lessened (whole_at (wholes before) c) (whole_at (wholes pivot) c) (whole_at (wholes before) column) b before.denominator pivot.denominator (nat_abs (whole_at (wholes pivot) column)) (nat_abs a) factors.shared of_before.positive of_pivot.positive some_a factors.positive product_is (sym factors.second)
      ∙ ap (λ p. line_number before c -ℚ line_number before column *ℚ (line_number pivot c /ℚ ratio p pivot.denominator)) (sym p_is)

  positive_after : 0 < after.denominator
  positive_after = subst (λ d. 0 < d) (sym u.denominator) (mul-pos of_before.positive some_a)

  within_factors : IsWithinFactors before pivot after f
  within_factors =
      record {
        most = subst (λ m. after.most ≤ m) (ap₂ (λ x y. nat_abs x * before.most + nat_abs y * pivot.most) a_of b_of ∙ sym most_of) u.most;
        magnitudes = λ c. same_le (ap nat_abs (every_number c ∙ ap₂ (λ x y. x *ℤ whole_at (wholes before) c -ℤ y *ℤ whole_at (wholes pivot) c) a_of b_of));
      }

  pub lessened_line : IsLessenedLine column before pivot after f
  lessened_line =
      record {
        is_line = record {
          positive = positive_after;
          numbers_within = u.numbers_within;
          denominator_within = u.denominator_within;
          small = u.small;
          marked = λ c clear. every_number c ∙ sym (none_left a b ∙ sym (ap₂ (λ x y. a *ℤ x -ℤ b *ℤ y) (of_before.marked c (u.marks c clear).0) (of_pivot.marked c (u.marks c clear).1)));
          leading = u.leading;
        };
        sized = u.sized;
        numbers = numbers_after;
        within = within_factors;
      }

-- ---- a line whose number at the column is 0 stays as it is

no_time : (n : ℕ) → 0 * n ≡ 0
no_time n = omega arith

pub zero_times : (z : ℤ) → pos 0 *ℤ z ≡ pos 0
zero_times (pos n) = ap pos (no_time n)
zero_times (negsuc n) = ap (λ m. neg_ℤ (pos m)) (no_time (suc n))

pub own_number : (z w : ℤ) → pos 1 *ℤ z -ℤ pos 0 *ℤ w ≡ z
own_number z w = ap₂ (λ x y. x -ℤ y) (one_times z) (zero_times w) ∙ less_none z

pub own_planned : (bound column : ℕ) (line pivot : Line) → whole_at (wholes line) column ≡ pos 0 → pos 0 <ℤ whole_at (wholes pivot) column → line.most ≤ bound → IsPlanned bound column line pivot (own_factors line)
own_planned bound column line pivot none above within =
    let p : ℤ = whole_at (wholes pivot) column in
    let size : ℕ = nat_abs p in
    let p_is : p ≡ pos size = omega (arith, ints) in
    record {
      factors = record {
        shared = size;
        greatest = sym (ap (λ z. gcd (nat_abs z) size) none ∙ gcd_comm 0 size ∙ gcd-zero size);
        positive = omega (arith, ints);
        above = omega (arith, ints);
        first = one_times (pos size) ∙ sym p_is;
        second = zero_times (pos size) ∙ sym none;
      };
      most = own_most line.most pivot.most;
      within = within;
    }
  where
    own_most : (m n : ℕ) → m ≡ 1 * m + 0 * n
    own_most m n = omega arith

-- a ratio of 0
pub ratio_none : (d : ℕ) → ratio (pos 0) d ≡ whole (pos 0)
ratio_none d = ratio_is (pos 0) d ∙ zero-/ℚ (whole (pos d))

less_no_multiple : (x y : Number) → x ≡ x -ℚ whole (pos 0) *ℚ y
less_no_multiple x y = simp ring_ℚ

most_grows : (a : ℤ) (m n : ℕ) → pos 0 <ℤ a → m ≤ nat_abs a * m + n
most_grows a m n above =
    let some : 1 ≤ nat_abs a = omega (arith, ints) in
    let extended : 1 * m ≤ nat_abs a * m = mul-le-mul_right m some in
    let one = one_time m in
    omega arith

module _ (bound column : ℕ) (line pivot : Line) (f : Factors) (of_line : IsLine line) (none : f.pivot ≡ pos 0) (p : IsPlanned bound column line pivot f) where
  number_none : whole_at (wholes line) column ≡ pos 0
  number_none = sym p.factors.second ∙ ap (λ z. z *ℤ pos p.factors.shared) none ∙ zero_times (pos p.factors.shared)

  magnitude_grows : (n x : ℤ) → nat_abs n ≤ nat_abs (f.line *ℤ n -ℤ f.pivot *ℤ x)
  magnitude_grows n x =
      let is : f.line *ℤ n -ℤ f.pivot *ℤ x ≡ f.line *ℤ n = ap (λ z. f.line *ℤ n -ℤ z) (ap (λ z. z *ℤ x) none ∙ zero_times x) ∙ less_none (f.line *ℤ n) in
      let extended = most_grows f.line (nat_abs n) 0 p.factors.above in
      subst (λ m. nat_abs n ≤ m) (sym (ap nat_abs is ∙ nat_abs-*ℤ f.line n)) (omega arith)

  pub untouched_line : IsLessenedLine column line pivot line f
  untouched_line =
      record {
        is_line = of_line;
        sized = refl;
        numbers = λ c.
            less_no_multiple (line_number line c) (line_number pivot c /ℚ line_number pivot column)
            ∙ ap (λ z. line_number line c -ℚ z *ℚ (line_number pivot c /ℚ line_number pivot column)) (sym (ap (λ z. ratio z line.denominator) number_none ∙ ratio_none line.denominator));
        within = record {
          most = subst (λ m. line.most ≤ m) (sym p.most) (most_grows f.line line.most (nat_abs f.pivot * pivot.most) p.factors.above);
          magnitudes = λ c. magnitude_grows (whole_at (wholes line) c) (whole_at (wholes pivot) c);
        };
      }

-- a line that is divided after its update
pub reduced_line : (column : ℕ) (before pivot mid after : Line) (f : Factors) → IsLessenedLine column before pivot mid f → IsSameLine mid after → IsLessenedLine column before pivot after f
reduced_line column before pivot mid after f l s =
    record {
      is_line = s.is_line;
      sized = s.sized ∙ l.sized;
      numbers = λ c. s.numbers c ∙ l.numbers c;
      within = record {
        most = let low = s.most in let high = l.within.most in omega arith;
        magnitudes = λ c. let low = s.magnitudes c in let high = l.within.magnitudes c in omega arith;
      };
    }

pub same_itself : (line : Line) → IsLine line → IsSameLine line line
same_itself line is =
    record { is_line = is; sized = refl; numbers = λ c. refl; most = same_le refl; magnitudes = λ c. same_le refl }

pub same_then : (before mid after : Line) → IsSameLine before mid → IsSameLine mid after → IsSameLine before after
same_then before mid after s t =
    record {
      is_line = t.is_line;
      sized = t.sized ∙ s.sized;
      numbers = λ c. t.numbers c ∙ s.numbers c;
      most = let low = t.most in let high = s.most in omega arith;
      magnitudes = λ c. let low = t.magnitudes c in let high = s.magnitudes c in omega arith;
    }

-- ---- a line divided by what its parts share

pub same_line : (before after : Line) (g : ℕ) → IsLine before → 0 < g → g ∣ before.denominator → length (wholes after) ≡ length (wholes before) → ((c : ℕ) → whole_at (wholes after) c *ℤ pos g ≡ whole_at (wholes before) c) → after.denominator ≡ before.denominator / g → after.most ≡ before.most / g → after.marks ≡ before.marks → AreLeading (wholes after) after.leading → IsSameLine before after
same_line before after g of_before positive divides sized numbers denominator_is most_is marks_is leading =
    let times : after.denominator * g ≡ before.denominator = ap (λ d. d * g) denominator_is ∙ div-mul_cancel g divides in
    let above : 0 < after.denominator = pos_of_dvd_of_pos (subst (λ d. after.denominator ∣ d) times (dvd-mul_right after.denominator g)) of_before.positive in
    let low : (c : ℕ) → nat_abs (whole_at (wholes after) c) ≤ nat_abs (whole_at (wholes before) c) =
    λ c.
    let extended = le_times (nat_abs (whole_at (wholes after) c)) g positive in
    let is : nat_abs (whole_at (wholes after) c) * g ≡ nat_abs (whole_at (wholes before) c) = sym (nat_abs-*ℤ (whole_at (wholes after) c) (pos g)) ∙ ap nat_abs (numbers c) in
    omega arith in
    record {
      is_line = record {
        positive = above;
        numbers_within = λ c. subst (λ m. nat_abs (whole_at (wholes after) c) ≤ m) (sym most_is) ((le-div_iff_mul-le positive).1 (subst (λ m. m ≤ before.most) (ap nat_abs (sym (numbers c)) ∙ nat_abs-*ℤ (whole_at (wholes after) c) (pos g)) (of_before.numbers_within c)));
        denominator_within = subst (λ m. after.denominator ≤ m) (sym most_is) ((le-div_iff_mul-le positive).1 (subst (λ m. m ≤ before.most) (sym times) of_before.denominator_within));
        small = let less = div-le_self before.most g in let most = of_before.small in omega arith;
        marked = marked_below before after of_before marks_is low;
        leading = leading;
      };
      sized = sized;
      numbers = λ c. sym (ratio-times (whole_at (wholes after) c) after.denominator g above positive) ∙ ap₂ ratio (numbers c) times;
      most = subst (λ m. m ≤ before.most) (sym most_is) (div-le_self before.most g);
      magnitudes = low;
    }

-- over the greatest divisor of all its parts it has no other
pub divided_reduced : (before after : Line) (g : ℕ) → 0 < g → g ∣ before.denominator → ((k : ℕ) → k ∣ before.denominator → AreDivided (wholes before) k → k ∣ g) → ((c : ℕ) → whole_at (wholes after) c *ℤ pos g ≡ whole_at (wholes before) c) → after.denominator ≡ before.denominator / g → IsReducedLine after
divided_reduced before after g positive divides greatest numbers denominator_is d of_denominator of_all =
    let times : after.denominator * g ≡ before.denominator = ap (λ m. m * g) denominator_is ∙ div-mul_cancel g divides in
    let all : d * g ∣ g =
    greatest (d * g) (subst (λ m. d * g ∣ m) times (mul-dvd-mul_right d of_denominator g))
    (λ c. subst (λ m. d * g ∣ m) (sym (nat_abs-*ℤ (whole_at (wholes after) c) (pos g)) ∙ ap nat_abs (numbers c)) (mul-dvd-mul_right d (of_all c) g)) in
    eq-one_of_dvd-one (dvd_of_mul-dvd-mul_right d positive (subst (λ m. d * g ∣ m) (sym (one-mul g)) all))

-- measured anew it is the same, and where nothing divides it in lowest terms
module _ (before line : Line) (same : IsSameLine before line) (greatest most : ℕ) (within : AreWithin (wholes line) greatest) (least : (m : ℕ) → AreWithin (wholes line) m → greatest ≤ m) (above : greatest ≤ most) (also : line.denominator ≤ most) (one : (most ≡ greatest) ⊎ (most ≡ line.denominator)) where
  abbrev measured : Line
  measured = record { numbers = line.numbers; denominator = line.denominator; most = most; marks = line.marks; leading = line.leading }

  no_more : (m : ℕ) → AreWithin (wholes line) m → line.denominator ≤ m → most ≤ m
  no_more m numbers denominator = elim one [
    | inl is ↦ subst (λ n. n ≤ m) (sym is) (least m numbers)
    | inr is ↦ subst (λ n. n ≤ m) (sym is) denominator
  ]

  kept_most : most ≤ line.most
  kept_most = no_more line.most same.is_line.numbers_within same.is_line.denominator_within

  pub measured_same : IsSameLine before measured
  measured_same =
      record {
        is_line = record {
          positive = same.is_line.positive;
          numbers_within = λ c. let low = within c in omega arith;
          denominator_within = also;
          small = let low = kept_most in let high = same.is_line.small in omega arith;
          marked = same.is_line.marked;
          leading = same.is_line.leading;
        };
        sized = same.sized;
        numbers = same.numbers;
        most = let low = kept_most in let high = same.most in omega arith;
        magnitudes = same.magnitudes;
      }

  pub measured_lowest : IsReducedLine line → IsLowest measured
  measured_lowest reduced = record { reduced = reduced; least = no_more }

-- ---- the pivot line

pub divided_by_pivot : (before after : Line) (column : ℕ) → IsLine before → pos 0 <ℤ whole_at (wholes before) column → wholes after ≡ wholes before → after.denominator ≡ nat_abs (whole_at (wholes before) column) → after.most ≡ before.most → after.marks ≡ before.marks → AreLeading (wholes after) after.leading → IsDividedLine column before after
divided_by_pivot before after column of_before above same denominator_is most_is marks_is leading =
    let p : ℤ = whole_at (wholes before) column in
    let p_is : p ≡ pos (nat_abs p) = omega (arith, ints) in
    let some : 0 < nat_abs p = omega (arith, ints) in
    record {
      is_line = record {
        positive = subst (λ d. 0 < d) (sym denominator_is) some;
        numbers_within = λ c. subst (λ m. nat_abs (whole_at (wholes after) c) ≤ m) (sym most_is) (subst (λ l. nat_abs (whole_at l c) ≤ before.most) (sym same) (of_before.numbers_within c));
        denominator_within = subst (λ m. after.denominator ≤ m) (sym most_is) (subst (λ d. d ≤ before.most) (sym denominator_is) (of_before.numbers_within column));
        small = subst (λ m. m < 2 ^ 127) (sym most_is) of_before.small;
        marked = marked_below before after of_before marks_is (λ c. same_le (ap (λ l. nat_abs (whole_at l c)) same));
        leading = leading;
      };
      sized = ap length same;
      numbers = λ c.
          ap₂ (λ l d. ratio (whole_at l c) d) same denominator_is
          ∙ sym (ap (λ q. ratio (whole_at (wholes before) c) before.denominator /ℚ ratio q before.denominator) p_is ∙ divided_line (whole_at (wholes before) c) (nat_abs p) before.denominator of_before.positive some);
      most = same_le most_is;
      magnitudes = λ c. same_le (ap (λ l. nat_abs (whole_at l c)) same);
    }
