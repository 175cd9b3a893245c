-- The numbers that stored rows mean when variable 0 is deferred.
use Rattle.std.proofs.Common.{◌≡◌, ◌≢◌, ℕ, ◌+◌, ◌*◌, ◌<◌, ◌≤◌, ◌^◌, ℤ, pos, ◌-ℤ◌, ◌*ℤ◌, ◌<ℤ◌, nat_abs, inl, inr, cond, List, length, Some, None, refl, sym, ap, ap₂, ◌∙◌, subst, subst₂, arith, mul_comm, mul-pos, mul-one}
use Rattle.std.specs.Prelude.{slice_get, slice_index_or, Option}
use Rattle.std.proofs.lemmas.Int.{ints}
use Rattle.std.proofs.lemmas.Bool.{cases_eq, eq-eqb, ne_eqb}
use Rattle.std.proofs.Math.Nat.{mul-le-mul_left}
use Rattle.gq_number.specs.Number.{whole, ratio, ◌-ℚ◌, ◌*ℚ◌, ◌/ℚ◌}
use Rattle.gq_number.specs.Order.{◌<ℚ◌}
use Rattle.gq_number.proofs.Naming.{times_one, ratio-one}
use Rattle.gq_number.proofs.Means.{ratio_means}
use Rattle.gq_number.proofs.Order
use Rattle.lp_integer_rows.specs.declared.line.Line.{Line}
use Rattle.lp_integers.specs.Lines.{whole_at}
use Rattle.lp_integer_rows.specs.Form.{wholes, line_number, number_or_none, lines_number, numbers_above, IsLine, AreBounded}
use Rattle.lp_integer_dict.specs.WithinBound.{RowsStayWithin, AreWhole, denominator_or_one, zero_or_one, whole_or_zero, line_denominator, row_number}
use Rattle.lp_integer_rows.proofs.Turning.{turned_row, turned_other}
use Rattle.lp_integer_rows.proofs.Lessening.{divided_line, lessened}
use Rattle.lp_integers.proofs.Lines.{left_within}
use Rattle.lp_integer_rows.proofs.Updating.{zero_times}
use Rattle.lp_integer_rows.proofs.Plans.{same_some, get_within, index_get}

-- ---- signs

pub number_above : (n : ℤ) (d : ℕ) → 0 < d → whole (pos 0) <ℚ ratio n d → pos 0 <ℤ n
number_above n d positive above =
    let h = Order.lt_means (ratio_means (pos 0) 1 (omega arith)) (ratio_means n d positive) (subst (λ x. x <ℚ ratio n d) (sym (ratio-one (pos 0))) above) in
    subst₂ (λ x y. x <ℤ y) (zero_times (pos d)) (times_one n) h

pub above_number : (n : ℤ) (d : ℕ) → 0 < d → pos 0 <ℤ n → whole (pos 0) <ℚ ratio n d
above_number n d positive above =
    subst (λ x. x <ℚ ratio n d) (ratio-one (pos 0))
    (Order.means_lt (ratio_means (pos 0) 1 (omega arith)) (ratio_means n d positive) (subst₂ (λ x y. x <ℤ y) (sym (zero_times (pos d))) (sym (times_one n)) above))

pub number_below : (n : ℤ) (d : ℕ) → 0 < d → ratio n d <ℚ whole (pos 0) → n <ℤ pos 0
number_below n d positive below =
    let h = Order.lt_means (ratio_means n d positive) (ratio_means (pos 0) 1 (omega arith)) (subst (λ x. ratio n d <ℚ x) (sym (ratio-one (pos 0))) below) in
    subst₂ (λ x y. x <ℤ y) (times_one n) (zero_times (pos d)) h

pub below_number : (n : ℤ) (d : ℕ) → 0 < d → n <ℤ pos 0 → ratio n d <ℚ whole (pos 0)
below_number n d positive below =
    subst (λ x. ratio n d <ℚ x) (ratio-one (pos 0))
    (Order.means_lt (ratio_means n d positive) (ratio_means (pos 0) 1 (omega arith)) (subst₂ (λ x y. x <ℤ y) (sym (times_one n)) (sym (zero_times (pos d))) below))

-- ---- lines

pub at_line : (lines : List Line) (i : ℕ) (l : Line) → slice_get lines i ≡ Some l → (c : ℕ) → lines_number lines i c ≡ line_number l c
at_line lines i l there c = ap (λ o. number_or_none o c) there

pub most_turned : (m u f q : ℕ) → m * u + f * q ≡ u * m + f * q
most_turned m u f q = ap (λ t. t + f * q) (mul_comm m u)

-- one line and that of the variable 0
module _ (l p : Line) (of_line : IsLine l) (of_pivot : IsLine p) where
  abbrev u : ℤ
  u = whole_at (wholes p) 1

  abbrev f : ℤ
  f = whole_at (wholes l) 1

  abbrev need : ℕ
  need = l.most * nat_abs u + nat_abs f * p.most

  pub steps_within : (c : ℕ) → nat_abs u * nat_abs (whole_at (wholes l) c) + nat_abs f * nat_abs (whole_at (wholes p) c) ≤ need
  steps_within c =
      let first : nat_abs u * nat_abs (whole_at (wholes l) c) ≤ nat_abs u * l.most = mul-le-mul_left (nat_abs u) (of_line.numbers_within c) in
      let second : nat_abs f * nat_abs (whole_at (wholes p) c) ≤ nat_abs f * p.most = mul-le-mul_left (nat_abs f) (of_pivot.numbers_within c) in
      let turned = mul_comm l.most (nat_abs u) in
      omega arith

  pub top_within : (c : ℕ) → nat_abs (u *ℤ whole_at (wholes l) c -ℤ f *ℤ whole_at (wholes p) c) ≤ need
  top_within c = left_within u f (whole_at (wholes l) c) (whole_at (wholes p) c) need (steps_within c)

  pub low_within : nat_abs u * l.denominator ≤ need
  low_within =
      let first : nat_abs u * l.denominator ≤ nat_abs u * l.most = mul-le-mul_left (nat_abs u) of_line.denominator_within in
      let turned = mul_comm l.most (nat_abs u) in
      omega arith

module _ (lines : List Line) (k width bound : ℕ) (w : AreWhole lines (Some k) width bound) where
  abbrev p : Line
  p = w.within_bound.pivot

  abbrev v : ℕ
  v = nat_abs (whole_at (wholes p) 1)

  of_pivot : IsLine p
  of_pivot = (w.are_lines k p w.within_bound.there).0

  v_is : whole_at (wholes p) 1 ≡ pos v
  v_is = let h = w.within_bound.above in omega (arith, ints)

  pub some_v : 0 < v
  some_v = let h = w.within_bound.above in omega (arith, ints)

  pub own_number_is : (c : ℕ) → ratio (whole_at (wholes p) c) v ≡ numbers_above (Some k) (lines_number lines) k c
  own_number_is c =
      sym (turned_row (lines_number lines) 1 k c ∙ ap₂ (λ x y. x /ℚ y) (at_line lines k p w.within_bound.there c) (at_line lines k p w.within_bound.there 1)
      ∙ ap (λ z. line_number p c /ℚ ratio z p.denominator) v_is ∙ divided_line (whole_at (wholes p) c) v p.denominator of_pivot.positive some_v)

  pub other_number_is : (i c : ℕ) (l : Line) → i ≢ k → slice_get lines i ≡ Some l → ratio (whole_at (wholes p) 1 *ℤ whole_at (wholes l) c -ℤ whole_at (wholes l) 1 *ℤ whole_at (wholes p) c) (v * l.denominator) ≡ numbers_above (Some k) (lines_number lines) i c
  other_number_is i c l other there =
      let n : ℤ = whole_at (wholes l) c in
      let x : ℤ = whole_at (wholes p) c in
      let f : ℤ = whole_at (wholes l) 1 in
      ap (λ z. ratio (z *ℤ n -ℤ f *ℤ x) (v * l.denominator)) v_is
      ∙ lessened n x f f l.denominator p.denominator v v 1 (w.are_lines i l there).0.positive of_pivot.positive some_v (omega arith) (sym (mul-one v)) (sym (times_one f))
      ∙ sym (turned_other (lines_number lines) 1 k i c other
      ∙ ap₂ (λ s t. s -ℚ t) (at_line lines i l there c)
      (ap₂ (λ s t. s *ℚ t) (at_line lines i l there 1) (ap₂ (λ s t. s /ℚ t) (at_line lines k p w.within_bound.there c) (at_line lines k p w.within_bound.there 1 ∙ ap (λ z. ratio z p.denominator) v_is))))

  pub own_shared : v ≡ line_denominator (Some k) lines k
  own_shared = sym (ap (λ b. cond b (zero_or_one (slice_get lines k)) (zero_or_one (slice_get lines k) * denominator_or_one (slice_get lines k))) (eq-eqb k k refl) ∙ ap zero_or_one w.within_bound.there)

  pub other_shared : (i : ℕ) (l : Line) → i ≢ k → slice_get lines i ≡ Some l → v * l.denominator ≡ line_denominator (Some k) lines i
  other_shared i l other there =
      sym (ap (λ b. cond b (zero_or_one (slice_get lines k)) (zero_or_one (slice_get lines k) * denominator_or_one (slice_get lines i))) (ne_eqb i k other) ∙ ap₂ (λ s t. s * t) (ap zero_or_one w.within_bound.there) (ap denominator_or_one there))

  pub own_named : (c : ℕ) → whole_at (wholes p) c ≡ row_number (Some k) lines k c
  own_named c =
      sym (ap (λ b. cond b (whole_or_zero (slice_get lines k) c) (whole_or_zero (slice_get lines k) 1 *ℤ whole_or_zero (slice_get lines k) c -ℤ whole_or_zero (slice_get lines k) 1 *ℤ whole_or_zero (slice_get lines k) c)) (eq-eqb k k refl)
      ∙ ap (λ o. whole_or_zero o c) w.within_bound.there)

  pub other_named : (i c : ℕ) (l : Line) → i ≢ k → slice_get lines i ≡ Some l → whole_at (wholes p) 1 *ℤ whole_at (wholes l) c -ℤ whole_at (wholes l) 1 *ℤ whole_at (wholes p) c ≡ row_number (Some k) lines i c
  other_named i c l other there =
      sym (ap (λ b. cond b (whole_or_zero (slice_get lines k) c) (whole_or_zero (slice_get lines k) 1 *ℤ whole_or_zero (slice_get lines i) c -ℤ whole_or_zero (slice_get lines i) 1 *ℤ whole_or_zero (slice_get lines k) c)) (ne_eqb i k other)
      ∙ ap₂ (λ s t. whole_or_zero s 1 *ℤ whole_or_zero t c -ℤ whole_or_zero t 1 *ℤ whole_or_zero s c) w.within_bound.there there)

  pub own_within : (b c : ℕ) → RowsStayWithin (Some k) lines b → (nat_abs (whole_at (wholes p) c) ≤ b) × (v ≤ b)
  own_within b c h =
      let same : h.pivot ≡ p = same_some h.pivot p (sym h.there ∙ w.within_bound.there) in
      let most : p.most ≤ b = subst (λ (t : Line). t.most ≤ b) same h.within_bound.own in
      let first = of_pivot.numbers_within c in
      let second = of_pivot.numbers_within 1 in
      (omega arith, omega arith)

  pub bound_at : (b i : ℕ) (l : Line) → RowsStayWithin (Some k) lines b → i ≢ k → slice_get lines i ≡ Some l → l.most * v + nat_abs (whole_at (wholes l) 1) * p.most ≤ b
  bound_at b i l h other there =
      let same : h.pivot ≡ p = same_some h.pivot p (sym h.there ∙ w.within_bound.there) in
      subst (λ (t : Line). l.most * nat_abs (whole_at (wholes t) 1) + nat_abs (whole_at (wholes l) 1) * t.most ≤ b) same (h.within_bound.others i l other there)

  pub other_within : (b i c : ℕ) (l : Line) → RowsStayWithin (Some k) lines b → i ≢ k → slice_get lines i ≡ Some l → (nat_abs (whole_at (wholes p) 1 *ℤ whole_at (wholes l) c -ℤ whole_at (wholes l) 1 *ℤ whole_at (wholes p) c) ≤ b) × (v * l.denominator ≤ b)
  other_within b i c l h other there =
      let within_bound = bound_at b i l h other there in
      let of_line = (w.are_lines i l there).0 in
      let top = top_within l p of_line of_pivot c in
      let low = low_within l p of_line of_pivot in
      (omega arith, omega arith)

  -- no part of a line passes the bound
  pub bounded_lines : AreBounded bound lines
  bounded_lines i l there =
      elim (cases_eq i k) [
        | inl same ↦ subst (λ (t : Line). t.most ≤ bound) (same_some p l (sym w.within_bound.there ∙ subst (λ j. slice_get lines j ≡ Some l) same there)) w.within_bound.within_bound.own
        | inr other ↦
            let extended : l.most * 1 ≤ l.most * v = mul-le-mul_left l.most some_v in
            let one = mul-one l.most in
            let within_bound = w.within_bound.within_bound.others i l other there in
            omega arith
      ]

-- ---- what is read

-- A fraction is the number of a row at a column.
pub record IsRead (lines : List Line) (deferred : Option ℕ) (place column : ℕ) (n : ℤ) (d : ℕ) : Type 0 where
  pub positive : 0 < d
  pub number : ratio n d ≡ numbers_above deferred (lines_number lines) place column
  pub named : n ≡ row_number deferred lines place column
  pub shared : d ≡ line_denominator deferred lines place
  pub within : (bound : ℕ) → RowsStayWithin deferred lines bound → (nat_abs n ≤ bound) × (d ≤ bound)

-- What reading a row beside the pivot row requires.
pub record IsReady (l p : Line) (column : ℕ) : Type 0 where
  pub line : IsLine l
  pub pivot : IsLine p
  pub within : column < length (wholes l)
  pub sized : length (wholes p) ≡ length (wholes l)
  pub zero : 1 < length (wholes l)
  pub within_bound : l.most * nat_abs (whole_at (wholes p) 1) + nat_abs (whole_at (wholes l) 1) * p.most < 2 ^ 127

module _ (lines : List Line) (deferred : Option ℕ) (k width bound : ℕ) (is : deferred ≡ Some k) (wd : AreWhole lines deferred width bound) where
  abbrev wk : AreWhole lines (Some k) width bound
  wk = subst (λ o. AreWhole lines o width bound) is wd

  pivot_is : (x : Line) → x ≡ slice_index_or lines k x → wk.within_bound.pivot ≡ x
  pivot_is x x_is = same_some wk.within_bound.pivot x (sym wk.within_bound.there ∙ index_get lines k x x (get_within lines k wk.within_bound.pivot wk.within_bound.there) (sym x_is))

  pub pivot_within : k < length lines
  pivot_within = get_within lines k wk.within_bound.pivot wk.within_bound.there

  read_own_is : (c : ℕ) → IsRead lines (Some k) k c (whole_at (wholes wk.within_bound.pivot) c) (nat_abs (whole_at (wholes wk.within_bound.pivot) 1))
  read_own_is c =
      record { positive = some_v lines k width bound wk; number = own_number_is lines k width bound wk c; named = own_named lines k width bound wk c; shared = own_shared lines k width bound wk; within = λ b h. own_within lines k width bound wk b c h }

  read_other_is : (i c : ℕ) (l : Line) → i ≢ k → slice_get lines i ≡ Some l → IsRead lines (Some k) i c (whole_at (wholes wk.within_bound.pivot) 1 *ℤ whole_at (wholes l) c -ℤ whole_at (wholes l) 1 *ℤ whole_at (wholes wk.within_bound.pivot) c) (nat_abs (whole_at (wholes wk.within_bound.pivot) 1) * l.denominator)
  read_other_is i c l other there =
      record {
        positive = mul-pos (some_v lines k width bound wk) (wk.are_lines i l there).0.positive;
        number = other_number_is lines k width bound wk i c l other there;
        named = other_named lines k width bound wk i c l other there;
        shared = other_shared lines k width bound wk i l other there;
        within = λ b h. other_within lines k width bound wk b i c l h other there;
      }

  pub read_at_pivot : (place c : ℕ) (x : Line) (n : ℤ) (d : ℕ) → place ≡ k → x ≡ slice_index_or lines k x → n ≡ whole_at (wholes x) c → d ≡ nat_abs (whole_at (wholes x) 1) → IsRead lines deferred place c n d
  read_at_pivot place c x n d same x_is n_is d_is =
      let p_is = pivot_is x x_is in
      subst (λ o. IsRead lines o place c n d) (sym is) (subst (λ i. IsRead lines (Some k) i c n d) (sym same)
      (subst₂ (λ z m. IsRead lines (Some k) k c z m) (ap (λ (t : Line). whole_at (wholes t) c) p_is ∙ sym n_is) (ap (λ (t : Line). nat_abs (whole_at (wholes t) 1)) p_is ∙ sym d_is) (read_own_is c)))

  pub read_at_other : (place c : ℕ) (l x : Line) (n : ℤ) (d : ℕ) → place ≢ k → place < length lines → l ≡ slice_index_or lines place l → x ≡ slice_index_or lines k x → n ≡ whole_at (wholes x) 1 *ℤ whole_at (wholes l) c -ℤ whole_at (wholes l) 1 *ℤ whole_at (wholes x) c → d ≡ nat_abs (whole_at (wholes x) 1) * l.denominator → IsRead lines deferred place c n d
  read_at_other place c l x n d other within l_is x_is n_is d_is =
      let p_is = pivot_is x x_is in
      let there : slice_get lines place ≡ Some l = index_get lines place l l within (sym l_is) in
      subst (λ o. IsRead lines o place c n d) (sym is)
      (subst₂ (λ z m. IsRead lines (Some k) place c z m) (ap (λ (t : Line). whole_at (wholes t) 1 *ℤ whole_at (wholes l) c -ℤ whole_at (wholes l) 1 *ℤ whole_at (wholes t) c) p_is ∙ sym n_is) (ap (λ (t : Line). nat_abs (whole_at (wholes t) 1) * l.denominator) p_is ∙ sym d_is) (read_other_is place c l other there))

  pub ready : (place c : ℕ) (l x : Line) → place ≢ k → place < length lines → c < width → l ≡ slice_index_or lines place l → x ≡ slice_index_or lines k x → IsReady l x c
  ready place c l x other within inside l_is x_is =
      let there : slice_get lines place ≡ Some l = index_get lines place l l within (sym l_is) in
      let p_there : slice_get lines k ≡ Some x = index_get lines k x x pivot_within (sym x_is) in
      let of_l = wk.are_lines place l there in
      let of_x = wk.are_lines k x p_there in
      let p_is = pivot_is x x_is in
      let wide = wk.wide in
      let l_wide = of_l.1 in
      record {
        line = of_l.0;
        pivot = of_x.0;
        within = omega arith;
        sized = of_x.1 ∙ sym of_l.1;
        zero = omega arith;
        within_bound = let small = wk.small in
            let within_bound = subst (λ (t : Line). l.most * nat_abs (whole_at (wholes t) 1) + nat_abs (whole_at (wholes l) 1) * t.most ≤ bound) p_is (wk.within_bound.within_bound.others place l other there) in omega arith;
      }

pub read_at_plain : (lines : List Line) (deferred : Option ℕ) (width bound place c : ℕ) (l : Line) (n : ℤ) (d : ℕ) → deferred ≡ None → AreWhole lines deferred width bound → slice_get lines place ≡ Some l → n ≡ whole_at (wholes l) c → d ≡ l.denominator → IsRead lines deferred place c n d
read_at_plain lines deferred width bound place c l n d is w there n_is d_is =
    let of_line = (w.are_lines place l there).0 in
    subst (λ o. IsRead lines o place c n d) (sym is)
    (record {
      positive = subst (λ t. 0 < t) (sym d_is) of_line.positive;
      number = ap₂ ratio n_is d_is ∙ sym (at_line lines place l there c);
      named = n_is ∙ sym (ap (λ o. whole_or_zero o c) there);
      shared = d_is ∙ sym (ap denominator_or_one there);
      within = λ b h.
          let most = h place l there in
          let top = of_line.numbers_within c in
          let low = of_line.denominator_within in
          (subst (λ z. nat_abs z ≤ b) (sym n_is) (omega arith), subst (λ t. t ≤ b) (sym d_is) (omega arith));
    })
