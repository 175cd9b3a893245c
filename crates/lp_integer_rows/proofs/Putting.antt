-- Stored rows in which variable 0 is deferred, in order.
use Rattle.std.proofs.Common.{◌≡◌, ◌≢◌, ℕ, zero, suc, ◌+◌, ◌<◌, ◌≤◌, ◌^◌, cond, inl, inr, ℤ, pos, negsuc, neg_ℤ, ◌<ℤ◌, ◌≤ℤ◌, nat_abs, List, length, set, length-set, get_or-set_same, get_or-set_other, Some, refl, sym, ap, ap₂, ◌∙◌, subst, subst₂, arith}
use Rattle.std.specs.Prelude.{slice_get, slice_set}
use Rattle.std.proofs.lemmas.Int.{ints}
use Rattle.std.proofs.lemmas.Bool.{cases_eq, eq-eqb, ne_eqb}
use Rattle.gq_number.specs.Number.{whole, ratio, neg_ℚ, ◌/ℚ◌}
use Rattle.gq_number.proofs.Naming.{ratio_is, neg-whole}
use Rattle.gq_number.proofs.Quotients.{neg-/ℚ}
use Rattle.lp_integer_rows.specs.declared.line.Line.{Line}
use Rattle.lp_integers.specs.Lines.{whole_at}
use Rattle.lp_integer_rows.specs.Form.{wholes, IsLine, line_number, IsForgottenLine, IsRaisedLine, AreForgotten, IsRaisedAt, AreSwapped}
use Rattle.lp_integer_rows.proofs.Plans.{get_within, set_same, set_other, same_some}
use Rattle.lp_integer_rows.specs.Marks.{IsClear, AreLeading}
use Rattle.lp_integer_rows.proofs.Updating.{ratio_none, same_le, marked_below}

pub ratio_negated : (n : ℤ) (d : ℕ) → ratio (neg_ℤ n) d ≡ neg_ℚ (ratio n d)
ratio_negated n d =
    ratio_is (neg_ℤ n) d ∙ ap (λ x. x /ℚ whole (pos d)) (sym (neg-whole n)) ∙ neg-/ℚ (whole n) (whole (pos d)) ∙ ap neg_ℚ (sym (ratio_is n d))

magnitude_negated : (n : ℤ) → nat_abs (neg_ℤ n) ≡ nat_abs n
magnitude_negated n = omega (arith, ints)

pub raised_plain : (line : Line) → IsLine line → pos 0 <ℤ whole_at (wholes line) 1 → IsRaisedLine line line
raised_plain line is above =
    record { is_line = is; sized = refl; most = refl; above = above; magnitudes = λ c. refl; numbers = inl (λ c. refl) }

pub raised_negated : (before after : Line) → IsLine before → length (wholes after) ≡ length (wholes before) → ((c : ℕ) → whole_at (wholes after) c ≡ neg_ℤ (whole_at (wholes before) c)) → after.denominator ≡ before.denominator → after.most ≡ before.most → after.marks ≡ before.marks → AreLeading (wholes after) after.leading → whole_at (wholes before) 1 <ℤ pos 0 → IsRaisedLine before after
raised_negated before after is sized numbers denominator most marks leading below =
    record {
      is_line = record {
        positive = subst (λ d. 0 < d) (sym denominator) is.positive;
        numbers_within = λ c. subst₂ (λ a b. a ≤ b) (sym (ap nat_abs (numbers c) ∙ magnitude_negated (whole_at (wholes before) c))) (sym most) (is.numbers_within c);
        denominator_within = subst₂ (λ a b. a ≤ b) (sym denominator) (sym most) is.denominator_within;
        small = subst (λ m. m < 2 ^ 127) (sym most) is.small;
        marked = marked_below before after is marks (λ c. same_le (ap nat_abs (numbers c) ∙ magnitude_negated (whole_at (wholes before) c)));
        leading = leading;
      };
      sized = sized;
      most = most;
      above = subst (λ z. pos 0 <ℤ z) (sym (numbers 1)) (omega (arith, ints));
      magnitudes = λ c. ap nat_abs (numbers c) ∙ magnitude_negated (whole_at (wholes before) c);
      numbers = inr (λ c. ap₂ ratio (numbers c) denominator ∙ ratio_negated (whole_at (wholes before) c) before.denominator);
    }

-- a line without its number of variable 0
pub forgotten_line : (before after : Line) → IsLine before → 1 < length (wholes before) → wholes after ≡ set (wholes before) 1 (pos 0) → after.denominator ≡ before.denominator → after.most ≡ before.most → after.marks ≡ before.marks → AreLeading (wholes after) after.leading → IsForgottenLine before after
forgotten_line before after is within items denominator most marks leading =
    let zero_is : whole_at (wholes after) 1 ≡ pos 0 = ap (λ l. whole_at l 1) items ∙ get_or-set_same (wholes before) 1 (pos 0) (pos 0) within in
    let other : (c : ℕ) → c ≢ 1 → whole_at (wholes after) c ≡ whole_at (wholes before) c = λ c apart. ap (λ l. whole_at l c) items ∙ get_or-set_other (wholes before) 1 c (pos 0) (pos 0) apart in
    record {
      is_line = record {
        positive = subst (λ d. 0 < d) (sym denominator) is.positive;
        numbers_within = λ c. elim (cases_eq c 1) [
          | inl same ↦ subst (λ k. nat_abs (whole_at (wholes after) k) ≤ after.most) (sym same) (subst (λ z. nat_abs z ≤ after.most) (sym zero_is) (omega arith))
          | inr apart ↦ subst₂ (λ z m. nat_abs z ≤ m) (sym (other c apart)) (sym most) (is.numbers_within c)
        ];
        denominator_within = subst₂ (λ a b. a ≤ b) (sym denominator) (sym most) is.denominator_within;
        small = subst (λ m. m < 2 ^ 127) (sym most) is.small;
        marked = λ c clear. elim (cases_eq c 1) [
          | inl same ↦ ap (whole_at (wholes after)) same ∙ zero_is
          | inr apart ↦ other c apart ∙ is.marked c (subst (λ m. IsClear m c) marks clear)
        ];
        leading = leading;
      };
      sized = ap length items ∙ length-set (wholes before) 1 (pos 0);
      most = omega arith;
      numbers = λ c. elim (cases_eq c 1) [
        | inl same ↦
            ap (λ z. ratio z after.denominator) (ap (whole_at (wholes after)) same ∙ zero_is) ∙ ratio_none after.denominator
            ∙ sym (ap (λ b. cond b (whole (pos 0)) (line_number before c)) (eq-eqb c 1 same))
        | inr apart ↦
            ap₂ ratio (other c apart) denominator ∙ sym (ap (λ b. cond b (whole (pos 0)) (line_number before c)) (ne_eqb c 1 apart))
      ];
    }

-- the first n lines have lost it
pub record AreForgottenTo (before after : List Line) (n : ℕ) : Type 0 where
  pub sized : length after ≡ length before
  pub each : (i : ℕ) (x y : Line) → i < n → slice_get before i ≡ Some x → slice_get after i ≡ Some y → IsForgottenLine x y
  pub left : (i : ℕ) → n ≤ i → slice_get after i ≡ slice_get before i

pub forgotten_more : (before after : List Line) (n : ℕ) (x y : Line) → AreForgottenTo before after n → n < length after → slice_get before n ≡ Some x → IsForgottenLine x y → AreForgottenTo before (slice_set after n y) (n + 1)
forgotten_more before after n x y h within there is =
    record {
      sized = length-set after n y ∙ h.sized;
      each = λ i v w below at now. elim (cases_eq i n) [
        | inl same ↦
            let first : x ≡ v = let e = subst (λ k. slice_get before k ≡ Some v) same at in cc in
            let second : y ≡ w = let e = subst (λ k. slice_get (slice_set after n y) k ≡ Some w) same now in let s = set_same after n y within in cc in
            subst₂ IsForgottenLine first second is
        | inr another ↦ h.each i v w (omega arith) at (sym (set_other after n i y another) ∙ now)
      ];
      left = λ i from. set_other after n i y (λ same. absurd (omega arith)) ∙ h.left i (omega arith);
    }

pub forgotten_all : (before after : List Line) (n : ℕ) → length after ≤ n → AreForgottenTo before after n → AreForgotten before after
forgotten_all before after n all h =
    record { sized = h.sized; each = λ i x y at now. h.each i x y (let e = get_within after i y now in omega arith) at now }

pub raised_at : (k : ℕ) (before : List Line) (x y : Line) → k < length before → slice_get before k ≡ Some x → IsRaisedLine x y → IsRaisedAt k before (slice_set before k y)
raised_at k before x y within there is =
    record {
      sized = length-set before k y;
      here = λ v w at now. subst₂ IsRaisedLine (same_some x v (sym there ∙ at)) (same_some y w (sym (set_same before k y within) ∙ now)) is;
      others = λ i other. set_other before k i y other;
    }

pub swapped_lines : (k l : ℕ) (before one two three : List Line) (none x y : Line) → k ≢ l → k < length before → l < length before → slice_get before k ≡ Some x → one ≡ slice_set before k none → slice_get one l ≡ Some y → two ≡ slice_set one l x → three ≡ slice_set two k y → AreSwapped k l before three
swapped_lines k l before one two three none x y apart k_in l_in at_k one_is at_l two_is three_is =
    let one_sized : length one ≡ length before = ap length one_is ∙ length-set before k none in
    let two_sized : length two ≡ length before = ap length two_is ∙ length-set one l x ∙ one_sized in
    let l_there : slice_get before l ≡ Some y = sym (ap (λ ls. slice_get ls l) one_is ∙ set_other before k l none (λ e. apart (sym e))) ∙ at_l in
    record {
      sized = ap length three_is ∙ length-set two k y ∙ two_sized;
      first = ap (λ ls. slice_get ls k) three_is ∙ set_same two k y (omega arith) ∙ sym l_there;
      second = ap (λ ls. slice_get ls l) three_is ∙ set_other two k l y (λ e. apart (sym e)) ∙ ap (λ ls. slice_get ls l) two_is ∙ set_same one l x (omega arith) ∙ sym at_k;
      others = λ i not_k not_l. ap (λ ls. slice_get ls i) three_is ∙ set_other two k i y not_k ∙ ap (λ ls. slice_get ls i) two_is ∙ set_other one l i x not_l ∙ ap (λ ls. slice_get ls i) one_is ∙ set_other before k i none not_k;
    }

pub above_zero : (n : ℤ) → pos 0 ≤ℤ n → n ≢ pos 0 → pos 0 <ℤ n
above_zero (pos zero) most some = absurd (some refl)
above_zero (pos (suc n)) most some = omega (arith, ints)
above_zero (negsuc n) most some = absurd (omega (arith, ints))
