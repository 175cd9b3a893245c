-- The dictionary that lines stand for: its rows, its bound, and which variables improve.
use Rattle.std.proofs.Common.{◌≡◌, ◌≢◌, ℕ, zero, suc, ◌+◌, ◌*◌, ◌<◌, ◌≤◌, nat_lt, ℤ, pos, ◌<ℤ◌, nat_abs, inl, inr, true, false, cond, List, length, Option, Some, None, refl, sym, ap, ap₂, ◌∙◌, subst, subst₂, arith}
use mathlib.Core.Path.{fun_ext}
use Rattle.std.specs.Prelude.{◌⊎◌, ◌↔◌, slice_get, slice_index_or, MatchOption}
use Rattle.std.proofs.lemmas.Int.{ints}
use Rattle.std.proofs.lemmas.Bool.{cases_eq, cases_lt}
use Rattle.std.proofs.lemmas.Bool.Decides.{nat_tests}
use Rattle.gq_number.specs.Number.{Number, whole, ratio, ◌-ℚ◌, ◌*ℚ◌, ◌/ℚ◌}
use Rattle.gq_number.specs.Order.{◌<ℚ◌}
use Rattle.gq_number.proofs.Order.{<ℚ_irrefl}
use Rattle.gq_number.proofs.Quotients.{zero-/ℚ}
use Rattle.gq_number.proofs.Ring.{*ℚ-zero, -ℚ-zero}
use Rattle.gq_number.proofs.Signs.{≢-zero_above}
use Rattle.lp_core.specs.Dictionary.{Dictionary, basic_at, constant_at, entry_at, IsPriced, Improves}
use Rattle.lp_core.specs.LargestCoefficient.{HasGreatest}
use Rattle.lp_fraction_dict.specs.Tableau.{IsPlace}
use Rattle.lp_fraction_dict.proofs.Kept.{contains_get}
use Rattle.lp_integer_rows.specs.declared.line.Line.{Line}
use Rattle.lp_integer_dict.specs.declared.choice.Candidate.{Candidate}
use Rattle.lp_integers.specs.Lines.{whole_at}
use Rattle.lp_integer_rows.specs.Form.{wholes, number_or_none, lines_number, numbers_above, IsLine, AreLines}
use Rattle.lp_integer_dict.specs.WithinBound.{AreWhole}
use Rattle.lp_integer_rows.specs.Turning.{turned_at, IsDeferredExchange}
use Rattle.lp_integer_dict.specs.Bounds.{IsBounded, DeferredNumbersWithin, over_denominators}
use Rattle.lp_integer_dict.specs.InnerChoice.{IsFirstOf, IsLeastConstant, IsLeastRatio, IsFirstAbove, IsGreatestAbove}
use Rattle.lp_integer_dict.specs.Whole.{row_of, WholeTableau, whole_dictionary, integer_dictionary, IsWhole}
use Rattle.lp_integer_rows.proofs.Turning.{turned_row, turned_other}
use Rattle.lp_integer_dict.proofs.Above.{bounded_above}
use Rattle.lp_integers.proofs.Lines.{whole_past}
use Rattle.lp_integer_rows.proofs.Updating.{ratio_none}
use Rattle.lp_integer_dict.proofs.Largest.{greatest_tells}
use Rattle.lp_integer_rows.proofs.Plans.{get_within, index_get, some_at, same_some}
use Rattle.lp_integer_dict.proofs.Reading.{at_line, number_above, above_number, own_number_is, some_v}

-- ---- rows

pub row_within : (rows i : ℕ) → i < rows → row_of rows i ≡ i
row_within rows i less = ap (λ b. cond b i rows) (less_is i rows less)
  where
    less_is : (a b : ℕ) → a < b → nat_lt a b ≡ true
    less_is a b h = grind (arith, nat_tests)

pub row_past : (rows i : ℕ) → rows ≤ i → row_of rows i ≡ rows
row_past rows i past = ap (λ b. cond b i rows) (past_is i rows past)
  where
    past_is : (a b : ℕ) → b ≤ a → nat_lt a b ≡ false
    past_is a b h = grind (arith, nat_tests)

pub row_in : (rows i : ℕ) → i ≤ rows → row_of rows i ≡ i
row_in rows i most = elim (cases_lt i rows) [
  | inl less ↦ row_within rows i less
  | inr past ↦ row_past rows i past ∙ (let same : rows ≡ i = omega arith in same)
]

pub row_below : (rows i : ℕ) → row_of rows i < rows + 1
row_below rows i = elim (cases_lt i rows) [
  | inl less ↦ subst (λ r. r < rows + 1) (sym (row_within rows i less)) (omega arith)
  | inr past ↦ subst (λ r. r < rows + 1) (sym (row_past rows i past)) (omega arith)
]

pub row_apart : (rows i k : ℕ) → k < rows → i ≢ k → row_of rows i ≢ k
row_apart rows i k less other = elim (cases_lt i rows) [
  | inl within ↦ λ same. other (sym (row_within rows i within) ∙ same)
  | inr past ↦ λ same. let e : rows ≡ k = sym (row_past rows i past) ∙ same in absurd (omega arith)
]

-- an exchange, and the rows past the last
pub row_turned : (rows : ℕ) (n : ℕ → ℕ → Number) (q k i c : ℕ) → k < rows → turned_at n q k (row_of rows i) c ≡ turned_at (λ j. n (row_of rows j)) q k i c
row_turned rows n q k i c less =
    let own : row_of rows k ≡ k = row_within rows k less in
    elim (cases_eq i k) [
      | inl same ↦
          subst (λ j. turned_at n q k (row_of rows j) c ≡ turned_at (λ m. n (row_of rows m)) q k j c) (sym same)
          (ap (λ r. turned_at n q k r c) own ∙ turned_row n q k c ∙ sym (turned_row (λ m. n (row_of rows m)) q k c ∙ ap (λ r. n r c /ℚ n r q) own))
      | inr other ↦
          turned_other n q k (row_of rows i) c (row_apart rows i k less other)
          ∙ sym (turned_other (λ m. n (row_of rows m)) q k i c other ∙ ap (λ r. n (row_of rows i) c -ℚ n (row_of rows i) q *ℚ (n r c /ℚ n r q)) own)
    ]

-- ---- a choice among other numbers that are the same

pub first_moved : (P Q : ℕ → Type 0) (f g : ℕ → Number) (variable : ℕ → ℕ) (n : ℕ) (best : Option Candidate) → ((i : ℕ) → i < n → P i → Q i) → ((i : ℕ) → i < n → Q i → P i) → ((i : ℕ) → i < n → f i ≡ g i) → IsFirstOf P f variable n best → IsFirstOf Q g variable n best
first_moved P Q f g variable n None there back same h = λ i less q. h i less (back i less q)
first_moved P Q f g variable n (Some c) there back same h =
    let k : ℕ = h.0 in (
      k,
      h.1,
      there k h.1 h.2,
      h.3 ∙ same k h.1,
      h.4,
      λ i less q. subst₂ (λ x y. (x <ℚ y) ⊎ ((x ≡ y) × (variable k ≤ variable i))) (same k h.1) (same i less) (h.5 i less (back i less q)),
      h.6,
    )

-- ---- the dictionary

pub row_number : (t : WholeTableau) (i c : ℕ) → i ≤ length t.basic → (integer_dictionary t).numbers i c ≡ numbers_above t.deferred (lines_number t.lines) i c
row_number t i c most = ap (λ r. numbers_above t.deferred (lines_number t.lines) r c) (row_in (length t.basic) i most)

pub number_past : (t : WholeTableau) (k c : ℕ) → length t.basic ≤ k → (integer_dictionary t).numbers k c ≡ (integer_dictionary t).numbers (length t.basic) c
number_past t k c past = ap (λ r. numbers_above t.deferred (lines_number t.lines) r c) (row_past (length t.basic) k past ∙ sym (row_in (length t.basic) (length t.basic) (omega arith)))

module _ (variables : ℕ) (basic : List ℕ) (lines : List Line) (deferred : Option ℕ) (bound : ℕ) (w : IsWhole (record { variables = variables; basic = basic; lines = lines; deferred = deferred; bound = bound })) where
  abbrev d : Dictionary
  d = whole_dictionary variables basic lines deferred

  abbrev line_of : (i : ℕ) → (l : Line) × (slice_get lines (row_of (length basic) i) ≡ Some l)
  line_of i = some_at lines (row_of (length basic) i) (let e = w.paired in let f = row_below (length basic) i in omega arith)

  abbrev number_of : ℕ → ℕ → ℤ
  number_of i c = whole_at (wholes (line_of i).0) c

  abbrev denominator_of : ℕ → ℕ
  denominator_of i = (line_of i).0.denominator

  abbrev most_of : ℕ → ℕ
  most_of i = (line_of i).0.most

  is_line : (i : ℕ) → IsLine (line_of i).0
  is_line i = (w.are_whole.are_lines (row_of (length basic) i) (line_of i).0 (line_of i).1).0

  number_here : (i c : ℕ) → lines_number lines (row_of (length basic) i) c ≡ ratio (number_of i c) (denominator_of i)
  number_here i c = at_line lines (row_of (length basic) i) (line_of i).0 (line_of i).1 c

module _ (variables : ℕ) (basic : List ℕ) (lines : List Line) (bound : ℕ) where
  -- nothing is deferred
  bounded_plain : (w : IsWhole (record { variables = variables; basic = basic; lines = lines; deferred = None; bound = bound })) → IsBounded (whole_dictionary variables basic lines None) bound
  bounded_plain w =
      record {
        number = number_of variables basic lines None bound w;
        denominator = denominator_of variables basic lines None bound w;
        positive = λ i. (is_line variables basic lines None bound w i).positive;
        numbers = λ i c. number_here variables basic lines None bound w i c;
        number_within = λ i c. let at = line_of variables basic lines None bound w i in let most = w.are_whole.within_bound (row_of (length basic) i) at.0 at.1 in let within = (is_line variables basic lines None bound w i).numbers_within c in omega arith;
        denominator_within = λ i. let at = line_of variables basic lines None bound w i in let most = w.are_whole.within_bound (row_of (length basic) i) at.0 at.1 in let within = (is_line variables basic lines None bound w i).denominator_within in omega arith;
      }

  module _ (k : ℕ) (w : IsWhole (record { variables = variables; basic = basic; lines = lines; deferred = Some k; bound = bound })) where
    abbrev n : ℕ → ℕ → ℤ
    n = number_of variables basic lines (Some k) bound w

    abbrev e : ℕ → ℕ
    e = denominator_of variables basic lines (Some k) bound w

    abbrev m : ℕ → ℕ
    m = most_of variables basic lines (Some k) bound w

    abbrev p : Line
    p = w.are_whole.within_bound.pivot

    pub k_within : k < length basic
    k_within = get_within basic k 0 w.is_deferred

    own_line : (line_of variables basic lines (Some k) bound w k).0 ≡ p
    own_line =
        let at = line_of variables basic lines (Some k) bound w k in
        same_some at.0 p (sym at.1 ∙ ap (slice_get lines) (row_within (length basic) k k_within) ∙ w.are_whole.within_bound.there)

    pivot_is : n k 1 ≡ pos (nat_abs (whole_at (wholes p) 1))
    pivot_is = ap (λ (l : Line). whole_at (wholes l) 1) own_line ∙ (let h = w.are_whole.within_bound.above in omega (arith, ints))

    bound_above : DeferredNumbersWithin n e m bound k (nat_abs (whole_at (wholes p) 1))
    bound_above =
        record {
          pivot = pivot_is;
          above = some_v lines k (variables + 2) bound w.are_whole;
          positive = λ i. (is_line variables basic lines (Some k) bound w i).positive;
          number_within = λ i c. (is_line variables basic lines (Some k) bound w i).numbers_within c;
          denominator_within = λ i. (is_line variables basic lines (Some k) bound w i).denominator_within;
          own = subst (λ (l : Line). l.most ≤ bound) (sym own_line) w.are_whole.within_bound.within_bound.own;
          others = λ i other.
              let at = line_of variables basic lines (Some k) bound w i in
              subst (λ (l : Line). at.0.most * nat_abs (whole_at (wholes p) 1) + nat_abs (whole_at (wholes at.0) 1) * l.most ≤ bound) (sym own_line) (w.are_whole.within_bound.within_bound.others (row_of (length basic) i) at.0 (row_apart (length basic) i k k_within other) at.1);
        }

    kept_some : over_denominators n e k 1 ≢ whole (pos 0)
    kept_some =
        ≢-zero_above (over_denominators n e k 1) (above_number (n k 1) (e k) (is_line variables basic lines (Some k) bound w k).positive (subst (λ z. pos 0 <ℤ z) (ap (λ (l : Line). whole_at (wholes l) 1) (sym own_line)) w.are_whole.within_bound.above))

    kept_is : (i c : ℕ) → lines_number lines (row_of (length basic) i) c ≡ over_denominators n e i c
    kept_is i c = number_here variables basic lines (Some k) bound w i c

    kept_same : (λ i. lines_number lines (row_of (length basic) i)) ≡ over_denominators n e
    kept_same = fun_ext (λ i. fun_ext (λ c. kept_is i c))

    pub is_above : IsDeferredExchange (whole_dictionary variables basic lines (Some k)) (λ i. lines_number lines (row_of (length basic) i)) k
    is_above =
        record {
          some = subst (λ (f : ℕ → ℕ → Number). f k 1 ≢ whole (pos 0)) (sym kept_same) kept_some;
          numbers = λ i c. row_turned (length basic) (lines_number lines) 1 k i c k_within;
        }

    bounded_off : IsBounded (whole_dictionary variables basic lines (Some k)) bound
    bounded_off =
        bounded_above n e m bound k (nat_abs (whole_at (wholes p) 1)) bound_above (whole_dictionary variables basic lines (Some k)) (subst (λ f. IsDeferredExchange (whole_dictionary variables basic lines (Some k)) f k) kept_same is_above)

pub bounded : (t : WholeTableau) → IsWhole t → IsBounded (integer_dictionary t) t.bound
bounded t w = bounded_of t.variables t.basic t.lines t.deferred t.bound (record { sized = w.sized; paired = w.paired; are_whole = w.are_whole; is_deferred = w.is_deferred; proper = w.proper })
  where
    bounded_of : (variables : ℕ) (basic : List ℕ) (lines : List Line) (deferred : Option ℕ) (bound : ℕ) → IsWhole (record { variables = variables; basic = basic; lines = lines; deferred = deferred; bound = bound }) → IsBounded (whole_dictionary variables basic lines deferred) bound
    bounded_of variables basic lines None bound v = bounded_plain variables basic lines bound v
    bounded_of variables basic lines (Some k) bound v = bounded_off variables basic lines bound k v

-- ---- the choice of pivots

module _ (t : WholeTableau) where
  same : (i c : ℕ) → i < length t.basic → numbers_above t.deferred (lines_number t.lines) i c ≡ (integer_dictionary t).numbers i c
  same i c less = sym (row_number t i c (omega arith))

  pub first_constant : (best : Option Candidate) → IsFirstOf (λ i. numbers_above t.deferred (lines_number t.lines) i 0 <ℚ whole (pos 0)) (λ i. numbers_above t.deferred (lines_number t.lines) i 0) (λ i. slice_index_or t.basic i 0) (length t.basic) best → IsFirstOf (λ i. constant_at (integer_dictionary t) i <ℚ whole (pos 0)) (constant_at (integer_dictionary t)) (basic_at (integer_dictionary t)) (length t.basic) best
  first_constant best h =
      first_moved (λ i. numbers_above t.deferred (lines_number t.lines) i 0 <ℚ whole (pos 0)) (λ i. constant_at (integer_dictionary t) i <ℚ whole (pos 0)) (λ i. numbers_above t.deferred (lines_number t.lines) i 0) (constant_at (integer_dictionary t)) (λ i. slice_index_or t.basic i 0) (length t.basic) best
      (λ i less p. subst (λ x. x <ℚ whole (pos 0)) (same i 0 less) p) (λ i less p. subst (λ x. x <ℚ whole (pos 0)) (sym (same i 0 less)) p) (λ i less. same i 0 less) h

  pub first_ratio : (q : ℕ) (best : Option Candidate) → IsFirstOf (λ i. whole (pos 0) <ℚ numbers_above t.deferred (lines_number t.lines) i (q + 1)) (λ i. numbers_above t.deferred (lines_number t.lines) i 0 /ℚ numbers_above t.deferred (lines_number t.lines) i (q + 1)) (λ i. slice_index_or t.basic i 0) (length t.basic) best → IsFirstOf (λ i. whole (pos 0) <ℚ entry_at (integer_dictionary t) i q) (λ i. constant_at (integer_dictionary t) i /ℚ entry_at (integer_dictionary t) i q) (basic_at (integer_dictionary t)) (length t.basic) best
  first_ratio q best h =
      first_moved (λ i. whole (pos 0) <ℚ numbers_above t.deferred (lines_number t.lines) i (q + 1)) (λ i. whole (pos 0) <ℚ entry_at (integer_dictionary t) i q) (λ i. numbers_above t.deferred (lines_number t.lines) i 0 /ℚ numbers_above t.deferred (lines_number t.lines) i (q + 1)) (λ i. constant_at (integer_dictionary t) i /ℚ entry_at (integer_dictionary t) i q) (λ i. slice_index_or t.basic i 0) (length t.basic) best
      (λ i less p. subst (λ x. whole (pos 0) <ℚ x) (same i (q + 1) less) p) (λ i less p. subst (λ x. whole (pos 0) <ℚ x) (sym (same i (q + 1) less)) p) (λ i less. ap₂ (λ x y. x /ℚ y) (same i 0 less) (same i (q + 1) less)) h

-- the same of what the code reads
pub kept_constant : (t : WholeTableau) (o : Option ℕ) (ls : List Line) (bs : List ℕ) → o ≡ t.deferred → ls ≡ t.lines → bs ≡ t.basic → (best : Option Candidate) → IsLeastConstant (numbers_above o (lines_number ls)) bs (length bs) best → IsFirstOf (λ i. constant_at (integer_dictionary t) i <ℚ whole (pos 0)) (constant_at (integer_dictionary t)) (basic_at (integer_dictionary t)) (length t.basic) best
kept_constant t o ls bs o_is ls_is bs_is best h =
    first_constant t best (subst (λ b. IsLeastConstant (numbers_above t.deferred (lines_number t.lines)) b (length b) best) bs_is (subst₂ (λ p l. IsLeastConstant (numbers_above p (lines_number l)) bs (length bs) best) o_is ls_is h))

pub kept_ratio : (t : WholeTableau) (o : Option ℕ) (ls : List Line) (bs : List ℕ) (q : ℕ) → o ≡ t.deferred → ls ≡ t.lines → bs ≡ t.basic → (best : Option Candidate) → IsLeastRatio (numbers_above o (lines_number ls)) bs (q + 1) (length bs) best → IsFirstOf (λ i. whole (pos 0) <ℚ entry_at (integer_dictionary t) i q) (λ i. constant_at (integer_dictionary t) i /ℚ entry_at (integer_dictionary t) i q) (basic_at (integer_dictionary t)) (length t.basic) best
kept_ratio t o ls bs q o_is ls_is bs_is best h =
    first_ratio t q best (subst (λ b. IsLeastRatio (numbers_above t.deferred (lines_number t.lines)) b (q + 1) (length b) best) bs_is (subst₂ (λ p l. IsLeastRatio (numbers_above p (lines_number l)) bs (q + 1) (length bs) best) o_is ls_is h))

-- a number of the row by which pivots are chosen: all are over one denominator
pub number_plain : (t : WholeTableau) → t.deferred ≡ None → (l : Line) → slice_get t.lines (length t.basic) ≡ Some l → (v : ℕ) → entry_at (integer_dictionary t) (length t.basic) v ≡ ratio (whole_at (wholes l) (v + 1)) l.denominator
number_plain t none l there v =
    row_number t (length t.basic) (v + 1) (omega arith) ∙ ap (λ o. numbers_above o (lines_number t.lines) (length t.basic) (v + 1)) none ∙ at_line t.lines (length t.basic) l there (v + 1)

pub number_off : (t : WholeTableau) → IsWhole t → (k : ℕ) → t.deferred ≡ Some k → (l : Line) → slice_get t.lines k ≡ Some l → (u : ℕ) × (0 < u) × ((v : ℕ) → entry_at (integer_dictionary t) k v ≡ ratio (whole_at (wholes l) (v + 1)) u)
number_off t w k is l there =
    let wk : AreWhole t.lines (Some k) (t.variables + 2) t.bound = subst (λ o. AreWhole t.lines o (t.variables + 2) t.bound) is w.are_whole in
    let p_is : wk.within_bound.pivot ≡ l = same_some wk.within_bound.pivot l (sym wk.within_bound.there ∙ there) in
    let at : slice_get t.basic k ≡ Some 0 = subst (λ o. IsPlace t.basic 0 o) is w.is_deferred in
    let within : k < length t.basic = get_within t.basic k 0 at in
    let u : ℕ = nat_abs (whole_at (wholes wk.within_bound.pivot) 1) in (
      u,
      some_v t.lines k (t.variables + 2) t.bound wk,
      λ v. row_number t k (v + 1) (omega arith) ∙ ap (λ o. numbers_above o (lines_number t.lines) k (v + 1)) is ∙ sym (own_number_is t.lines k (t.variables + 2) t.bound wk (v + 1)) ∙ ap (λ (x : Line). ratio (whole_at (wholes x) (v + 1)) u) p_is,
    )

-- its sign
sign_over : (x : Number) (n : ℤ) (u : ℕ) → 0 < u → x ≡ ratio n u → (pos 0 <ℤ n) ↔ (whole (pos 0) <ℚ x)
sign_over x n u positive number = (
  λ above. subst (λ y. whole (pos 0) <ℚ y) (sym number) (above_number n u positive above),
  λ above. number_above n u positive (subst (λ y. whole (pos 0) <ℚ y) number above),
)

pub sign_plain : (t : WholeTableau) → IsWhole t → t.deferred ≡ None → (l : Line) → slice_get t.lines (length t.basic) ≡ Some l → (v : ℕ) → (pos 0 <ℤ whole_at (wholes l) (v + 1)) ↔ (whole (pos 0) <ℚ entry_at (integer_dictionary t) (length t.basic) v)
sign_plain t w none l there v =
    let of_line = (w.are_whole.are_lines (length t.basic) l there).0 in
    sign_over (entry_at (integer_dictionary t) (length t.basic) v) (whole_at (wholes l) (v + 1)) l.denominator of_line.positive (number_plain t none l there v)

pub sign_off : (t : WholeTableau) → IsWhole t → (k : ℕ) → t.deferred ≡ Some k → (l : Line) → slice_get t.lines k ≡ Some l → (v : ℕ) → (pos 0 <ℤ whole_at (wholes l) (v + 1)) ↔ (whole (pos 0) <ℚ entry_at (integer_dictionary t) k v)
sign_off t w k is l there v =
    let over = number_off t w k is l there in
    sign_over (entry_at (integer_dictionary t) k v) (whole_at (wholes l) (v + 1)) over.0 over.1 (over.2 v)

module _ (t : WholeTableau) (w : IsWhole t) (k : ℕ) (priced : IsPriced (integer_dictionary t) k) (l : Line) (there : slice_get t.lines k ≡ Some l) (sign : (v : ℕ) → (pos 0 <ℤ whole_at (wholes l) (v + 1)) ↔ (whole (pos 0) <ℚ entry_at (integer_dictionary t) k v)) where
  same_priced : (j : ℕ) → IsPriced (integer_dictionary t) j → k ≡ j
  same_priced j (inl at_j) = elim priced [ inl at ↦ w.proper.distinct k j 0 at at_j | inr past ↦ absurd (past.0 (contains_get t.basic j 0 at_j)) ]
  same_priced j (inr none) = elim priced [ inl at ↦ absurd (none.0 (contains_get t.basic k 0 at)) | inr past ↦ past.1 ∙ sym none.1 ]

  basic_is_zero : (j v : ℕ) → slice_get t.basic j ≡ Some v → 1 ≤ v → entry_at (integer_dictionary t) k v ≡ whole (pos 0)
  basic_is_zero j v at some =
      w.proper.apart j k v at (λ is. elim priced [
        | inl zero_at ↦ let none = some_is 0 v (sym zero_at ∙ ap (slice_get t.basic) is ∙ at) in absurd (omega arith)
        | inr past ↦ let within = get_within t.basic j v at in let following = past.1 in absurd (omega arith)
      ])
    where
      some_is : (a b : ℕ) → Some a ≡ Some b → a ≡ b
      some_is a b e = cc

  not_zero_and_above : (x : Number) → x ≡ whole (pos 0) → ¬ (whole (pos 0) <ℚ x)
  not_zero_and_above x none above = <ℚ_irrefl (whole (pos 0)) (subst (λ y. whole (pos 0) <ℚ y) none above)

  not_past : (v : ℕ) → t.variables < v → ¬ (pos 0 <ℤ whole_at (wholes l) (v + 1))
  not_past v past above =
      let wide = (w.are_whole.are_lines k l there).1 in
      let none : whole_at (wholes l) (v + 1) ≡ pos 0 = whole_past (wholes l) (v + 1) (omega arith) in
      omega (arith, ints)

  improves_from : (v : ℕ) → 1 ≤ v → pos 0 <ℤ whole_at (wholes l) (v + 1) → Improves (integer_dictionary t) v
  improves_from v some above =
      let over : whole (pos 0) <ℚ entry_at (integer_dictionary t) k v = (sign v).0 above in
      record {
        other = λ none. absurd (omega arith);
        there = elim (cases_lt t.variables v) [ inl past ↦ absurd (not_past v past above) | inr most ↦ most ];
        not_basic = λ h. not_zero_and_above (entry_at (integer_dictionary t) k v) (basic_is_zero h.0 v (index_get t.basic h.0 v v h.1 h.2) some) over;
        above = λ j other. subst (λ i. whole (pos 0) <ℚ entry_at (integer_dictionary t) i v) (same_priced j other) over;
      }

  some_number : (v : ℕ) → v ≢ 0 → 1 ≤ v
  some_number zero other = absurd (other refl)
  some_number (suc v) other = omega arith

  pub entering_tells : (r : Option ℕ) → IsFirstAbove l r → MatchOption r ((v : ℕ) → ¬ (Improves (integer_dictionary t) v)) (λ q. Improves (integer_dictionary t) q × ((v : ℕ) → Improves (integer_dictionary t) v → q ≤ v))
  entering_tells None h = λ v i. h v (some_number v i.other) ((sign v).1 (i.above k priced))
  entering_tells (Some q) h =
      (improves_from q h.0 h.1, λ v i. h.2 v (some_number v i.other) ((sign v).1 (i.above k priced)))

  above_of : (v : ℕ) → Improves (integer_dictionary t) v → (1 ≤ v) × (pos 0 <ℤ whole_at (wholes l) (v + 1))
  above_of v i = (some_number v i.other, (sign v).1 (i.above k priced))

  pub coefficients_tell : (u : ℕ) → 0 < u → ((v : ℕ) → entry_at (integer_dictionary t) k v ≡ ratio (whole_at (wholes l) (v + 1)) u) → (r : Option ℕ) → IsGreatestAbove l r → MatchOption r ((v : ℕ) → ¬ (Improves (integer_dictionary t) v)) (HasGreatest (integer_dictionary t))
  coefficients_tell u positive number r h =
      greatest_tells (integer_dictionary t) k l u positive number (λ j other. same_priced j other) (λ v some above. improves_from v some above) (λ v i. above_of v i) r h

-- ---- past the last column

pub line_outside : (lines : List Line) (width i c : ℕ) → AreLines width lines → width ≤ c → lines_number lines i c ≡ whole (pos 0)
line_outside lines width i c are_lines past = outside_at (slice_get lines i) refl
  where
    outside_at : (o : Option Line) → slice_get lines i ≡ o → number_or_none o c ≡ whole (pos 0)
    outside_at None is = refl
    outside_at (Some l) is =
        let wide = (are_lines i l is).1 in
        ap (λ z. ratio z l.denominator) (whole_past (wholes l) c (omega arith)) ∙ ratio_none l.denominator

numbers_outside : (lines : List Line) (deferred : Option ℕ) (width i c : ℕ) → AreLines width lines → width ≤ c → numbers_above deferred (lines_number lines) i c ≡ whole (pos 0)
numbers_outside lines None width i c are_lines past = line_outside lines width i c are_lines past
numbers_outside lines (Some k) width i c are_lines past =
    let n : ℕ → ℕ → Number = lines_number lines in
    let none : n k c /ℚ n k 1 ≡ whole (pos 0) = ap (λ x. x /ℚ n k 1) (line_outside lines width k c are_lines past) ∙ zero-/ℚ (n k 1) in
    elim (cases_eq i k) [
      | inl same ↦ subst (λ j. turned_at n 1 k j c ≡ whole (pos 0)) (sym same) (turned_row n 1 k c ∙ none)
      | inr other ↦
          turned_other n 1 k i c other ∙ ap₂ (λ x y. x -ℚ n i 1 *ℚ y) (line_outside lines width i c are_lines past) none
          ∙ ap (λ y. whole (pos 0) -ℚ y) (*ℚ-zero (n i 1)) ∙ -ℚ-zero (whole (pos 0))
    ]

pub number_outside : (t : WholeTableau) → IsWhole t → (k c : ℕ) → t.variables + 2 ≤ c → (integer_dictionary t).numbers k c ≡ whole (pos 0)
number_outside t w k c past = numbers_outside t.lines t.deferred (t.variables + 2) (row_of (length t.basic) k) c w.are_whole.are_lines past
