-- The whole numbers of a row that is given by fractions, part by part.
use Rattle.std.proofs.Common.{◌≡◌, ℕ, ◌+◌, ◌*◌, ◌/◌, ◌<◌, ◌≤◌, ◌-◌, ◌^◌, inl, inr, ℤ, pos, ◌*ℤ◌, nat_abs, List, length, set, length-set, get_or-set_same, get_or-set_other, Some, None, Option, sym, ap, ap₂, ◌∙◌, subst, subst₂, arith, mul-pos, mul_comm}
use Rattle.std.specs.Prelude.{slice_get, MatchOption}
use Rattle.std.specs.Int.{◌∣◌}
use Rattle.std.proofs.lemmas.Bool.{cases_eq, cases_lt}
use Rattle.std.proofs.Math.Nat.{div-mul_cancel, div-mul-le_self, dvd-mul_left, dvd-mul_right, dvd_of_mul-dvd-mul_right, dvd_trans, mul-dvd-mul_left, mul-le-mul_left, one-dvd, pos_of_dvd_of_pos}
use Rattle.std.proofs.lemmas.Nat.{le-div}
use Rattle.std.proofs.lemmas.Nat.Gcd.{le_of_dvd}
use Rattle.gq_number.specs.Number.{ratio}
use Rattle.gq_number.specs.Gcd.{gcd}
use Rattle.gq_number.proofs.Gcd.{gcd-dvd_left, gcd-dvd_right, gcd_pos, gcd-scaled}
use Rattle.gq_number.proofs.Naming.{ratio-times}
use Rattle.lp_integer_rows.specs.declared.line.Line.{Line}
use Rattle.lp_integer_rows.specs.declared.parts.Part.{Part}
use Rattle.lp_integers.specs.Lines.{whole_at, AreWithin}
use Rattle.lp_integers.proofs.Lines.{whole_past}
use Rattle.lp_integer_rows.specs.Form.{wholes, line_number}
use Rattle.lp_integer_rows.specs.Parts.{AreZeros, AreWithinColumns, HaveDistinctColumns, IsMultiple, HaveNoMultiple, HaveNoCommonMultiple, IsSomePast, HaveNoLine, AreFilled, AreParts}
use Rattle.lp_integer_rows.proofs.Plans.{get_within, same_some}
use Rattle.lp_integer_rows.proofs.Updating.{ratio_none}

pub multiple_more : (parts : List Part) (n m next : ℕ) (p : Part) → IsMultiple parts n m → slice_get parts n ≡ Some p → 0 < next → next < 2 ^ 127 → m ∣ next → p.denominator ∣ next → ((k : ℕ) → 0 < k → m ∣ k → p.denominator ∣ k → next ∣ k) → IsMultiple parts (n + 1) next
multiple_more parts n m next p h there positive small old new least =
    record {
      positive = positive;
      small = small;
      divides = λ i q less at. elim (cases_eq i n) [
        | inl same ↦ subst (λ (x : Part). x.denominator ∣ next) (same_some p q (sym there ∙ subst (λ k. slice_get parts k ≡ Some q) same at)) new
        | inr other ↦ dvd_trans _ (h.divides i q (omega arith) at) old
      ];
      least = λ k some all. least k some (h.least k some (λ i q less at. all i q (omega arith) at)) (all n p (omega arith) there);
    }

pub multiple_none : (parts : List Part) → IsMultiple parts 0 1
multiple_none parts =
    record {
      positive = omega arith;
      small = omega arith;
      divides = λ i p less. absurd (omega arith);
      least = λ k some all. one-dvd k;
    }

-- no multiple of the first parts and of one more
pub no_multiple : (parts : List Part) (n m : ℕ) (p : Part) → n < length parts → IsMultiple parts n m → slice_get parts n ≡ Some p → HaveNoMultiple m p.denominator → HaveNoCommonMultiple parts
no_multiple parts n m p less h there none = λ k some all. none k some (h.least k some (λ i q below at. all i q (omega arith) at)) (all n p less there)

-- without a common multiple there is no line, and none where some part passes over the least
pub no_multiple_no_line : (parts : List Part) → HaveNoCommonMultiple parts → HaveNoLine parts
no_multiple_no_line parts none = λ m some small all. absurd (let high = none m some all in omega arith)

pub past_no_line : (parts : List Part) (width multiple : ℕ) → AreWithinColumns width parts → IsMultiple parts (length parts) multiple → IsSomePast parts multiple → HaveNoLine parts
past_no_line parts width multiple are h past = λ m some small all.
    let extended : multiple ≤ m = le_of_dvd some (h.least m some all) in
    let positive = (are past.at past.part past.there).1 in
    let over : multiple / past.part.denominator ≤ m / past.part.denominator = le-div (multiple / past.part.denominator) m past.part.denominator positive (let low = div-mul-le_self multiple past.part.denominator in omega arith) in
    let more : nat_abs past.part.numerator * (multiple / past.part.denominator) ≤ nat_abs past.part.numerator * (m / past.part.denominator) = mul-le-mul_left (nat_abs past.part.numerator) over in
    record { at = past.at; part = past.part; there = past.there; past = let low = past.past in omega arith }

pub filled_none : (parts : List Part) (multiple width : ℕ) (numbers : List ℤ) → AreZeros width numbers → AreFilled parts multiple width 0 numbers
filled_none parts multiple width numbers z =
    record {
      sized = z.sized;
      small = λ c. subst (λ x. nat_abs x ≤ 2 ^ 127 - 1) (sym (z.zeros c)) (omega arith);
      here = λ i p less. absurd (omega arith);
      elsewhere = λ c none. z.zeros c;
    }

-- one number is put among numbers within a magnitude
pub within_set : (numbers : List ℤ) (at : ℕ) (v : ℤ) (most : ℕ) → at < length numbers → AreWithin numbers most → nat_abs v ≤ most → AreWithin (set numbers at v) most
within_set numbers at v most less h low = λ c.
    elim (cases_eq c at) [
      | inl same ↦ subst (λ k. nat_abs (whole_at (set numbers at v) k) ≤ most) (sym same) (subst (λ x. nat_abs x ≤ most) (sym (get_or-set_same numbers at v (pos 0) less)) low)
      | inr other ↦ subst (λ x. nat_abs x ≤ most) (sym (get_or-set_other numbers at c v (pos 0) other)) (h c)
    ]

pub filled_more : (parts : List Part) (multiple width n : ℕ) (numbers : List ℤ) (p : Part) (v : ℤ) → AreWithinColumns width parts → HaveDistinctColumns parts → AreFilled parts multiple width n numbers → slice_get parts n ≡ Some p → nat_abs v < 2 ^ 127 → ratio v multiple ≡ ratio p.numerator p.denominator → AreFilled parts multiple width (n + 1) (set numbers p.column v)
filled_more parts multiple width n numbers p v are apart h there small is =
    let within : p.column < length numbers = let e = h.sized in let less = (are n p there).0 in omega arith in
    record {
      sized = length-set numbers p.column v ∙ h.sized;
      small = within_set numbers p.column v (2 ^ 127 - 1) within h.small (omega arith);
      here = λ i q less at. elim (cases_eq i n) [
        | inl same ↦
            let q_is : p ≡ q = same_some p q (sym there ∙ subst (λ k. slice_get parts k ≡ Some q) same at) in
            subst (λ (x : Part). ratio (whole_at (set numbers p.column v) x.column) multiple ≡ ratio x.numerator x.denominator) q_is (ap (λ x. ratio x multiple) (get_or-set_same numbers p.column v (pos 0) within) ∙ is)
        | inr other ↦
            ap (λ x. ratio x multiple) (get_or-set_other numbers p.column q.column v (pos 0) (λ same. other (apart i n q p at there same))) ∙ h.here i q (omega arith) at
      ];
      elsewhere = λ c none.
          get_or-set_other numbers p.column c v (pos 0) (λ same. none n p (omega arith) there (sym same)) ∙ h.elsewhere c (λ i q less at. none i q (omega arith) at);
    }

pub zeros_are : (list : List ℤ) (n : ℕ) → length list ≡ n → ((c : ℕ) → c < n → whole_at list c ≡ pos 0) → AreZeros n list
zeros_are list n sized h =
    record {
      sized = sized;
      zeros = λ c. elim (cases_lt c n) [
        | inl less ↦ h c less
        | inr past ↦ whole_past list c (omega arith)
      ];
    }

-- a multiple of two numbers by their greatest common divisor
pub multiple_is : (m d : ℕ) → (m ∣ (m / gcd m d) * d) × (d ∣ (m / gcd m d) * d)
multiple_is m d =
    let g : ℕ = gcd m d in
    let same : (m / g) * d ≡ m * (d / g) =
    ap (λ x. (m / g) * x) (sym (div-mul_cancel g (gcd-dvd_right m d))) ∙ turned (m / g) (d / g) g ∙ ap (λ x. x * (d / g)) (div-mul_cancel g (gcd-dvd_left m d)) in
    (subst (λ x. m ∣ x) (sym same) (dvd-mul_right m (d / g)), dvd-mul_left d (m / g))
  where
    turned : (a b e : ℕ) → a * (b * e) ≡ (a * e) * b
    turned a b e = omega arith

-- it is the least
pub multiple_least : (m d n : ℕ) → 0 < d → 0 < n → m ∣ n → d ∣ n → (m / gcd m d) * d ∣ n
multiple_least m d n some_d some_n of_m of_d =
    let g : ℕ = gcd m d in
    let shared : m * d ∣ g * n = (gcd-scaled m d n some_n).2 (m * d) (mul-dvd-mul_left d m of_d) (subst (λ x. x ∣ d * n) (mul_comm d m) (mul-dvd-mul_left m d of_m)) in
    let whole_is : m * d ≡ ((m / g) * d) * g = ap (λ x. x * d) (sym (div-mul_cancel g (gcd-dvd_left m d))) ∙ turned (m / g) g d in
    dvd_of_mul-dvd-mul_right ((m / g) * d) (gcd_pos m d some_d) (subst₂ (λ x y. x ∣ y) whole_is (mul_comm g n) shared)
  where
    turned : (a b e : ℕ) → (a * b) * e ≡ (a * e) * b
    turned a b e = omega arith

pub multiple_some : (m d : ℕ) → 0 < m → 0 < d → 0 < (m / gcd m d) * d
multiple_some m d some_m some_d =
    let g : ℕ = gcd m d in
    mul-pos (pos_of_dvd_of_pos (subst (λ x. (m / g) ∣ x) (div-mul_cancel g (gcd-dvd_left m d)) (dvd-mul_right (m / g) g)) some_m) some_d

-- a part over a multiple of its denominator
pub scaled_is : (n : ℤ) (d multiple : ℕ) → 0 < d → 0 < multiple → d ∣ multiple → ratio (n *ℤ pos (multiple / d)) multiple ≡ ratio n d
scaled_is n d multiple positive some divides =
    let k : ℕ = multiple / d in
    let whole_is : d * k ≡ multiple = mul_comm d k ∙ div-mul_cancel d divides in
    let above : 0 < k = pos_of_dvd_of_pos (subst (λ x. k ∣ x) whole_is (dvd-mul_left k d)) some in
    ap (ratio (n *ℤ pos k)) (sym whole_is) ∙ ratio-times n d k positive above

pub parts_are : (parts : List Part) (multiple width : ℕ) (l : Line) (numbers : List ℤ) → AreFilled parts multiple width (length parts) numbers → wholes l ≡ numbers → l.denominator ≡ multiple → AreParts parts (line_number l)
parts_are parts multiple width l numbers h numbers_is multiple_of =
    record {
      here = λ i p at. ap₂ (λ x m. ratio (whole_at x p.column) m) numbers_is multiple_of ∙ h.here i p (get_within parts i p at) at;
      elsewhere = λ c none. ap₂ (λ x m. ratio (whole_at x c) m) numbers_is multiple_of ∙ ap (λ z. ratio z multiple) (h.elsewhere c (λ i p less at. none i p at)) ∙ ratio_none multiple;
    }

-- a multiple that is small enough
pub multiple_found : (m d g : ℕ) (o : Option ℕ) → 0 < m → 0 < d → g ≡ gcd m d → MatchOption o (2 ^ 127 - 1 < (m / g) * d) (λ n. (n ≡ (m / g) * d) × (n ≤ 2 ^ 127 - 1)) → MatchOption o (HaveNoMultiple m d) (λ n. (0 < n) × (n < 2 ^ 127) × (m ∣ n) × (d ∣ n) × ((k : ℕ) → 0 < k → m ∣ k → d ∣ k → n ∣ k))
multiple_found m d g None above_m above_d g_is h = λ k some of_m of_d.
    let past : 2 ^ 127 - 1 < (m / gcd m d) * d = subst (λ x. 2 ^ 127 - 1 < (m / x) * d) g_is h in
    let high : (m / gcd m d) * d ≤ k = le_of_dvd some (multiple_least m d k above_d some of_m of_d) in
    omega arith
multiple_found m d g (Some n) above_m above_d g_is h =
    let n_is : n ≡ (m / gcd m d) * d = h.0 ∙ ap (λ k. (m / k) * d) g_is in
    let divides = multiple_is m d in
    let low = h.1 in
    (subst (λ k. 0 < k) (sym n_is) (multiple_some m d above_m above_d), omega arith, subst (λ k. m ∣ k) (sym n_is) divides.0, subst (λ k. d ∣ k) (sym n_is) divides.1, λ k some of_m of_d. subst (λ x. x ∣ k) (sym n_is) (multiple_least m d k above_d some of_m of_d))
