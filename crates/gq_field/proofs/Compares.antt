-- How fractions compare: by signs, by whole parts, and turned over.
use Rattle.std.proofs.Common.{◌≡◌, ◌≢◌, ℕ, zero, suc, ◌+◌, ◌*◌, ◌/◌, ◌%◌, ◌<◌, ◌≤◌, Bool, true, false, ◌&&◌, nat_lt, pos, negsuc, refl, sym, ap, ap₂, ◌∙◌, arith, mul-pos, zero-mul, Ordering, Less, Equal, Greater, nat_cmp, int_cmp, div-add-mod', mod-lt, true≢false, subst₂, mul_assoc, mul_comm, mul_right_comm, mul-le-mul_right, mul-lt-mul_of_pos_right, div-mul-le_self, le_trans, lt_of_lt_of_le, inl, inr}
use Rattle.std.proofs.lemmas.Bool.{cases_lt}
use Rattle.std.proofs.lemmas.Bool.Decides.{nat_tests}
use Rattle.gq_number.specs.Order.{number_cmp}
use Rattle.gq_field.specs.declared.fraction.Fraction.{Fraction}
use Rattle.gq_field.specs.Values.{fraction_value, signed}
use Rattle.gq_field.proofs.Fractions.{signed-times}

-- how two whole numbers compare, by their signs and magnitudes
abbrev pub by_signs : Bool → Bool → ℕ → ℕ → Ordering
by_signs false false a b = nat_cmp a b
by_signs false true a b = Greater
by_signs true false a b = Less
by_signs true true a b = nat_cmp b a

pos_cmp : (a b : ℕ) → int_cmp (pos a) (pos b) ≡ nat_cmp a b
pos_cmp a b = grind (arith, nat_tests)

negsuc_cmp : (a b : ℕ) → int_cmp (negsuc a) (negsuc b) ≡ nat_cmp (suc b) (suc a)
negsuc_cmp a b = grind (arith, nat_tests)

signed_cmp : (p q : Bool) (a b : ℕ) → (p ≡ true → 0 < a) → (q ≡ true → 0 < b) → int_cmp (signed p a) (signed q b) ≡ by_signs p q a b
signed_cmp false false a b f h = pos_cmp a b
signed_cmp false true a zero f h = absurd (let k : 0 < 0 = h refl in omega arith)
signed_cmp false true a (suc b) f h = refl
signed_cmp true false zero b f h = absurd (let k : 0 < 0 = f refl in omega arith)
signed_cmp true false (suc a) b f h = refl
signed_cmp true true zero b f h = absurd (let k : 0 < 0 = f refl in omega arith)
signed_cmp true true (suc a) zero f h = absurd (let k : 0 < 0 = h refl in omega arith)
signed_cmp true true (suc a) (suc b) f h = negsuc_cmp a b

some_above : (m : ℕ) → nat_lt 0 (suc m) ≡ true
some_above m = grind (arith, nat_tests)

-- a negated 0 is 0
proper_sign : (s p : Bool) (m k : ℕ) → (s && nat_lt 0 m) ≡ p → signed s (m * k) ≡ signed p (m * k)
proper_sign false p m k e = ap (λ b. signed b (m * k)) e
proper_sign true p zero k e = rw zero-mul (ap (λ b. signed b 0) e)
proper_sign true p (suc m) k e = ap (λ b. signed b (suc m * k)) (sym (some_above m) ∙ e)

some_magnitude : (s : Bool) (m k : ℕ) → 0 < k → (s && nat_lt 0 m) ≡ true → 0 < m * k
some_magnitude false m k pos_k e = absurd (true≢false (sym e))
some_magnitude true zero k pos_k e = absurd (true≢false (sym e))
some_magnitude true (suc m) k pos_k e = mul-pos (omega arith) pos_k

pub compare_by_signs : (x y : Fraction) (p q : Bool) → (x.negative && nat_lt 0 x.magnitude) ≡ p → (y.negative && nat_lt 0 y.magnitude) ≡ q → number_cmp (fraction_value x) (fraction_value y) ≡ by_signs p q (x.magnitude * y.denominator) (y.magnitude * x.denominator)
unfolding number_cmp fraction_value
compare_by_signs x y p q e f =
    ap₂ int_cmp
    (signed-times x.negative x.magnitude y.denominator ∙ proper_sign x.negative p x.magnitude y.denominator e)
    (signed-times y.negative y.magnitude x.denominator ∙ proper_sign y.negative q y.magnitude x.denominator f)
    ∙ signed_cmp p q _ _
    (λ is. some_magnitude x.negative x.magnitude y.denominator y.reduced.positive (e ∙ is))
    (λ is. some_magnitude y.negative y.magnitude x.denominator x.reduced.positive (f ∙ is))

-- ---- one turn of the comparison of a/b and c/d

cmp-add : (k m n : ℕ) → nat_cmp (k + m) (k + n) ≡ nat_cmp m n
cmp-add k m n = grind (arith, nat_tests)

split_product : (q b d r : ℕ) → (q * b + r) * d ≡ q * b * d + r * d
split_product q b d r = omega arith

-- with the same whole parts the rests compare
pub cmp-rests : (a b c d : ℕ) → a / b ≡ c / d → nat_cmp (a * d) (c * b) ≡ nat_cmp (a % b * d) (c % d * b)
cmp-rests a b c d e =
    let left : a * d ≡ a / b * b * d + a % b * d = ap (λ n. n * d) (sym (div-add-mod' a b)) ∙ split_product (a / b) b d (a % b) in
    let right : c * b ≡ a / b * b * d + c % d * b =
    ap (λ n. n * b) (sym (div-add-mod' c d)) ∙ split_product (c / d) d b (c % d) ∙ ap (λ n. n + c % d * b) (ap (λ q. q * d * b) (sym e) ∙ mul_right_comm (a / b) d b) in
    ap₂ nat_cmp left right ∙ cmp-add (a / b * b * d) (a % b * d) (c % d * b)

-- turned over, they compare the other way round
pub cmp_turned : (a b c d : ℕ) → a / b ≡ c / d → nat_cmp (a * d) (c * b) ≡ nat_cmp (d * (a % b)) (b * (c % d))
cmp_turned a b c d e = cmp-rests a b c d e ∙ ap₂ nat_cmp (mul_comm (a % b) d) (mul_comm (c % d) b)

cmp_less : (m n : ℕ) → m < n → nat_cmp m n ≡ Less
cmp_less m n h = grind (arith, nat_tests)

cmp_greater : (m n : ℕ) → n < m → nat_cmp m n ≡ Greater
cmp_greater m n h = grind (arith, nat_tests)

next_whole : (a b : ℕ) → 0 < b → a < (a / b + 1) * b
next_whole a b pos_b = let e = div-add-mod' a b in let h : a % b < b = mod-lt a pos_b in omega arith

chain : (q r b d : ℕ) → q < r → (q + 1) * b * d ≤ r * d * b
chain q r b d h = subst₂ (λ m n. m ≤ n) (sym (mul_assoc (q + 1) b d)) (ap (λ k. r * k) (mul_comm b d) ∙ sym (mul_assoc r d b)) (mul-le-mul_right (b * d) h')
  where
    h' : q + 1 ≤ r
    h' = omega arith

-- the lesser whole part is the lesser fraction
wholes_below : (a b c d : ℕ) → 0 < b → 0 < d → a / b < c / d → a * d < c * b
wholes_below a b c d pos_b pos_d h =
    let first : a * d < (a / b + 1) * b * d = mul-lt-mul_of_pos_right (next_whole a b pos_b) pos_d in
    let second : (a / b + 1) * b * d ≤ c / d * d * b = chain (a / b) (c / d) b d h in
    let third : c / d * d * b ≤ c * b = mul-le-mul_right b (div-mul-le_self c d) in
    lt_of_lt_of_le first (le_trans second third)

pub cmp_wholes : (a b c d : ℕ) → 0 < b → 0 < d → a / b ≢ c / d → nat_cmp (a / b) (c / d) ≡ nat_cmp (a * d) (c * b)
cmp_wholes a b c d pos_b pos_d apart =
    elim (cases_lt (a / b) (c / d)) [
      | inl below ↦ cmp_less _ _ below ∙ sym (cmp_less _ _ (wholes_below a b c d pos_b pos_d below))
      | inr not_below ↦ let above : c / d < a / b = omega arith in cmp_greater _ _ above ∙ sym (cmp_greater _ _ (wholes_below c d a b pos_d pos_b above))
    ]

cmp_zero_left : (s k : ℕ) → 0 < k → nat_cmp 0 s ≡ nat_cmp 0 (s * k)
cmp_zero_left zero k pos_k = ap (nat_cmp 0) (sym (zero-mul k))
cmp_zero_left (suc s) k pos_k = cmp_less 0 (suc s) (omega arith) ∙ sym (cmp_less 0 (suc s * k) (mul-pos (omega arith) pos_k))

cmp_zero_right : (r k : ℕ) → 0 < k → nat_cmp r 0 ≡ nat_cmp (r * k) 0
cmp_zero_right zero k pos_k = ap (λ n. nat_cmp n 0) (sym (zero-mul k))
cmp_zero_right (suc r) k pos_k = cmp_greater (suc r) 0 (omega arith) ∙ sym (cmp_greater (suc r * k) 0 (mul-pos (omega arith) pos_k))

-- a rest of 0 compares as the rests do
pub cmp_first_none : (r s b d : ℕ) → 0 < b → r ≡ 0 → nat_cmp r s ≡ nat_cmp (r * d) (s * b)
cmp_first_none r s b d pos_b none =
    ap (λ n. nat_cmp n s) none ∙ cmp_zero_left s b pos_b ∙ ap (λ n. nat_cmp n (s * b)) (sym (zero-mul d) ∙ ap (λ n. n * d) (sym none))

pub cmp_second_none : (r s b d : ℕ) → 0 < d → s ≡ 0 → nat_cmp r s ≡ nat_cmp (r * d) (s * b)
cmp_second_none r s b d pos_d none =
    ap (nat_cmp r) none ∙ cmp_zero_right r d pos_d ∙ ap (nat_cmp (r * d)) (sym (zero-mul b) ∙ ap (λ n. n * b) (sym none))

-- ---- over one denominator the numerators decide

cmp-times : (a c k : ℕ) → 0 < k → nat_cmp a c ≡ nat_cmp (a * k) (c * k)
cmp-times a c k some =
    elim (cases_lt a c) [
      | inl less ↦ cmp_less a c less ∙ sym (cmp_less (a * k) (c * k) (mul-lt-mul_of_pos_right less some))
      | inr not_less ↦ elim (cases_lt c a) [
        | inl more ↦ cmp_greater a c more ∙ sym (cmp_greater (a * k) (c * k) (mul-lt-mul_of_pos_right more some))
        | inr not_more ↦ let e : a ≡ c = omega arith in ap (nat_cmp a) (sym e) ∙ nat_cmp_self a ∙ sym (ap (nat_cmp (a * k)) (ap (λ n. n * k) (sym e)) ∙ nat_cmp_self (a * k))
      ]
    ]
  where
    nat_cmp_self : (n : ℕ) → nat_cmp n n ≡ Equal
    nat_cmp_self n = grind (arith, nat_tests)

pub cmp_over_same : (a b c d : ℕ) → 0 < b → b ≡ d → nat_cmp a c ≡ nat_cmp (a * d) (c * b)
cmp_over_same a b c d some same = cmp-times a c b some ∙ ap (λ k. nat_cmp (a * k) (c * b)) same
