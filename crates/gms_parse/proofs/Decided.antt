-- Whether a text is a number within the limit is decided.
use Rattle.std.proofs.Common.{◌≡◌, ◌⊎◌, ℕ, zero, suc, ◌+◌, ◌*◌, ◌%◌, ◌^◌, ◌<◌, ◌≤◌, ℤ, pos, negsuc, List, refl, ap, ◌∙◌, subst, arith, inl, inr}
use Rattle.std.proofs.Math.Nat.{le-mul_of_pos_right}
use Rattle.std.proofs.lemmas.Bool.{cases_lt}
use Rattle.std.proofs.lemmas.Bool.Decides.{eqb_tells}
use Rattle.std.proofs.lemmas.Grind.{pow_more}
use Rattle.gq_number.specs.Number.{Number, whole, ratio}
use Rattle.gq_number.proofs.Means.{number_from_parts}
use Rattle.gq_text.specs.Decimal.{MeansNumber}
use Rattle.gq_text.specs.Literal.{HasNoTrailingZero, FitsLiteral}
use Rattle.gq_text.proofs.Literals.{tens_above}
use Rattle.gms_table.specs.CellNumbers.{unsigned, signed_number, IsValue}
use Rattle.gms_table.proofs.NumberLemmas.{no_value, no_shape}
use Rattle.gms_expressions.proofs.Valued.{Told as Known, number_told}

-- it holds, or it does not
abbrev pub Told : Type 0 → Type 0
Told P = P ⊎ (P → ⊥)

both : {P Q : Type 0} → Told P → Told Q → Told (P × Q)
both (inl p) (inl q) = inl (p, q)
both (inl p) (inr q) = inr (λ h. q h.1)
both (inr p) q = inr (λ h. p h.0)

three : {P Q R : Type 0} → Told P → Told Q → Told R → Told (P × Q × R)
three (inl p) (inl q) (inl r) = inl (p, q, r)
three (inl p) (inl q) (inr r) = inr (λ h. r h.2)
three (inl p) (inr q) r = inr (λ h. q h.1)
three (inr p) q r = inr (λ h. p h.0)

either : {P Q : Type 0} → Told P → Told Q → Told (P ⊎ Q)
either (inl p) q = inl (inl p)
either (inr p) (inl q) = inl (inr q)
either (inr p) (inr q) = inr (λ h. elim h [ inl x ↦ p x | inr y ↦ q y ])

contrary : {P : Type 0} → Told P → Told (P → ⊥)
contrary (inl p) = inr (λ n. n p)
contrary (inr n) = inl n

-- ---- numbers

nat_same : (a b : ℕ) → Told (a ≡ b)
nat_same a b = elim (eqb_tells a b) [ inl e ↦ inl e.1 | inr n ↦ inr n.1 ]

most : (a b : ℕ) → Told (a ≤ b)
most a b = elim (cases_lt b a) [ inl less ↦ inr (λ h. omega (arith, less, h)) | inr more ↦ inl more ]

integer_same : (a b : ℤ) → Told (a ≡ b)
integer_same (pos a) (pos b) =
    elim (nat_same a b) [ inl e ↦ inl (ap pos e) | inr n ↦ inr (λ e. n (let same : a ≡ b = cc in same)) ]
integer_same (pos a) (negsuc b) = inr (λ e. cc)
integer_same (negsuc a) (pos b) = inr (λ e. cc)
integer_same (negsuc a) (negsuc b) =
    elim (nat_same a b) [ inl e ↦ inl (ap negsuc e) | inr n ↦ inr (λ e. n (let same : a ≡ b = cc in same)) ]

number_same : (x y : Number) → Told (x ≡ y)
number_same x y =
    elim (integer_same x.numerator y.numerator) [
      | inl n ↦ elim (nat_same x.denominator y.denominator) [
        | inl d ↦ inl (number_from_parts x y n d)
        | inr other ↦ inr (λ e. other (ap (λ (z : Number). z.denominator) e))
      ]
      | inr other ↦ inr (λ e. other (ap (λ (z : Number). z.numerator) e))
    ]

-- ---- a search below a bound

pub record Found (P : ℕ → Type 0) (bound : ℕ) : Type 0 where
  pub n : ℕ
  pub within : n < bound
  pub holds : P n

search : (P : ℕ → Type 0) → ((n : ℕ) → Told (P n)) → (bound : ℕ) → Told (Found P bound)
search P told zero = inr (λ f. omega (arith, f.within))
search P told (suc bound) = go (search P told bound) (told bound)
  where
    go : Told (Found P bound) → Told (P bound) → Told (Found P (suc bound))
    go (inl f) t = inl (record { n = f.n; within = omega (arith, f.within); holds = f.holds })
    go (inr none) (inl p) = inl (record { n = bound; within = omega arith; holds = p })
    go (inr none) (inr other) = inr (λ f. elim (cases_lt f.n bound) [
      | inl less ↦ none (record { n = f.n; within = less; holds = f.holds })
      | inr more ↦ (let same : f.n ≡ bound = omega (arith, f.within, more) in other (subst P same f.holds))
    ])

-- ---- what fits

-- the number is m times ten to the power e, or m over it, within the limit
abbrev Fits : ℕ → Number → ℕ → ℕ → Type 0
Fits limit x m e =
    HasNoTrailingZero m × (((x ≡ whole (pos (m * 10 ^ e))) × (m * 10 ^ e ≤ limit)) ⊎ ((x ≡ ratio (pos m) (10 ^ e)) × (m ≤ limit) × (10 ^ e ≤ limit)))

fit_told : (limit : ℕ) (x : Number) (m e : ℕ) → Told (Fits limit x m e)
fit_told limit x m e =
    both (either (nat_same m 0) (contrary (nat_same (m % 10) 0)))
    (either (both (number_same x (whole (pos (m * 10 ^ e)))) (most (m * 10 ^ e) limit)) (three (number_same x (ratio (pos m) (10 ^ e))) (most m limit) (most (10 ^ e) limit)))

-- ten to a power is no less than the power
tens_high : (e : ℕ) → e ≤ 10 ^ e
tens_high zero = omega arith
tens_high (suc e) =
    let next : suc e ≡ e + 1 = omega arith in
    let more : 10 ^ suc e ≡ 10 ^ e * 10 = ap (λ k. 10 ^ k) next ∙ pow_more 10 e in
    omega (arith, tens_high e, tens_above e, more)

-- the parts of what fits are within the limit
abbrev Bounded : ℕ → Number → Type 0
Bounded limit x = Found (λ m. Found (λ e. Fits limit x m e) (suc limit)) (suc limit)

bounded : (limit : ℕ) (x : Number) → FitsLiteral limit x → Bounded limit x
bounded limit x f = by f.m f.e f.shortest f.within
  where
    by_product : (m e : ℕ) → HasNoTrailingZero m → x ≡ whole (pos (m * 10 ^ e)) → m * 10 ^ e ≤ limit → Told (m ≡ 0) → Bounded limit x
    by_product m e h is small (inl none) =
        let empty : m * 10 ^ e ≡ 0 * 10 ^ 0 = ap (λ k. k * 10 ^ e) none ∙ omega arith in
        record {
          n = 0;
          within = omega arith;
          holds = record { n = 0; within = omega arith; holds = (inl refl, inl (is ∙ ap (λ k. whole (pos k)) empty, omega arith)) };
        }
    by_product m e h is small (inr some) =
        let above : 0 < m = omega (arith, some) in
        let m_small : m ≤ m * 10 ^ e = le-mul_of_pos_right m (tens_above e) in
        let unit_small : 10 ^ e ≤ 10 ^ e * m = le-mul_of_pos_right (10 ^ e) above in
        record {
          n = m;
          within = omega (arith, m_small, small);
          holds = record { n = e; within = omega (arith, tens_high e, unit_small, small); holds = (h, inl (is, small)) };
        }

    by : (m e : ℕ) → HasNoTrailingZero m → ((x ≡ whole (pos (m * 10 ^ e))) × (m * 10 ^ e ≤ limit)) ⊎ ((x ≡ ratio (pos m) (10 ^ e)) × (m ≤ limit) × (10 ^ e ≤ limit)) → Bounded limit x
    by m e h (inl product) = by_product m e h product.0 product.1 (nat_same m 0)
    by m e h (inr over) = record {
      n = m;
      within = omega (arith, over.1);
      holds = record { n = e; within = omega (arith, tens_high e, over.2); holds = (h, inr over) };
    }

pub fits_told : (limit : ℕ) (x : Number) → Told (FitsLiteral limit x)
fits_told limit x = elim (search (λ m. Found (λ e. Fits limit x m e) (suc limit)) (λ m. search (λ e. Fits limit x m e) (fit_told limit x m) (suc limit)) (suc limit)) [
  | inl f ↦ inl (record { m = f.n; e = f.holds.n; shortest = f.holds.holds.0; within = f.holds.holds.1 })
  | inr none ↦ inr (λ f. none (bounded limit x f))
]

-- ---- values

-- a text has a value within the limit, or none
pub value_told : (limit : ℕ) (text : List ℕ) → ((x : Number) × IsValue limit text x) ⊎ ((x : Number) → IsValue limit text x → ⊥)
value_told limit text = by_number (number_told (unsigned text))
  where
    by_fit : (x : Number) → MeansNumber (unsigned text) x → Told (FitsLiteral limit x) → ((x : Number) × IsValue limit text x) ⊎ ((x : Number) → IsValue limit text x → ⊥)
    by_fit x means (inl fits) = inl (signed_number text x, record { magnitude = x; means = means; fits = fits; value = refl })
    by_fit x means (inr none) = inr (no_value limit text x means none)

    by_number : Known (MeansNumber (unsigned text)) → ((x : Number) × IsValue limit text x) ⊎ ((x : Number) → IsValue limit text x → ⊥)
    by_number (inl m) = by_fit m.0 m.1 (fits_told limit m.0)
    by_number (inr none) = inr (no_shape limit text none)
