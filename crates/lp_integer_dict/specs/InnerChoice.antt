-- The least of several rows by a number, and of equal ones by a variable (Bland's choice: Chvatal,
-- Linear Programming, chapter 3).
use Rattle.std.specs.Prelude.{◌≡◌, ◌⊎◌, ℕ, ◌+◌, ◌<◌, ◌≤◌, ◌^◌, pos, ◌<ℤ◌, List, slice_index_or, Option, Some, None}
use Rattle.gq_number.specs.Number.{Number, whole, ratio, ◌/ℚ◌}
use Rattle.gq_number.specs.Order.{◌<ℚ◌}
use Rattle.lp_integer_rows.specs.declared.line.Line.{Line}
use Rattle.lp_integer_dict.specs.declared.read.Fraction.{Fraction}
use Rattle.lp_integer_dict.specs.declared.choice.Candidate.{Candidate}
use Rattle.lp_integers.specs.Lines.{whole_at}
use Rattle.lp_integer_rows.specs.Form.{wholes}

-- the number of a fraction
abbrev pub fraction : Fraction → Number
fraction f = ratio f.numerator f.denominator

-- the denominator of a fraction is above 0, and below 2^127
abbrev pub IsFraction : Fraction → Type 0
IsFraction f = (0 < f.denominator) × (f.denominator < 2 ^ 127)

-- a number and a variable come before others: the number is less, or it is equal and the variable
-- is at most the other
abbrev pub ComesFirst : Number → ℕ → Number → ℕ → Type 0
ComesFirst x v y w = (x <ℚ y) ⊎ ((x ≡ y) × (v ≤ w))

-- the one of two that comes first
abbrev pub IsLesser : Option Candidate → Candidate → Candidate → Type 0
IsLesser None other r = r ≡ other
IsLesser (Some best) other r =
    ((r ≡ other) × ComesFirst (fraction other.measure) other.variable (fraction best.measure) best.variable)
    ⊎ ((r ≡ best) × ComesFirst (fraction best.measure) best.variable (fraction other.measure) other.variable)

-- The place below n at which P holds that comes first, by its number and its variable; or P holds
-- at none.
abbrev pub IsFirstOf : (ℕ → Type 0) → (ℕ → Number) → (ℕ → ℕ) → ℕ → Option Candidate → Type 0
IsFirstOf P number variable n None = (i : ℕ) → i < n → ¬ (P i)
IsFirstOf P number variable n (Some c) =
    (k : ℕ) × (k < n) × P k × (fraction c.measure ≡ number k) × (c.variable ≡ variable k) × ((i : ℕ) → i < n → P i → ComesFirst (number k) (variable k) (number i) (variable i)) × IsFraction c.measure

-- the least constant below 0 of the first n rows
abbrev pub IsLeastConstant : (ℕ → ℕ → Number) → List ℕ → ℕ → Option Candidate → Type 0
IsLeastConstant numbers basic n best = IsFirstOf (λ i. numbers i 0 <ℚ whole (pos 0)) (λ i. numbers i 0) (λ i. slice_index_or basic i 0) n best

-- the least ratio of the first n rows, of those with a number above 0 at a column
abbrev pub IsLeastRatio : (ℕ → ℕ → Number) → List ℕ → ℕ → ℕ → Option Candidate → Type 0
IsLeastRatio numbers basic column n best =
    IsFirstOf (λ i. whole (pos 0) <ℚ numbers i column) (λ i. numbers i 0 /ℚ numbers i column) (λ i. slice_index_or basic i 0) n best

-- the least variable from 1 on whose number in the row is above 0, if any
abbrev pub IsFirstAbove : Line → Option ℕ → Type 0
IsFirstAbove l None = (v : ℕ) → 1 ≤ v → ¬ (pos 0 <ℤ whole_at (wholes l) (v + 1))
IsFirstAbove l (Some q) =
    (1 ≤ q) × (pos 0 <ℤ whole_at (wholes l) (q + 1)) × ((v : ℕ) → 1 ≤ v → pos 0 <ℤ whole_at (wholes l) (v + 1) → q ≤ v)

-- the variable from 1 on with the greatest integer above 0 in a row, and of equal ones the least;
-- none if no integer is above 0
abbrev pub IsGreatestAbove : Line → Option ℕ → Type 0
IsGreatestAbove l None = (v : ℕ) → 1 ≤ v → ¬ (pos 0 <ℤ whole_at (wholes l) (v + 1))
IsGreatestAbove l (Some q) =
    (1 ≤ q) × (pos 0 <ℤ whole_at (wholes l) (q + 1)) × ((v : ℕ) → 1 ≤ v → (whole_at (wholes l) (v + 1) <ℤ whole_at (wholes l) (q + 1)) ⊎ ((whole_at (wholes l) (v + 1) ≡ whole_at (wholes l) (q + 1)) × (q ≤ v)))
