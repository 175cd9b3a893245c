-- The least of several places by a number, and of equal ones by a variable; what the functions
-- promise.
use Rattle.std.specs.Prelude.{◌≡◌, ◌⊎◌, ℕ, ◌<◌, ◌≤◌, pos, true, false, List, slice_index_or, Option, Some, None, Result, Ok, Err}
use Rattle.gq_number.specs.Number.{Number, whole, ◌/ℚ◌}
use Rattle.gq_number.specs.Order.{◌<ℚ◌}
use Rattle.lp_core.specs.Steps.{quotient_fits}
use Rattle.lp_fraction_dict.specs.declared.row.Entry.{Entry}
use Rattle.lp_fraction_dict.specs.declared.choice.Candidate.{Candidate}
use Rattle.lp_fraction_dict.specs.Rows.{number_in}
use Rattle.lp_fraction_dict.specs.Lines.{line}

-- a number and a variable come before others: the number is less, or it is equal and the variable
-- is at most the other
abbrev pub ComesFirst : Number → ℕ → Number → ℕ → Type 0
ComesFirst x v y w = (x <ℚ y) ⊎ ((x ≡ y) × (v ≤ w))

-- the one of two that comes first
abbrev pub IsLesser : {F : Type 0} → (F → Number) → Option (Candidate F) → Candidate F → Candidate F → Type 0
IsLesser value None other r = r ≡ other
IsLesser value (Some best) other r =
    ((r ≡ other) × ComesFirst (value other.measure) other.variable (value best.measure) best.variable)
    ⊎ ((r ≡ best) × ComesFirst (value best.measure) best.variable (value other.measure) other.variable)

-- The place below n at which P holds that comes first, by its number and its variable; or P holds
-- at none.
abbrev pub IsFirstOf : {F : Type 0} → (F → Number) → (ℕ → Type 0) → (ℕ → Number) → (ℕ → ℕ) → ℕ → Option (Candidate F) → Type 0
IsFirstOf value P number variable n None = (i : ℕ) → i < n → ¬ (P i)
IsFirstOf value P number variable n (Some c) =
    (k : ℕ) × (k < n) × P k × (value c.measure ≡ number k) × (c.variable ≡ variable k) × ((i : ℕ) → i < n → P i → ComesFirst (number k) (variable k) (number i) (variable i))

-- The answer of a ratio test over constants and numbers of a column: the place whose ratio comes
-- first among those with a number above 0, or the first place whose ratio does not fit.
abbrev pub IsRated : {F : Type 0} → (F → Number) → ℕ → (ℕ → Number) → (ℕ → Number) → (ℕ → ℕ) → ℕ → Result (Option (Candidate F)) ℕ → Type 0
IsRated value limit constant number variable n (Ok best) =
    ((i : ℕ) → i < n → whole (pos 0) <ℚ number i → quotient_fits limit (constant i) (number i) ≡ true)
    × IsFirstOf value (λ i. whole (pos 0) <ℚ number i) (λ i. constant i /ℚ number i) variable n best
IsRated value limit constant number variable n (Err i) =
    (i < n) × (whole (pos 0) <ℚ number i) × (quotient_fits limit (constant i) (number i) ≡ false)
    × ((j : ℕ) → j < i → whole (pos 0) <ℚ number j → quotient_fits limit (constant j) (number j) ≡ true)

-- the least constant below 0 of the first n rows, whatever follows these rows
abbrev pub IsLeastConstant : {F : Type 0} → (F → Number) → List (List (Entry F)) → List ℕ → ℕ → Option (Candidate F) → Type 0
IsLeastConstant {F} value rows basic n best =
    (o : List (Entry F)) → IsFirstOf value (λ i. number_in value (line rows o i) 0 <ℚ whole (pos 0)) (λ i. number_in value (line rows o i) 0) (λ i. slice_index_or basic i 0) n best

-- the answer of the ratio test at a column over the first n rows, whatever follows these rows
abbrev pub IsLeastRatio : {F : Type 0} → (F → Number) → ℕ → List (List (Entry F)) → List ℕ → ℕ → ℕ → Result (Option (Candidate F)) ℕ → Type 0
IsLeastRatio {F} value limit rows basic column n r =
    (o : List (Entry F)) → IsRated value limit (λ i. number_in value (line rows o i) 0) (λ i. number_in value (line rows o i) column) (λ i. slice_index_or basic i 0) n r
