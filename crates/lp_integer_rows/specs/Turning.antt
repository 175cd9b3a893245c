-- The exchange on a matrix of numbers, and a dictionary in which variable 0 is deferred (Chvatal,
-- Linear Programming, chapters 2 and 3).
use Rattle.std.specs.Prelude.{◌≡◌, ◌≢◌, ℕ, ◌==◌, pos, if◌then◌else◌}
use Rattle.gq_number.specs.Number.{Number, whole, ◌-ℚ◌, ◌*ℚ◌, ◌/ℚ◌, neg_ℚ}
use Rattle.lp_core.specs.Dictionary.{Dictionary}

-- the number of row i at column c after an exchange at row k and column q, where n gives the
-- numbers before: row k is divided by its number at q, and from each other row the multiple of row
-- k is subtracted that makes the number of the other row at q zero
abbrev pub turned_at : (ℕ → ℕ → Number) → ℕ → ℕ → ℕ → ℕ → Number
turned_at n q k i c = if i == k then n k c /ℚ n k q else n i c -ℚ n i q *ℚ (n k c /ℚ n k q)

-- the number of row i at column c after rows k and l have changed places, where n gives the numbers
-- before
abbrev pub swapped : (ℕ → ℕ → Number) → ℕ → ℕ → ℕ → ℕ → Number
swapped n k l i c = n (if i == k then l else (if i == l then k else i)) c

-- the number of row i at column c after row k is negated, where n gives the numbers before
abbrev pub with_row_negated : (ℕ → ℕ → Number) → ℕ → ℕ → ℕ → Number
with_row_negated n k i c = if i == k then neg_ℚ (n i c) else n i c

-- The dictionary d is what the stored numbers `kept` mean: its numbers result from `kept` by the
-- exchange of variable 0, at column 1, into row k, whose stored coefficient of variable 0 is not 0.
pub record IsDeferredExchange (d : Dictionary) (kept : ℕ → ℕ → Number) (k : ℕ) : Type 0 where
  pub some : kept k 1 ≢ whole (pos 0)
  pub numbers : (i c : ℕ) → d.numbers i c ≡ turned_at kept 1 k i c
