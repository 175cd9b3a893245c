-- Dictionaries whose rows are integers over a common denominator, within one bound (Edmonds, and
-- Bareiss, on integer pivoting).
use Rattle.std.specs.Prelude.{◌≡◌, ◌≢◌, ℕ, ◌+◌, ◌*◌, ◌<◌, ◌≤◌, ℤ, pos, nat_abs}
use Rattle.gq_number.specs.Number.{Number, ratio}
use Rattle.lp_core.specs.Dictionary.{Dictionary}

-- Each row of the dictionary, and the objective, is a list of integers over a common denominator.
-- No integer's magnitude and no denominator exceeds the bound.
pub record IsBounded (d : Dictionary) (bound : ℕ) : Type 0 where
  pub number : ℕ → ℕ → ℤ
  pub denominator : ℕ → ℕ
  pub positive : (i : ℕ) → 0 < denominator i
  pub numbers : (i c : ℕ) → d.numbers i c ≡ ratio (number i c) (denominator i)
  pub number_within : (i c : ℕ) → nat_abs (number i c) ≤ bound
  pub denominator_within : (i : ℕ) → denominator i ≤ bound

-- the number of row i at column c: the integer there over the row's denominator
abbrev pub over_denominators : (ℕ → ℕ → ℤ) → (ℕ → ℕ) → ℕ → ℕ → Number
over_denominators n d i c = ratio (n i c) (d i)

-- Stored rows with the integers n over the denominators d; in row i these are at most `most i` in
-- magnitude. Row k has the integer u, above 0, at column 1, that of variable 0. In the exchange of
-- variable 0 into row k the estimate of the greatest magnitude is most k for row k, and most i · u
-- + |n i 1| · most k for another row i. Each is at most the bound.
pub record DeferredNumbersWithin (n : ℕ → ℕ → ℤ) (d most : ℕ → ℕ) (bound k u : ℕ) : Type 0 where
  pub pivot : n k 1 ≡ pos u
  pub above : 0 < u
  pub positive : (i : ℕ) → 0 < d i
  pub number_within : (i c : ℕ) → nat_abs (n i c) ≤ most i
  pub denominator_within : (i : ℕ) → d i ≤ most i
  pub own : most k ≤ bound
  pub others : (i : ℕ) → i ≢ k → most i * u + nat_abs (n i 1) * most k ≤ bound
