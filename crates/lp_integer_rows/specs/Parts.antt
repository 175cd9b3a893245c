-- Integer rows from entries that are fractions, each with its column.
use Rattle.std.specs.Prelude.{◌≡◌, ◌≢◌, ℕ, ◌*◌, ◌/◌, ◌<◌, ◌≤◌, ◌-◌, ◌^◌, ℤ, pos, nat_abs, List, length, slice_get, Some}
use Rattle.std.specs.Int.{◌∣◌}
use Rattle.gq_number.specs.Number.{Number, whole, ratio}
use Rattle.lp_integer_rows.specs.declared.parts.Part.{Part}
use Rattle.lp_integers.specs.Lines.{whole_at, AreWithin}

-- a list of `count` integers that are each 0
pub record AreZeros (count : ℕ) (list : List ℤ) : Type 0 where
  pub sized : length list ≡ count
  pub zeros : (c : ℕ) → whole_at list c ≡ pos 0

-- the column of each entry is below `width`, and its denominator is above 0
abbrev pub AreWithinColumns : ℕ → List Part → Type 0
AreWithinColumns width parts = (i : ℕ) (p : Part) → slice_get parts i ≡ Some p → (p.column < width) × (0 < p.denominator)

-- no two entries have the same column
abbrev pub HaveDistinctColumns : List Part → Type 0
HaveDistinctColumns parts = (i j : ℕ) (p q : Part) → slice_get parts i ≡ Some p → slice_get parts j ≡ Some q → p.column ≡ q.column → i ≡ j

-- m is a multiple of the denominators of the first n entries
abbrev pub DivideAll : List Part → ℕ → ℕ → Type 0
DivideAll parts n m = (i : ℕ) (p : Part) → i < n → slice_get parts i ≡ Some p → p.denominator ∣ m

-- m is the least common multiple of the denominators of the first n entries, and has at most 127
-- bits.
pub record IsMultiple (parts : List Part) (n m : ℕ) : Type 0 where
  pub positive : 0 < m
  pub small : m < 2 ^ 127
  pub divides : DivideAll parts n m
  pub least : (k : ℕ) → 0 < k → DivideAll parts n k → m ∣ k

-- no common multiple of the numbers m and d, except 0, has at most 127 bits
abbrev pub HaveNoMultiple : ℕ → ℕ → Type 0
HaveNoMultiple m d = (k : ℕ) → 0 < k → m ∣ k → d ∣ k → 2 ^ 127 ≤ k

-- no common multiple of the denominators of all entries has at most 127 bits
abbrev pub HaveNoCommonMultiple : List Part → Type 0
HaveNoCommonMultiple parts = (k : ℕ) → 0 < k → DivideAll parts (length parts) k → 2 ^ 127 ≤ k

-- Some entry, written over this multiple of its denominator, has a numerator of more than 127 bits.
pub record IsSomePast (parts : List Part) (multiple : ℕ) : Type 0 where
  pub at : ℕ
  pub part : Part
  pub there : slice_get parts at ≡ Some part
  pub past : 2 ^ 127 ≤ nat_abs part.numerator * (multiple / part.denominator)

-- over each common multiple of the denominators that has at most 127 bits, some entry has a
-- numerator of more than 127 bits
abbrev pub HaveNoLine : List Part → Type 0
HaveNoLine parts = (m : ℕ) → 0 < m → m < 2 ^ 127 → DivideAll parts (length parts) m → IsSomePast parts m

-- The list has `width` integers of at most 127 bits: at the columns of the first n entries the
-- numerators of these entries over the denominator `multiple`, and 0 at every other column.
pub record AreFilled (parts : List Part) (multiple width n : ℕ) (numbers : List ℤ) : Type 0 where
  pub sized : length numbers ≡ width
  pub small : AreWithin numbers (2 ^ 127 - 1)
  pub here : (i : ℕ) (p : Part) → i < n → slice_get parts i ≡ Some p → ratio (whole_at numbers p.column) multiple ≡ ratio p.numerator p.denominator
  pub elsewhere : (c : ℕ) → ((i : ℕ) (p : Part) → i < n → slice_get parts i ≡ Some p → p.column ≢ c) → whole_at numbers c ≡ pos 0

-- The entries give the numbers of a row: at each entry's column its fraction, and 0 elsewhere.
pub record AreParts (parts : List Part) (numbers : ℕ → Number) : Type 0 where
  pub here : (i : ℕ) (p : Part) → slice_get parts i ≡ Some p → numbers p.column ≡ ratio p.numerator p.denominator
  pub elsewhere : (c : ℕ) → ((i : ℕ) (p : Part) → slice_get parts i ≡ Some p → p.column ≢ c) → numbers c ≡ whole (pos 0)
