-- The integers of a row in a list, one for each column, and changes made to all of them.
use Rattle.std.specs.Prelude.{◌≡◌, ◌≢◌, ℕ, ◌+◌, ◌*◌, ◌<◌, ◌≤◌, ℤ, pos, ◌-ℤ◌, ◌*ℤ◌, neg_ℤ, nat_abs, List, length, slice_get, slice_index_or, Some}
use Rattle.std.specs.Int.{◌∣◌}

-- the integer at index c of the list; 0 past its end
abbrev pub whole_at : List ℤ → ℕ → ℤ
whole_at numbers c = slice_index_or numbers c (pos 0)

-- the magnitude of each of these numbers is at most `most`
abbrev pub AreWithin : List ℤ → ℕ → Type 0
AreWithin numbers most = (c : ℕ) → nat_abs (whole_at numbers c) ≤ most

-- the divisor divides each of these numbers
abbrev pub AreDivided : List ℤ → ℕ → Type 0
AreDivided numbers divisor = (c : ℕ) → divisor ∣ nat_abs (whole_at numbers c)

-- At each column, for the numbers x and y of the two lists, |a x| + |b y| is at most `most`. So the
-- products and their difference a x - b y are at most `most` in magnitude.
abbrev pub CombinationsStayWithin : ℕ → ℤ → ℤ → List ℤ → List ℤ → Type 0
CombinationsStayWithin most a b numbers others = (c : ℕ) → nat_abs a * nat_abs (whole_at numbers c) + nat_abs b * nat_abs (whole_at others c) ≤ most

-- At each column below n the number of `after` is a times that of `before` less b times that of
-- `others`; from column n on it is that of `before`. The magnitudes below column n are at most
-- `most`. `most` is at most any m for which at each column the sum of the magnitudes of the two
-- products is at most m (`CombinationsStayWithin`).
pub record AreLessenedTo (a b : ℤ) (before others after : List ℤ) (n most : ℕ) : Type 0 where
  pub sized : length after ≡ length before
  pub done : (c : ℕ) → c < n → whole_at after c ≡ a *ℤ whole_at before c -ℤ b *ℤ whole_at others c
  pub left : (c : ℕ) → n ≤ c → whole_at after c ≡ whole_at before c
  pub within : (c : ℕ) → c < n → nat_abs (whole_at after c) ≤ most
  pub small : (m : ℕ) → CombinationsStayWithin m a b before others → most ≤ m

-- The numbers of the columns below n are divided by the divisor, without a remainder; those of
-- later columns are unchanged.
pub record AreDividedTo (divisor : ℕ) (before after : List ℤ) (n : ℕ) : Type 0 where
  pub sized : length after ≡ length before
  pub done : (c : ℕ) → c < n → whole_at after c *ℤ pos divisor ≡ whole_at before c
  pub left : (c : ℕ) → n ≤ c → whole_at after c ≡ whole_at before c

-- The numbers of the columns below n are negated; those of later columns are unchanged.
pub record AreNegatedTo (before after : List ℤ) (n : ℕ) : Type 0 where
  pub sized : length after ≡ length before
  pub done : (c : ℕ) → c < n → whole_at after c ≡ neg_ℤ (whole_at before c)
  pub left : (c : ℕ) → n ≤ c → whole_at after c ≡ whole_at before c

-- Each number of `after` is a times that of `before` less b times that of `others`. The magnitudes
-- are at most `most`, and `most` is at most any m for which `CombinationsStayWithin` holds: at each
-- column the sum of the magnitudes of the two products is at most m.
pub record AreLessened (a b : ℤ) (before others after : List ℤ) (most : ℕ) : Type 0 where
  pub sized : length after ≡ length before
  pub numbers : (c : ℕ) → c < length before → whole_at after c ≡ a *ℤ whole_at before c -ℤ b *ℤ whole_at others c
  pub within : AreWithin after most
  pub small : (m : ℕ) → CombinationsStayWithin m a b before others → most ≤ m

-- The numbers of `after` are those of `before`, divided by the divisor without a remainder.
pub record AreOver (divisor : ℕ) (before after : List ℤ) : Type 0 where
  pub sized : length after ≡ length before
  pub numbers : (c : ℕ) → whole_at after c *ℤ pos divisor ≡ whole_at before c

-- The numbers of `after` are those of `before`, negated.
pub record AreNegated (before after : List ℤ) : Type 0 where
  pub sized : length after ≡ length before
  pub numbers : (c : ℕ) → whole_at after c ≡ neg_ℤ (whole_at before c)

-- `places` has exactly the columns below n whose number is not 0, in any order, without repetition.
pub record ArePlaces (numbers : List ℤ) (n : ℕ) (places : List ℕ) : Type 0 where
  pub some : (i c : ℕ) → slice_get places i ≡ Some c → (c < n) × (whole_at numbers c ≢ pos 0)
  pub apart : (i j c : ℕ) → slice_get places i ≡ Some c → slice_get places j ≡ Some c → i ≡ j
  pub all : (c : ℕ) → c < n → whole_at numbers c ≢ pos 0 → (i : ℕ) × (slice_get places i ≡ Some c)

-- At the first n columns of `places` `after` has the number of `before` less b times that of
-- `others`; elsewhere it has that of `before`. All magnitudes in `after` are at most `most`. `most`
-- is at least `least`, and at most any m from `least` on for which at each column the magnitudes of
-- the number of `before` and of the product add up to at most m (`CombinationsStayWithin`).
pub record AreLessenedAt (b : ℤ) (before others after : List ℤ) (places : List ℕ) (n least most : ℕ) : Type 0 where
  pub sized : length after ≡ length before
  pub done : (i c : ℕ) → i < n → slice_get places i ≡ Some c → whole_at after c ≡ pos 1 *ℤ whole_at before c -ℤ b *ℤ whole_at others c
  pub left : (c : ℕ) → ((i : ℕ) → i < n → slice_get places i ≢ Some c) → whole_at after c ≡ whole_at before c
  pub within : AreWithin after most
  pub extended : least ≤ most
  pub small : (m : ℕ) → CombinationsStayWithin m (pos 1) b before others → least ≤ m → most ≤ m

-- At each column `after` has x - b y, where x and y are the numbers of `before` and `others`. The
-- magnitudes in `after` are at most `most`. `most` is at least `least`, and at most any m from
-- `least` on for which |x| + |b y| is at most m at each column (`CombinationsStayWithin`).
pub record AreLessenedFrom (least : ℕ) (b : ℤ) (before others after : List ℤ) (most : ℕ) : Type 0 where
  pub sized : length after ≡ length before
  pub numbers : (c : ℕ) → c < length before → whole_at after c ≡ pos 1 *ℤ whole_at before c -ℤ b *ℤ whole_at others c
  pub within : AreWithin after most
  pub extended : least ≤ most
  pub small : (m : ℕ) → CombinationsStayWithin m (pos 1) b before others → least ≤ m → most ≤ m
