-- Dictionaries, legal pivots and the exchange (Chvatal, Linear Programming, chapters 2 and 3).
use Rattle.std.specs.Prelude.{◌≡◌, ◌≢◌, ◌↔◌, ℕ, zero, suc, ◌+◌, ◌&&◌, nat_lt, ◌<◌, ◌≤◌, ◌==◌, ◌⊎◌, Bool, pos, List, [], length, slice_index_or, slice_get, slice_set, Contains, Option, Some, None, if◌then◌else◌}
use Rattle.std.specs.List.{All, list_any, range_with_len}
use Rattle.gq_number.specs.Number.{Number, whole, ◌-ℚ◌, ◌*ℚ◌, ◌/ℚ◌, neg_ℚ}
use Rattle.gq_number.specs.Order.{◌≤ℚ◌, ◌<ℚ◌, number_cmp}
use Rattle.gq_number.specs.Sums.{sum_by_ℚ}
use Rattle.std.specs.Ordering.{is_lt}
use Rattle.lp_core.specs.declared.answer.Pivot.{Pivot}
use Rattle.lp_core.specs.Sums.{value_of_column}
use Rattle.lp_core.specs.StandardForm.{Standard, StandardRow, of_bound}

-- A dictionary: an equation for each basic variable, and the objective. `numbers k c` is the number
-- of row k in column c: the constant in column 0, the coefficient of variable v in column v + 1.
-- Row k states that the constant equals the sum of each variable times its coefficient, which is 1
-- for the row's basic variable. The row after these is the objective, with its constant negated in
-- column 0. Variable 0 is the artificial variable of phase 1.
pub record Dictionary : Type 0 where
  -- the greatest number of a variable
  pub variables : ℕ
  -- the basic variable of each row
  pub basic : List ℕ
  pub numbers : ℕ → ℕ → Number

-- the basic variable of row k; 0 past the last row
abbrev pub basic_at : Dictionary → ℕ → ℕ
basic_at d k = slice_index_or d.basic k 0

-- the constant of row k
abbrev pub constant_at : Dictionary → ℕ → Number
constant_at d k = d.numbers k 0

-- the coefficient of variable v in row k
abbrev pub entry_at : Dictionary → ℕ → ℕ → Number
entry_at d k v = d.numbers k (v + 1)

-- the residual of row k at the values x of all variables: the sum of the terms less the constant
abbrev pub row_at : Dictionary → ℕ → List Number → Number
row_at d k x = sum_by_ℚ (λ v. entry_at d k v *ℚ value_of_column x v) (range_with_len 0 (d.variables + 1)) -ℚ constant_at d k

-- The values x, one for each variable from number 0, satisfy the equations of the dictionary, and
-- the objective has this value at them.
pub record Meets (d : Dictionary) (x : List Number) (objective : Number) : Type 0 where
  pub sized : length x ≡ d.variables + 1
  pub rows : (k : ℕ) → k < length d.basic → row_at d k x ≡ whole (pos 0)
  pub objective_row : row_at d (length d.basic) x ≡ objective

-- whether the right side of some row is below 0
abbrev pub some_below : Standard → Bool
some_below s = list_any (λ row. is_lt (number_cmp row.right (whole (pos 0)))) s.rows

-- the coefficient of variable v: the sum of its entries in this list, 0 without an entry
abbrev pub of_variable : List (ℕ × Number) → ℕ → Number
of_variable entries v = sum_by_ℚ (λ e. if e.0 == v then e.1 else whole (pos 0)) entries

-- the coefficient of a variable in a row of the first dictionary: for variable 0, -1 if phase 1 is
-- `needed`, else 0; for `slack`, the row's own slack variable, 1; for another the row's coefficient
abbrev pub first_entry : Bool → ℕ → StandardRow → ℕ → Number
first_entry needed slack row zero = if needed then neg_ℚ (whole (pos 1)) else whole (pos 0)
first_entry needed slack row (suc v) = if suc v == slack then whole (pos 1) else of_variable row.entries (suc v)

-- the number of a row of the first dictionary in a column: the right side in column 0, the
-- coefficient of variable v in column v + 1. `needed` says whether phase 1 is needed, and `slack`
-- is the row's slack variable
abbrev pub first_row : Bool → ℕ → StandardRow → ℕ → Number
first_row needed slack row zero = row.right
first_row needed slack row (suc v) = first_entry needed slack row v

-- the objective row of the first dictionary by column: the negated constant, 0 for variable 0, then
-- the objective's coefficients of the variables from number 1
abbrev pub first_objective : Standard → ℕ → Number
first_objective s zero = neg_ℚ s.constant
first_objective s (suc zero) = whole (pos 0)
first_objective s (suc (suc v)) = value_of_column s.objective v

-- a row without entries and with the right side 0, the default past the last row; its origin is
-- arbitrary
abbrev pub no_row : StandardRow
no_row = record { right = whole (pos 0); entries = []; origin = of_bound 0 }

-- The first dictionary of a standard form. The slacks are basic, numbered after the other
-- variables. If some right side is below 0 (`some_below`), phase 1 is needed, and variable 0 occurs
-- in each row. The objective follows the rows.
abbrev pub first_dictionary : Standard → Dictionary
first_dictionary s =
    let count : ℕ = length s.objective in
    record {
      variables = count + length s.rows;
      basic = range_with_len (count + 1) (length s.rows);
      numbers = λ k c. if nat_lt k (length s.rows) then first_row (some_below s) (count + 1 + k) (slice_index_or s.rows k no_row) c else first_objective s c;
    }

-- ---- which pivots are legal

-- variable 0 is basic in the dictionary, as it is in phase 1 after the opening pivot
abbrev pub InPhaseOne : Dictionary → Type 0
InPhaseOne d = Contains d.basic 0

-- the opening pivot of phase 1, in which variable 0 enters, is required: the constant of some row
-- is below 0
abbrev pub OpeningIsRequired : Dictionary → Type 0
OpeningIsRequired d = (k : ℕ) × (k < length d.basic) × (constant_at d k <ℚ whole (pos 0))

-- row k is the priced row, whose coefficients tell which variables improve: that of variable 0
-- while it is basic, else the objective
abbrev pub IsPriced : Dictionary → ℕ → Type 0
IsPriced d k = (slice_get d.basic k ≡ Some 0) ⊎ (¬ (InPhaseOne d) × (k ≡ length d.basic))

-- Variable v improves: it is neither basic nor variable 0, and its coefficient in the priced row is
-- above 0.
pub record Improves (d : Dictionary) (v : ℕ) : Type 0 where
  pub other : v ≢ 0
  pub there : v ≤ d.variables
  pub not_basic : ¬ (Contains d.basic v)
  pub above : (k : ℕ) → IsPriced d k → whole (pos 0) <ℚ entry_at d k v

-- row k limits the rise of variable q: the coefficient of q in the row is above 0
abbrev pub Limits : Dictionary → ℕ → ℕ → Type 0
Limits d q k = (k < length d.basic) × (whole (pos 0) <ℚ entry_at d k q)

-- how far row k lets variable q rise, if its coefficient of q is above 0: the row's constant over
-- this coefficient. The row states that the sum of its terms equals its constant
abbrev pub ratio_at : Dictionary → ℕ → ℕ → Number
ratio_at d q k = constant_at d k /ℚ entry_at d k q

-- Row k ties in the ratio test of variable q: it limits q, and no row that limits q has a smaller
-- ratio.
pub record Ties (d : Dictionary) (q k : ℕ) : Type 0 where
  pub limits : Limits d q k
  pub least : (i : ℕ) → Limits d q i → ratio_at d q k ≤ℚ ratio_at d q i

-- no row has a smaller constant than row k
abbrev pub IsLeast : Dictionary → ℕ → Type 0
IsLeast d k = (k < length d.basic) × ((i : ℕ) → i < length d.basic → constant_at d k ≤ℚ constant_at d i)

-- The opening pivot, at a dictionary with a constant below 0: variable 0 enters, and the variable
-- of row k leaves, whose constant is the least.
pub record IsOpening (d : Dictionary) (p : Pivot) (k : ℕ) : Type 0 where
  pub required : OpeningIsRequired d
  pub enters : p.enter ≡ 0
  pub leaves : slice_get d.basic k ≡ Some p.leave
  pub least : IsLeast d k

-- A pivot at a dictionary without a constant below 0: an improving variable enters, and the
-- variable of row k leaves. Row k has the least ratio in the ratio test (`Ties`). If the row of
-- variable 0 has the least ratio too, variable 0 leaves.
pub record IsStep (d : Dictionary) (p : Pivot) (k : ℕ) : Type 0 where
  pub not_required : ¬ (OpeningIsRequired d)
  pub improves : Improves d p.enter
  pub leaves : slice_get d.basic k ≡ Some p.leave
  pub ties : Ties d p.enter k
  pub zero_first : (i : ℕ) → slice_get d.basic i ≡ Some 0 → Ties d p.enter i → p.leave ≡ 0

-- a legal pivot; k is the row of the variable that leaves
abbrev pub IsLegal : Dictionary → Pivot → ℕ → Type 0
IsLegal d p k = IsOpening d p k ⊎ IsStep d p k

-- the variable that leaves when q enters: the least basic variable of the rows that tie, or None if
-- no row limits q
abbrev pub IsLeaving : Dictionary → ℕ → Option ℕ → Type 0
IsLeaving d q None = (k : ℕ) → ¬ (Limits d q k)
IsLeaving d q (Some v) = ((k : ℕ) × (slice_get d.basic k ≡ Some v) × Ties d q k) × ((i : ℕ) → Ties d q i → v ≤ basic_at d i)

-- ---- the exchange

-- the number of row k in column c, divided by the row's coefficient of the entering variable q
abbrev pub divided_entry : Dictionary → ℕ → ℕ → ℕ → Number
divided_entry d q k c = d.numbers k c /ℚ entry_at d k q

-- the number of row i in column c after variable q has become basic in row k: row k is divided by
-- its coefficient of q, and from each other row the multiple of row k is subtracted that makes the
-- coefficient of q in the other row zero
abbrev pub exchanged_numbers : Dictionary → ℕ → ℕ → ℕ → ℕ → Number
exchanged_numbers d q k i c = if i == k then divided_entry d q k c else d.numbers i c -ℚ entry_at d i q *ℚ divided_entry d q k c

-- the dictionary after variable q has become basic in row k; if variable 0 leaves, all coefficients
-- of variable 0, which are in column 1, become 0
abbrev pub exchanged : Dictionary → ℕ → ℕ → Dictionary
exchanged d q k =
    record {
      variables = d.variables;
      basic = slice_set d.basic k q;
      numbers = λ i c. if basic_at d k == 0 && c == 1 then whole (pos 0) else exchanged_numbers d q k i c;
    }

-- ---- dictionaries of a program

-- The invariant of each dictionary of a program: the basic variables are distinct variables of the
-- dictionary. Each has coefficient 1 in its own row, and 0 in the other rows and in the objective.
-- If some constant is below 0, variable 0 has coefficient -1 in each row, except perhaps in the
-- objective. While variable 0 is basic, the constant of its row is above 0.
pub record IsProper (d : Dictionary) : Type 0 where
  pub distinct : (i j v : ℕ) → slice_get d.basic i ≡ Some v → slice_get d.basic j ≡ Some v → i ≡ j
  pub there : (k v : ℕ) → slice_get d.basic k ≡ Some v → v ≤ d.variables
  pub own : (k v : ℕ) → slice_get d.basic k ≡ Some v → entry_at d k v ≡ whole (pos 1)
  pub apart : (k i v : ℕ) → slice_get d.basic k ≡ Some v → i ≢ k → entry_at d i v ≡ whole (pos 0)
  pub opening : OpeningIsRequired d → (k : ℕ) → k < length d.basic → entry_at d k 0 ≡ neg_ℚ (whole (pos 1))
  pub above : (k : ℕ) → slice_get d.basic k ≡ Some 0 → whole (pos 0) <ℚ constant_at d k

-- variable 0 is in use: it is basic, or the opening pivot, in which it enters, is required
abbrev pub HasZero : Dictionary → Type 0
HasZero d = InPhaseOne d ⊎ OpeningIsRequired d

-- A dictionary of a standard form. Its basic variables are variables of the form, each with
-- coefficient 1 in its own row, 0 elsewhere. The same values satisfy it, with the same objective,
-- as the first dictionary; if variable 0 is not in use (`HasZero`), this holds for values with 0 at
-- variable 0. If variable 0 is basic and no constant is below 0, that of its row is above 0.
pub record IsDictionaryOf (s : Standard) (d : Dictionary) : Type 0 where
  pub variables : d.variables ≡ length s.objective + length s.rows
  pub sized : length d.basic ≡ length s.rows
  pub there : All (λ v. v ≤ d.variables) d.basic
  pub own : (k : ℕ) → k < length d.basic → entry_at d k (basic_at d k) ≡ whole (pos 1)
  pub alone : (i k : ℕ) → i ≤ length d.basic → k < length d.basic → i ≢ k → entry_at d i (basic_at d k) ≡ whole (pos 0)
  pub same : (x : List Number) (objective : Number) → (¬ (HasZero d) → value_of_column x 0 ≡ whole (pos 0)) → Meets d x objective ↔ Meets (first_dictionary s) x objective
  pub zero_above : (k : ℕ) → slice_get d.basic k ≡ Some 0 → ¬ (OpeningIsRequired d) → whole (pos 0) <ℚ constant_at d k
