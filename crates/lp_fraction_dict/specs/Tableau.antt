-- A dictionary as it is stored: each row and the objective have only numbers other than 0 (Chvatal,
-- Linear Programming, chapter 2).
use Rattle.std.specs.Prelude.{◌≡◌, ℕ, ◌+◌, ◌^◌, ◌<◌, ◌≤◌, List, [], length, slice_get, slice_index_or, Option, Some, None, Contains}
use Rattle.gq_number.specs.Number.{Number}
use Rattle.lp_core.specs.Dictionary.{Dictionary, IsProper}
use Rattle.lp_fraction_dict.specs.declared.row.Entry.{Entry}
use Rattle.lp_fraction_dict.specs.Rows.{IsRow, number_in}
use Rattle.lp_fraction_dict.specs.Lines.{line}

-- A stored dictionary: the basic variable of each row, the rows and the objective by entries that
-- are not 0, and `upcoming`, the ordinal of the next pivot.
pub record FractionTableau (F : Type 0) : Type 0 where
  -- the greatest number of a variable
  pub variables : ℕ
  pub basic : List ℕ
  pub rows : List (List (Entry F))
  pub objective : List (Entry F)
  pub upcoming : ℕ

-- the tableau with these fields
abbrev pub fraction_tableau : {F : Type 0} → ℕ → List ℕ → List (List (Entry F)) → List (Entry F) → ℕ → FractionTableau F
fraction_tableau variables basic rows objective upcoming =
    record { variables = variables; basic = basic; rows = rows; objective = objective; upcoming = upcoming }

-- the dictionary that a tableau stores; each index from the number of rows on gives the objective
abbrev pub fraction_dictionary : {F : Type 0} → (F → Number) → FractionTableau F → Dictionary
fraction_dictionary value t =
    record {
      variables = t.variables;
      basic = t.basic;
      numbers = λ k c. number_in value (line t.rows t.objective k) c;
    }

-- The invariant of a tableau: a row for each basic variable, all entries in order and at columns of
-- the dictionary, no more rows than variables other than 0, column numbers of at most 32 bits, and
-- what `IsProper` states of the dictionary that it stores.
pub record IsTableau {F : Type 0} (value : F → Number) (t : FractionTableau F) : Type 0 where
  pub sized : t.variables + 2 < 2 ^ 32
  pub few : length t.basic ≤ t.variables
  pub paired : length t.rows ≡ length t.basic
  pub rows : (k : ℕ) → IsRow value 0 (t.variables + 2) (slice_index_or t.rows k [])
  pub objective : IsRow value 0 (t.variables + 2) t.objective
  pub proper : IsProper (fraction_dictionary value t)

-- Some k: variable v is basic in row k. None: it is not basic.
abbrev pub IsPlace : List ℕ → ℕ → Option ℕ → Type 0
IsPlace basic v (Some k) = slice_get basic k ≡ Some v
IsPlace basic v None = ¬ (Contains basic v)
