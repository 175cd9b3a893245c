-- A dictionary as its callers view it, and the two ways in which it is stored (Chvatal, Linear
-- Programming, chapter 2).
use Rattle.std.specs.Prelude.{◌≢◌, ℕ, ◌≤◌, List, length}
use Rattle.gq_number.specs.Number.{Number}
use Rattle.lp_core.specs.Dictionary.{Dictionary, OpeningIsRequired, IsProper}
use Rattle.lp_fraction_dict.specs.Tableau as exact
use Rattle.lp_integer_dict.specs.Whole.{integer_dictionary as dictionary_of}
use Rattle.lp_dict.specs.declared.body.Body.{Body}
use Rattle.lp_dict.specs.declared.body.Body.TheVariants as body

-- A dictionary: the basic variable of each row, the stored numbers (`body`), and `upcoming`, the
-- ordinal of the next pivot.
pub record Tableau (F : Type 0) : Type 0 where
  -- the greatest number of a variable
  pub variables : ℕ
  pub basic : List ℕ
  pub body : Body F
  pub upcoming : ℕ

-- the ordinal of the next pivot, which is kept with a stored dictionary
abbrev pub upcoming_of : {F : Type 0} → Body F → ℕ
upcoming_of (body.Whole w upcoming) = upcoming
upcoming_of (body.Exact t) = t.upcoming

-- the dictionary that is stored, by integer rows or by fractions
abbrev pub kept : {F : Type 0} → (F → Number) → Body F → Dictionary
kept value (body.Whole w upcoming) = dictionary_of w
kept value (body.Exact t) = exact.fraction_dictionary value t

-- the view that callers have of a stored dictionary: the greatest number of a variable, the basic
-- variables, the stored form, and the ordinal of the next pivot (`upcoming`)
abbrev pub tableau : {F : Type 0} → (F → Number) → Body F → Tableau F
tableau value b =
    record { variables = (kept value b).variables; basic = (kept value b).basic; body = b; upcoming = upcoming_of b }

-- the dictionary of a tableau, with the numbers of the stored dictionary; the row after those of
-- the basic variables is the objective
abbrev pub dictionary : {F : Type 0} → (F → Number) → Tableau F → Dictionary
dictionary value t = record { variables = t.variables; basic = t.basic; numbers = (kept value t.body).numbers }

-- the bound on the size of the integers, if integer rows are stored, is at most the field's limit
-- on the size of numbers; fractions have no such bound
abbrev pub IsWithinField : {F : Type 0} → ℕ → Body F → Type 0
IsWithinField limit (body.Whole w upcoming) = w.bound ≤ limit
IsWithinField limit (body.Exact t) = Unit {0}

-- The invariant of a stored dictionary: it satisfies `IsProper`, the invariant of a program's
-- dictionaries; it has no more basic variables than variables other than 0; the bound on its
-- integers, if it stores integer rows, is at most the field's limit on the size of numbers; and the
-- opening pivot, in which variable 0 enters, may be required only before the first pivot.
pub record IsDictInvariant {F : Type 0} (value : F → Number) (limit : ℕ) (b : Body F) : Type 0 where
  pub proper : IsProper (kept value b)
  pub few : length (kept value b).basic ≤ (kept value b).variables
  pub bounded : IsWithinField limit b
  pub opened : upcoming_of b ≢ 1 → ¬ (OpeningIsRequired (kept value b))
