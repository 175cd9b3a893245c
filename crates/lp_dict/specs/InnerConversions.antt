-- From fractions to integers and back, and what a pivot makes of either; what the functions
-- promise.
use Rattle.std.specs.Prelude.{◌≡◌, ℕ, ◌+◌, ◌<◌, List, [], ◌∷◌, ◌++◌, length, slice_get, slice_index_or, Some}
use Rattle.gq_number.specs.Number.{Number}
use Rattle.lp_core.specs.Counts.{counted}
use Rattle.lp_core.specs.declared.answer.Pivot.{Pivot}
use Rattle.lp_core.specs.Dictionary.{Dictionary, exchanged}
use Rattle.lp_core.specs.Steps.{AllFit, exchange_steps}
use Rattle.lp_fraction_dict.specs.declared.row.Entry.{Entry}
use Rattle.lp_std.specs.declared.stop.Stop.{Stop}
use Rattle.lp_fraction_dict.specs.Rows.{number_in}
use Rattle.lp_fraction_dict.specs.First.{IsFilled}
use Rattle.lp_fraction_dict.specs.Pivots.{StopsAtStep}
use Rattle.lp_fraction_dict.specs.Tableau as exact
use Rattle.lp_dict.specs.declared.body.Body.{Body}
use Rattle.lp_integer_rows.specs.declared.line.Line.{Line}
use Rattle.lp_integer_rows.specs.declared.parts.Part.{Part}
use Rattle.lp_integer_rows.specs.Form.{wholes, line_number, IsLine}
use Rattle.lp_dict.specs.Tableau.{kept, upcoming_of, IsWithinField}

-- an entry's number, numerator and denominator
abbrev pub part_of : {F : Type 0} → (F → Number) → Entry F → Part
part_of value e = record { column = e.column; numerator = (value e.number).numerator; denominator = (value e.number).denominator }

-- the rows, and the objective after them
abbrev pub all_rows : {F : Type 0} → exact.FractionTableau F → List (List (Entry F))
all_rows t = t.rows ++ t.objective ∷ []

-- An integer row with `width` columns means the numbers of a row.
pub record IsLineOf {F : Type 0} (value : F → Number) (width : ℕ) (row : List (Entry F)) (l : Line) : Type 0 where
  pub is_line : IsLine l
  pub sized : length (wholes l) ≡ width
  pub numbers : (c : ℕ) → line_number l c ≡ number_in value row c

-- Integer rows mean the rows, one for each in order.
pub record AreLinesOf {F : Type 0} (value : F → Number) (width : ℕ) (rows : List (List (Entry F))) (lines : List Line) : Type 0 where
  pub sized : length lines ≡ length rows
  pub each : (i : ℕ) (l : Line) → slice_get lines i ≡ Some l → IsLineOf value width (slice_index_or rows i []) l

-- the first n rows of a dictionary, by fractions
pub record AreFilled {F : Type 0} (value : F → Number) (d : Dictionary) (made : List (List (Entry F))) (n : ℕ) : Type 0 where
  pub sized : length made ≡ n
  pub each : (k : ℕ) → k < n → IsFilled value (d.numbers k) (d.variables + 2) (slice_index_or made k [])

-- A body follows a dictionary by the pivot of this number: it stores the exchanged dictionary, and
-- each step of the exchange fits.
pub record Follows {F : Type 0} (value : F → Number) (limit : ℕ) (before : Dictionary) (upcoming : ℕ) (p : Pivot) (after : Body F) : Type 0 where
  pub is_exchanged : (k : ℕ) → slice_get before.basic k ≡ Some p.leave → kept value after ≡ exchanged before p.enter k
  pub fits : (k : ℕ) → slice_get before.basic k ≡ Some p.leave → AllFit (exchange_steps limit upcoming before p.enter k)
  pub bounded : IsWithinField limit after
  pub next : upcoming_of after ≡ counted (upcoming + 1)

-- the first step of a pivot that does not fit, or out of memory
abbrev pub StopsBy : ℕ → Dictionary → ℕ → Pivot → Stop → Type 0
StopsBy limit before upcoming p stop =
    (k : ℕ) → slice_get before.basic k ≡ Some p.leave → StopsAtStep (exchange_steps limit upcoming before p.enter k) stop
