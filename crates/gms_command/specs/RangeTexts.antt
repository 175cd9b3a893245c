-- What is printed of the ranges of the solves of a run (Chvatal, Linear Programming, chapter 10):
-- the range in which each right side and each cost may move, by itself, while the basis of an
-- optimum remains optimal. The form of the lines is this project's own.
use Rattle.std.specs.Prelude.{◌≡◌, ℕ, ◌+◌, List, [], ◌∷◌, ◌++◌, flat_map, slice_index_or, Option, Some, None, option_map, codes, if◌then◌else◌}
use Rattle.std.specs.List.{enumerate_from}
use Rattle.gq_number.specs.Number.{Number}
use Rattle.gms_fmt.specs.ElementTexts.{element_text}
use Rattle.gq_text.specs.ExactText.{exact_text}
use Rattle.gms_command.specs.CommandLine.{ranges_line, range_line, not_shown_line}
use Rattle.lp_form.specs.declared.key.Key.{Key}
use Rattle.lp_core.specs.declared.answer.Answer.{Answer}
use Rattle.lp_core.specs.declared.answer.End.{End}
use Rattle.lp_core.specs.declared.answer.End.TheVariants.{Optimal}
use Rattle.lp_core.specs.declared.answer.Pivot.{Pivot}
use Rattle.lp_core.specs.declared.program.Column.{Column}
use Rattle.lp_core.specs.declared.program.Row.{Row}
use Rattle.lp_core.specs.declared.program.Lp.{Lp}
use Rattle.lp_core.specs.Dictionary.{Dictionary}
use Rattle.lp_range.specs.Spans.{Span}
use Rattle.lp_range.specs.Moved.{itself}
use Rattle.lp_range.specs.Ranges.{LeadTo, rights, costs}
use Rattle.lp_core.specs.Steps.{asks_nothing}

-- the line of the right side (`right`) or the cost (`cost`) of an element: its range, or, if that
-- is None, the words `not shown`
abbrev pub span_line : List ℕ → List ℕ → Option Span → List ℕ
span_line what element None = not_shown_line what element
span_line what element (Some span) = range_line what element (option_map exact_text span.low) (option_map exact_text span.high)

-- the range at an index of the list; None past the end
abbrev pub span_at : List (Option Span) → ℕ → Option Span
span_at spans place = slice_index_or spans place None

-- With the names and the labels of a program:
module _ (names labels : List (List ℕ)) where
  -- the text of an element, such as `x(seattle,chicago)`
  abbrev pub range_key_text : Key → List ℕ
  range_key_text key = element_text names labels key.symbol key.tuple

  -- the line of a row's right side with its range; no line for a nonbinding row
  abbrev pub right_line : Row Number → Option Span → List ℕ
  right_line row span = if asks_nothing row.sense then [] else span_line (codes "right") (range_key_text row.key) span

  -- the line of a column's cost with its range
  abbrev pub cost_line : Column Number → Option Span → List ℕ
  cost_line column span = span_line (codes "cost") (range_key_text column.key) span

  -- the lines of the rows' right sides, where `spans` has the range of each row
  abbrev pub right_lines : List (Row Number) → List (Option Span) → List ℕ
  right_lines rows spans = flat_map (λ (p : ℕ × Row Number). right_line p.1 (span_at spans p.0)) (enumerate_from 0 rows)

  -- the lines of the columns' costs, where `spans` has the range of each column's cost
  abbrev pub cost_lines : List (Column Number) → List (Option Span) → List ℕ
  cost_lines columns spans = flat_map (λ (p : ℕ × Column Number). cost_line p.1 (span_at spans p.0)) (enumerate_from 0 columns)

  -- the ranges printed for a solve whose answer is Optimal: a line with the solve's number, then
  -- the lines of the right sides, with the ranges `right_spans`, and of the costs, with the ranges
  -- `cost_spans`
  abbrev pub spans_text : ℕ → Lp Number → List (Option Span) → List (Option Span) → List ℕ
  spans_text solve lp right_spans cost_spans = ranges_line solve ++ right_lines lp.rows right_spans ++ cost_lines lp.columns cost_spans

  module _ (limit : ℕ) where
    -- the text is what is printed for the solve with the number `solve`, of the linear program
    -- `lp`, whose answer has these pivots and this end. If the end is Optimal, the text has the
    -- ranges of the right sides and of the costs at the dictionary `last`, to which the pivots lead
    -- from the first dictionary; for any other end it is empty. `limit` bounds the size of numbers
    abbrev pub SaysEnd : ℕ → Lp Number → List Pivot → End Number → List ℕ → Type 0
    SaysEnd solve lp pivots (Optimal levels row_levels duals reduced) text =
        (last : Dictionary) × LeadTo itself limit lp pivots last × (text ≡ spans_text solve lp (rights itself limit lp last) (costs itself limit lp last))
    SaysEnd solve lp pivots end text = text ≡ []

    -- the text is what is printed for the answer of the solve with the number `solve`, whose linear
    -- program is `lp`
    abbrev pub SaysAnswer : ℕ → Lp Number → Answer Number → List ℕ → Type 0
    SaysAnswer solve lp answer text = SaysEnd solve lp answer.pivots answer.end text

    -- the text is what is printed for solves in order, by their programs and answers; `solve` is
    -- the number of the first. Nothing is printed past the end of either list
    abbrev pub SaysRanges : ℕ → List (Lp Number) → List (Answer Number) → List ℕ → Type 0
    SaysRanges solve (lp ∷ programs) (answer ∷ answers) text =
        (first rest : List ℕ) × SaysAnswer solve lp answer first × SaysRanges (solve + 1) programs answers rest × (text ≡ first ++ rest)
    SaysRanges solve programs answers text = text ≡ []
