-- Programs and answers whose values are the numbers they mean, to compare those over two fields.
use Rattle.std.specs.Prelude.{◌≡◌, ℕ, true, List, map, IfSome}
use Rattle.std.specs.List.{All}
use Rattle.gq_number.specs.Number.{Number}
use Rattle.gq_field.specs.Fits.{fits}
use Rattle.lp_core.specs.declared.answer.End.{End}
use Rattle.lp_core.specs.declared.answer.End.TheVariants.{Optimal, Infeasible, Unbounded, Interrupted, Refused}
use Rattle.lp_core.specs.declared.answer.Answer.{Answer}
use Rattle.lp_core.specs.declared.program.Column.{Column}
use Rattle.lp_core.specs.declared.program.Row.{Row}
use Rattle.lp_core.specs.declared.program.Lp.{Lp}
use Rattle.lp_core.specs.Feasible.{bound_value}

module _ {F : Type 0} (value : F → Number) where
  -- entries, each coefficient as the number that it means
  abbrev pub entries_numbers : List (ℕ × F) → List (ℕ × Number)
  entries_numbers entries = map (λ (e : ℕ × F). (e.0, value e.1)) entries

  -- a column, its bounds as the numbers that they mean
  abbrev pub column_numbers : Column F → Column Number
  column_numbers column = record { key = column.key; lower = bound_value value column.lower; upper = bound_value value column.upper }

  -- a row, its right side and its coefficients as the numbers that they mean
  abbrev pub row_numbers : Row F → Row Number
  row_numbers row = record { key = row.key; sense = row.sense; right = value row.right; entries = entries_numbers row.entries }

  -- a program with the numbers that its values mean
  abbrev pub lp_numbers : Lp F → Lp Number
  lp_numbers lp =
      record {
        columns = map column_numbers lp.columns;
        rows = map row_numbers lp.rows;
        objective = lp.objective;
        maximize = lp.maximize;
      }

  -- an end with the numbers that its values mean
  abbrev pub end_numbers : End F → End Number
  end_numbers (Optimal levels row_levels duals reduced) = Optimal (map value levels) (map value row_levels) (map value duals) (map value reduced)
  end_numbers (Infeasible duals crossed) = Infeasible (map value duals) crossed
  end_numbers (Unbounded levels row_levels ray) = Unbounded (map value levels) (map value row_levels) (map value ray)
  end_numbers (Interrupted phase levels row_levels) = Interrupted phase (map value levels) (map value row_levels)
  end_numbers (Refused step) = Refused step

  -- an answer with the numbers that its values mean
  abbrev pub answer_numbers : Answer F → Answer Number
  answer_numbers answer = record { pivots = answer.pivots; end = end_numbers answer.end }

-- no numerator or denominator of a column's numbers exceeds the limit
abbrev pub ColumnIsWithin : ℕ → Column Number → Type 0
ColumnIsWithin limit column = IfSome column.lower (λ b. fits limit b ≡ true) × IfSome column.upper (λ b. fits limit b ≡ true)

-- no numerator or denominator of a row's numbers exceeds the limit
abbrev pub RowIsWithin : ℕ → Row Number → Type 0
RowIsWithin limit row = (fits limit row.right ≡ true) × All (λ (e : ℕ × Number). fits limit e.1 ≡ true) row.entries

-- no numerator or denominator of a program's numbers exceeds the limit
abbrev pub IsWithin : ℕ → Lp Number → Type 0
IsWithin limit lp = All (ColumnIsWithin limit) lp.columns × All (RowIsWithin limit) lp.rows
