use Rattle.std.proofs.Common.{ℕ, List, drop}
use Rattle.gms_table.specs.Words.{Word}
use Rattle.gms_table.specs.WordLabels.{IsPrefix}
use Rattle.gms_table.specs.InnerShown.{AreSpaced, AreHeadings}
use Rattle.gms_table.specs.TableEntries.{TablePart}
use Rattle.gms_table.specs.InnerProgress.{lines_of, Keeps, LinesSoFar}
use Rattle.gms_table.proofs.tables.read_rows.Given as goal

-- the lines so far
abbrev pub invariant-loop-line : goal.invariant-loop-line
invariant-loop-line g l = record {
  rows : (labels : List (List ℕ)) (before : List TablePart) (names : List Word) → Keeps g.F.ExactField.limit g.F.ExactField.value labels before l.fn.table l.fn.entries → AreHeadings l.fn.table names l.fn.headings.items → AreSpaced names
      → LinesSoFar g.F.ExactField.limit g.F.ExactField.value labels before names (lines_of l.lines) (lines_of (drop l.line-index l.lines)) l.table l.entries l.headings.items;
  extended : IsPrefix l.fn.table l.table;
}
