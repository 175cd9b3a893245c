use Rattle.std.proofs.Common.{ℕ, List, take}
use Rattle.gms_table.specs.Words as words
use Rattle.gms_table.specs.InnerShown.{seen, seen_all, AreSpaced, AreHeadings}
use Rattle.gms_table.specs.TableEntries.{TablePart}
use Rattle.gms_table.specs.InnerProgress.{Keeps}
use Rattle.gms_table.proofs.RowSteps.{RowSoFar}
use Rattle.gms_table.proofs.tables.read_row.Given as goal

-- the row so far
abbrev pub invariant-loop-word : goal.invariant-loop-word
invariant-loop-word g l =
    (labels : List (List ℕ)) (before : List TablePart) (names : List words.Word) → Keeps g.F.ExactField.limit g.F.ExactField.value labels before l.fn.table l.fn.entries → AreHeadings l.fn.table names l.headings → AreSpaced names
    → RowSoFar g.F.ExactField.limit g.F.ExactField.value labels before (seen l.label) names (seen_all (take l.word-index l.words)) l.table l.entries l.row.items l.headings
