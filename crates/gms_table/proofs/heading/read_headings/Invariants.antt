use Rattle.std.proofs.Common.{ℕ, List, take}
use Rattle.gms_table.specs.WordLabels.{IsPrefix}
use Rattle.gms_table.specs.InnerShown.{seen_all}
use Rattle.gms_table.specs.TableEntries.{TablePart}
use Rattle.gms_table.specs.InnerProgress.{Progress}
use Rattle.gms_table.proofs.RowLemmas.{HeadingsSoFar}
use Rattle.gms_table.proofs.heading.read_headings.Given as goal

-- the headings so far
abbrev pub invariant-loop-word : goal.invariant-loop-word
invariant-loop-word l = record {
  read : (limit : ℕ) (labels : List (List ℕ)) (before : List TablePart) → Progress limit labels before l.fn.table → HeadingsSoFar limit labels before (seen_all (take l.word-index l.words)) l.table l.headings.items;
  extended : IsPrefix l.fn.table l.table;
}
