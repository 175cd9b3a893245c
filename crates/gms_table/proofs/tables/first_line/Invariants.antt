use Rattle.std.proofs.Common.{◌≡◌, ◌≤◌, length}
use Rattle.std.specs.Prelude.{All, string_len}
use Rattle.gms_grammar.specs.LineFaults.{longest_line}
use Rattle.gms_table.specs.TableEntries.{table_of}
use Rattle.gms_table.specs.InnerProgress.{lines_of}
use Rattle.gms_table.proofs.tables.first_line.Given as goal

-- the lines so far have no words
abbrev pub invariant-loop-line : goal.invariant-loop-line
invariant-loop-line l = record {
  parts : table_of (lines_of l.lines) ≡ table_of (lines_of l.rest);
  short : All (λ line. string_len line.text ≤ longest_line) l.rest;
}

abbrev pub decreases-loop-line : goal.decreases-loop-line
decreases-loop-line l = length l.rest
