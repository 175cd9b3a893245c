use Rattle.std.proofs.Common.{◌≡◌, ◌+◌, ◌-◌, ◌*◌, ◌≤◌, length, take, fold}
use Rattle.gms_grammar.specs.Columns.{column_after}
use Rattle.gms_table.proofs.word.column_after_bytes.Given as goal

-- the column after the bytes so far, which stays within the bound for the rest
abbrev pub invariant-loop-byte : goal.invariant-loop-byte
invariant-loop-byte l = record {
  column : l.column ≡ fold column_after l.fn.column (take l.byte-index l.text);
  grows : l.fn.column + l.byte-index ≤ l.column;
  within : l.column + 8 * (length l.text - l.byte-index) ≤ l.fn.column + 8 * length l.text;
}
