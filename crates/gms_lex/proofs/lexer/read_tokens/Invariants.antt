use Rattle.std.proofs.Common.{◌≡◌, ◌+◌, ◌-◌, ◌*◌, ◌≤◌, length}
use Rattle.gms_lex.specs.InnerDepths.{depth_of}
use Rattle.gms_lex.specs.Places.{place_of_byte}
use Rattle.gms_lex.proofs.ReadingLemmas.{Opens}
use Rattle.gms_lex.proofs.lexer.read_tokens.Given as goal

-- what was read so far
abbrev pub invariant-loop-start : goal.invariant-loop-start
invariant-loop-start l = record {
  opens : Opens l.source l.code l.tokens.items l.start l.mode;
  at : l.at ≡ place_of_byte l.source l.start;
  within : l.start ≤ length l.code;
  line : l.at.line ≤ l.start + 1;
  column : l.at.column ≤ 8 * l.start + 1;
  depth : depth_of l.mode ≤ l.start;
}

abbrev pub decreases-loop-start : goal.decreases-loop-start
decreases-loop-start l = length l.code - l.start
