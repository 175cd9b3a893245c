use Rattle.std.proofs.Common.{◌≡◌, ◌+◌, ◌++◌, false, length}
use Rattle.std.specs.Option.{option_or}
use Rattle.gms_grammar.specs.Lines.{lines, code_of, code_text}
use Rattle.gms_grammar.specs.InnerLineSearch.{first_in_lines}
use Rattle.gms_grammar.proofs.blanking.code_text.Given as goal

-- what was read so far, with what the rest is read as, is the whole
abbrev pub invariant-loop-line : goal.invariant-loop-line
invariant-loop-line l = record {
  start : l.start + length l.rest ≡ length l.source;
  text : l.text.items ++ code_of l.inside (lines l.rest) ≡ code_text l.source;
  as_long : length l.text.items ≡ l.start;
  fault : option_or l.fault (first_in_lines l.start l.inside (lines l.rest)) ≡ first_in_lines 0 false (lines l.source);
}

abbrev pub decreases-loop-line : goal.decreases-loop-line
decreases-loop-line l = length l.rest
