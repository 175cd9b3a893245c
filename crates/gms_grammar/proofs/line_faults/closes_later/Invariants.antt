use Rattle.std.proofs.Common.{◌≡◌, length}
use Rattle.std.specs.List.{list_any}
use Rattle.gms_grammar.specs.Lines.{closes, lines}
use Rattle.gms_grammar.proofs.line_faults.closes_later.Given as goal

-- none of the lines that were passed ends a block
abbrev pub invariant-loop-line : goal.invariant-loop-line
invariant-loop-line l = list_any closes (lines l.fn.text) ≡ list_any closes (lines l.rest)

abbrev pub decreases-loop-line : goal.decreases-loop-line
decreases-loop-line l = length l.rest
