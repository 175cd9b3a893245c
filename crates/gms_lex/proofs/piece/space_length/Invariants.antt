use Rattle.std.proofs.Common.{◌≡◌, ◌+◌, ◌-◌, ◌≤◌, length, drop}
use Rattle.gms_grammar.specs.Lines.{before}
use Rattle.gms_lex.specs.Pieces.{begins_other}
use Rattle.gms_lex.proofs.piece.space_length.Given as goal

-- `count` bytes are blank, and then those that are blank at the start of the rest
abbrev pub invariant-loop-count : goal.invariant-loop-count
invariant-loop-count l = (l.count ≤ length l.text) × (before begins_other l.text ≡ l.count + before begins_other (drop l.count l.text))

abbrev pub decreases-loop-count : goal.decreases-loop-count
decreases-loop-count l = length l.text - l.count
