use Rattle.std.proofs.Common.{◌≡◌, ◌+◌, ◌-◌, ◌≤◌, length, drop}
use Rattle.gms_grammar.specs.Lines.{before, is_line_end}
use Rattle.gms_grammar.proofs.line.content_length.Given as goal

-- `count` bytes come before the first line end, and then those before it in the rest
abbrev pub invariant-loop-count : goal.invariant-loop-count
invariant-loop-count l = (l.count ≤ length l.text) × (before is_line_end l.text ≡ l.count + before is_line_end (drop l.count l.text))

abbrev pub decreases-loop-count : goal.decreases-loop-count
decreases-loop-count l = length l.text - l.count
