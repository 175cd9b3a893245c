use Rattle.std.proofs.Common.{ℕ, map, string_bytes}
use Rattle.gq_number.specs.Number.{Number}
use Rattle.lp_core.specs.declared.program.Row.{Row}
use Rattle.lp_core.specs.Numbers.{row_numbers}
use Rattle.lp_range.specs.Ranges.{span_value}
use Rattle.gms_command.specs.RangeTexts.{right_line, span_at}
use Rattle.gms_command.proofs.Appended.{Goes}
use Rattle.gms_command.proofs.lines.push_rights.Given as goal

-- the lines of the rows from this place on are left
abbrev pub invariant-loop-place : goal.invariant-loop-place
invariant-loop-place g l =
    Goes (λ (p : ℕ × Row Number). right_line l.names l.labels p.1 (span_at (map (span_value g.F.ExactField.value) l.ranges) p.0)) (row_numbers g.F.ExactField.value) l.rows (string_bytes l.fn.text) l.place (string_bytes l.text)
