use Rattle.std.proofs.Common.{ℕ, map, string_bytes}
use Rattle.gq_number.specs.Number.{Number}
use Rattle.lp_core.specs.declared.program.Column.{Column}
use Rattle.lp_core.specs.Numbers.{column_numbers}
use Rattle.lp_range.specs.Ranges.{span_value}
use Rattle.gms_command.specs.RangeTexts.{cost_line, span_at}
use Rattle.gms_command.proofs.Appended.{Goes}
use Rattle.gms_command.proofs.lines.push_costs.Given as goal

-- the lines of the columns from this place on are left
abbrev pub invariant-loop-place : goal.invariant-loop-place
invariant-loop-place g l =
    Goes (λ (p : ℕ × Column Number). cost_line l.names l.labels p.1 (span_at (map (span_value g.F.ExactField.value) l.ranges) p.0)) (column_numbers g.F.ExactField.value) l.columns (string_bytes l.fn.text) l.place (string_bytes l.text)
