use Rattle.std.proofs.Common.{ℕ, ◌++◌, ◌∙◌, Option, ap, arith, map, refl, string_bytes}
use Rattle.gq_number.specs.Number.{Number}
use Rattle.lp_core.specs.declared.program.Row.{Row}
use Rattle.lp_core.specs.Numbers.{row_numbers}
use Rattle.lp_range.specs.Ranges.{span_value}
use Rattle.lp_range.specs.Spans.{Span}
use Rattle.gms_command.specs.RangeTexts.{right_line, span_at}
use Rattle.gms_command.proofs.Appended.{continues, gone}
use Rattle.gms_command.proofs.lines.push_rights.Goals as goal

pub loop-place-init : goal.loop-place-init
loop-place-init g c = refl

pub loop-place-preserved : goal.loop-place-preserved
loop-place-preserved g c =
    continues (λ (p : ℕ × Row Number). right_line c.args.names.now c.args.labels.now p.1 (span_at (map (span_value g.F.ExactField.value) c.args.ranges.now) p.0)) (row_numbers g.F.ExactField.value) c.args.rows.now (string_bytes c.args.text.now) c.loop-place.place c.index-rows-place.result (string_bytes c.loop-place.text) (string_bytes c.push_right.new.text) (omega arith) c.index-rows-place.is c.loop-place.invariant
    (c.in_ok-push_right.ensures ∙ ap (λ (span : Option Span). string_bytes c.loop-place.text ++ right_line c.args.names.now c.args.labels.now (row_numbers g.F.ExactField.value c.index-rows-place.result) span) c.range_at.ensures)

pub returns : goal.returns
returns g c =
    gone (λ (p : ℕ × Row Number). right_line c.args.names.now c.args.labels.now p.1 (span_at (map (span_value g.F.ExactField.value) c.args.ranges.now) p.0)) (row_numbers g.F.ExactField.value) c.args.rows.now (string_bytes c.args.text.now) c.loop-place.place (string_bytes c.loop-place.text) (omega arith) c.loop-place.invariant
