use Rattle.std.proofs.Common.{◌<◌, ◌≤◌, length, arith}
use Rattle.lp_fraction_dict.specs.Rows.{number_in, IsFirstMisfit}
use Rattle.lp_fraction_dict.specs.Lines.{entries_of_rows, line, IsFirstTurn, IsFirstLine}
use Rattle.lp_fraction_dict.proofs.Kept.{length-rows}
use Rattle.lp_fraction_dict.proofs.Exchanging.{row_ordered, taken_ordered, pivot_row_ordered, rows_stop, made_sized, objective_stops, lines_turned, on_fault, on_line}
use Rattle.lp_fraction_dict.proofs.exchange.turn.Goals as goal

pub returns-in-Err-exchange_rows : goal.returns-in-Err-exchange_rows
returns-in-Err-exchange_rows g c =
    λ high h o. (
      tt,
      on_line (λ i at p. (i ≤ length (entries_of_rows c.args.rows.now.items)) × (at < high) × IsFirstTurn g.F.ExactField.value g.F.ExactField.limit high (line (entries_of_rows c.args.rows.now.items) c.args.objective.now.items) c.args.place c.args.column i at p) (IsFirstLine g.F.ExactField.value g.F.ExactField.limit high c.args.column c.as_slice-3.result.now (entries_of_rows c.put_row-buffer.new.rows.items)) c.in-Err-exchange_rows.fault
          ((c.in-Err-exchange_rows.ensures high (taken_ordered g.F.ExactField.value g.F.ExactField.limit (omega (arith, g.met.F.ExactField.limit_range.0)) c.args.column (entries_of_rows c.args.rows.now.items) c.args.objective.now.items c.args.place (omega (arith, length-rows c.args.rows.now.items)) (entries_of_rows c.put_row-buffer.new.rows.items) c.new.result.items c.new.ensures.items c.put_row-buffer.ensures.put c.put_row-buffer.result.items c.as_slice.result.now c.as_slice-2.result.now c.put_row-buffer.ensures.given c.as_slice.ensures.value c.as_slice-2.ensures.value c.number_at-divisor.result c.number_at-divisor.ensures high h) (pivot_row_ordered g.F.ExactField.value g.F.ExactField.limit (omega (arith, g.met.F.ExactField.limit_range.0)) c.args.column (entries_of_rows c.args.rows.now.items) c.args.objective.now.items c.args.place (omega (arith, length-rows c.args.rows.now.items)) (entries_of_rows c.put_row-buffer.new.rows.items) c.new.result.items c.new.ensures.items c.put_row-buffer.ensures.put c.put_row-buffer.result.items c.as_slice.result.now c.as_slice-2.result.now c.put_row-buffer.ensures.given c.as_slice.ensures.value c.as_slice-2.ensures.value c.number_at-divisor.result c.number_at-divisor.ensures high h c.in-Ok.pivot_row.items c.as_slice-3.result.now c.as_slice-3.ensures.value ((c.in-Ok.ensures high (row_ordered g.F.ExactField.value g.F.ExactField.limit (omega (arith, g.met.F.ExactField.limit_range.0)) c.args.column (entries_of_rows c.args.rows.now.items) c.args.objective.now.items c.args.place (omega (arith, length-rows c.args.rows.now.items)) (entries_of_rows c.put_row-buffer.new.rows.items) c.new.result.items c.new.ensures.items c.put_row-buffer.ensures.put c.put_row-buffer.result.items c.as_slice.result.now c.as_slice-2.result.now c.put_row-buffer.ensures.given c.as_slice.ensures.value c.as_slice-2.ensures.value c.number_at-divisor.result c.number_at-divisor.ensures high h)).0))).1)
          (λ i at p s. rows_stop g.F.ExactField.value g.F.ExactField.limit (omega (arith, g.met.F.ExactField.limit_range.0)) c.args.column (entries_of_rows c.args.rows.now.items) c.args.objective.now.items c.args.place (omega (arith, length-rows c.args.rows.now.items)) (entries_of_rows c.put_row-buffer.new.rows.items) c.new.result.items c.new.ensures.items c.put_row-buffer.ensures.put c.put_row-buffer.result.items c.as_slice.result.now c.as_slice-2.result.now c.put_row-buffer.ensures.given c.as_slice.ensures.value c.as_slice-2.ensures.value c.number_at-divisor.result c.number_at-divisor.ensures high h c.in-Ok.pivot_row.items c.as_slice-3.result.now c.as_slice-3.ensures.value ((c.in-Ok.ensures high (row_ordered g.F.ExactField.value g.F.ExactField.limit (omega (arith, g.met.F.ExactField.limit_range.0)) c.args.column (entries_of_rows c.args.rows.now.items) c.args.objective.now.items c.args.place (omega (arith, length-rows c.args.rows.now.items)) (entries_of_rows c.put_row-buffer.new.rows.items) c.new.result.items c.new.ensures.items c.put_row-buffer.ensures.put c.put_row-buffer.result.items c.as_slice.result.now c.as_slice-2.result.now c.put_row-buffer.ensures.given c.as_slice.ensures.value c.as_slice-2.ensures.value c.number_at-divisor.result c.number_at-divisor.ensures high h)).0) i at p s),
    )

pub returns-in-Err-exchange_row : goal.returns-in-Err-exchange_row
returns-in-Err-exchange_row g c =
    λ high h o. (
      tt,
      on_fault (λ i at p. (i ≤ length (entries_of_rows c.args.rows.now.items)) × (at < high) × IsFirstTurn g.F.ExactField.value g.F.ExactField.limit high (line (entries_of_rows c.args.rows.now.items) c.args.objective.now.items) c.args.place c.args.column i at p) (IsFirstMisfit g.F.ExactField.value g.F.ExactField.limit high c.args.objective.now.items (number_in g.F.ExactField.value c.args.objective.now.items c.args.column) c.as_slice-4.result.now) c.len.result c.in-Err-exchange_row.fault c.in_line-in-Err-exchange_row.result c.in_line-in-Err-exchange_row.ensures
          ((c.in-Err-exchange_row.ensures high o (pivot_row_ordered g.F.ExactField.value g.F.ExactField.limit (omega (arith, g.met.F.ExactField.limit_range.0)) c.args.column (entries_of_rows c.args.rows.now.items) c.args.objective.now.items c.args.place (omega (arith, length-rows c.args.rows.now.items)) (entries_of_rows c.put_row-buffer.new.rows.items) c.new.result.items c.new.ensures.items c.put_row-buffer.ensures.put c.put_row-buffer.result.items c.as_slice.result.now c.as_slice-2.result.now c.put_row-buffer.ensures.given c.as_slice.ensures.value c.as_slice-2.ensures.value c.number_at-divisor.result c.number_at-divisor.ensures high h c.in-Ok.pivot_row.items c.as_slice-4.result.now c.as_slice-4.ensures.value ((c.in-Ok.ensures high (row_ordered g.F.ExactField.value g.F.ExactField.limit (omega (arith, g.met.F.ExactField.limit_range.0)) c.args.column (entries_of_rows c.args.rows.now.items) c.args.objective.now.items c.args.place (omega (arith, length-rows c.args.rows.now.items)) (entries_of_rows c.put_row-buffer.new.rows.items) c.new.result.items c.new.ensures.items c.put_row-buffer.ensures.put c.put_row-buffer.result.items c.as_slice.result.now c.as_slice-2.result.now c.put_row-buffer.ensures.given c.as_slice.ensures.value c.as_slice-2.ensures.value c.number_at-divisor.result c.number_at-divisor.ensures high h)).0))).1)
          (λ at p s. objective_stops g.F.ExactField.value g.F.ExactField.limit (omega (arith, g.met.F.ExactField.limit_range.0)) c.args.column (entries_of_rows c.args.rows.now.items) c.args.objective.now.items c.args.place (omega (arith, length-rows c.args.rows.now.items)) (entries_of_rows c.put_row-buffer.new.rows.items) c.new.result.items c.new.ensures.items c.put_row-buffer.ensures.put c.put_row-buffer.result.items c.as_slice.result.now c.as_slice-2.result.now c.put_row-buffer.ensures.given c.as_slice.ensures.value c.as_slice-2.ensures.value c.number_at-divisor.result c.number_at-divisor.ensures high h c.in-Ok.pivot_row.items c.as_slice-3.result.now c.as_slice-3.ensures.value ((c.in-Ok.ensures high (row_ordered g.F.ExactField.value g.F.ExactField.limit (omega (arith, g.met.F.ExactField.limit_range.0)) c.args.column (entries_of_rows c.args.rows.now.items) c.args.objective.now.items c.args.place (omega (arith, length-rows c.args.rows.now.items)) (entries_of_rows c.put_row-buffer.new.rows.items) c.new.result.items c.new.ensures.items c.put_row-buffer.ensures.put c.put_row-buffer.result.items c.as_slice.result.now c.as_slice-2.result.now c.put_row-buffer.ensures.given c.as_slice.ensures.value c.as_slice-2.ensures.value c.number_at-divisor.result c.number_at-divisor.ensures high h)).0) (entries_of_rows c.exchange_rows.new.rows.items) ((c.in_default.ensures high (taken_ordered g.F.ExactField.value g.F.ExactField.limit (omega (arith, g.met.F.ExactField.limit_range.0)) c.args.column (entries_of_rows c.args.rows.now.items) c.args.objective.now.items c.args.place (omega (arith, length-rows c.args.rows.now.items)) (entries_of_rows c.put_row-buffer.new.rows.items) c.new.result.items c.new.ensures.items c.put_row-buffer.ensures.put c.put_row-buffer.result.items c.as_slice.result.now c.as_slice-2.result.now c.put_row-buffer.ensures.given c.as_slice.ensures.value c.as_slice-2.ensures.value c.number_at-divisor.result c.number_at-divisor.ensures high h) (pivot_row_ordered g.F.ExactField.value g.F.ExactField.limit (omega (arith, g.met.F.ExactField.limit_range.0)) c.args.column (entries_of_rows c.args.rows.now.items) c.args.objective.now.items c.args.place (omega (arith, length-rows c.args.rows.now.items)) (entries_of_rows c.put_row-buffer.new.rows.items) c.new.result.items c.new.ensures.items c.put_row-buffer.ensures.put c.put_row-buffer.result.items c.as_slice.result.now c.as_slice-2.result.now c.put_row-buffer.ensures.given c.as_slice.ensures.value c.as_slice-2.ensures.value c.number_at-divisor.result c.number_at-divisor.ensures high h c.in-Ok.pivot_row.items c.as_slice-3.result.now c.as_slice-3.ensures.value ((c.in-Ok.ensures high (row_ordered g.F.ExactField.value g.F.ExactField.limit (omega (arith, g.met.F.ExactField.limit_range.0)) c.args.column (entries_of_rows c.args.rows.now.items) c.args.objective.now.items c.args.place (omega (arith, length-rows c.args.rows.now.items)) (entries_of_rows c.put_row-buffer.new.rows.items) c.new.result.items c.new.ensures.items c.put_row-buffer.ensures.put c.put_row-buffer.result.items c.as_slice.result.now c.as_slice-2.result.now c.put_row-buffer.ensures.given c.as_slice.ensures.value c.as_slice-2.ensures.value c.number_at-divisor.result c.number_at-divisor.ensures high h)).0))).0) c.as_slice-4.result.now c.as_slice-4.ensures.value c.len.result (omega (arith, length-rows c.exchange_rows.new.rows.items, c.exchange_rows.new.rows.ok.0)) at p s),
    )

pub put_row-requires : goal.put_row-requires
put_row-requires g c =
    let high = c.requires.rows.0 in
    let h = c.requires.rows.1 in
    let sized = made_sized g.F.ExactField.value g.F.ExactField.limit (omega (arith, g.met.F.ExactField.limit_range.0)) c.args.column (entries_of_rows c.args.rows.now.items) c.args.objective.now.items c.args.place (omega (arith, length-rows c.args.rows.now.items)) (entries_of_rows c.put_row-buffer.new.rows.items) c.new.result.items c.new.ensures.items c.put_row-buffer.ensures.put c.put_row-buffer.result.items c.as_slice.result.now c.as_slice-2.result.now c.put_row-buffer.ensures.given c.as_slice.ensures.value c.as_slice-2.ensures.value c.number_at-divisor.result c.number_at-divisor.ensures high h c.in-Ok.pivot_row.items c.as_slice-3.result.now c.as_slice-3.ensures.value ((c.in-Ok.ensures high (row_ordered g.F.ExactField.value g.F.ExactField.limit (omega (arith, g.met.F.ExactField.limit_range.0)) c.args.column (entries_of_rows c.args.rows.now.items) c.args.objective.now.items c.args.place (omega (arith, length-rows c.args.rows.now.items)) (entries_of_rows c.put_row-buffer.new.rows.items) c.new.result.items c.new.ensures.items c.put_row-buffer.ensures.put c.put_row-buffer.result.items c.as_slice.result.now c.as_slice-2.result.now c.put_row-buffer.ensures.given c.as_slice.ensures.value c.as_slice-2.ensures.value c.number_at-divisor.result c.number_at-divisor.ensures high h)).0) (entries_of_rows c.exchange_rows.new.rows.items) ((c.in_default.ensures high (taken_ordered g.F.ExactField.value g.F.ExactField.limit (omega (arith, g.met.F.ExactField.limit_range.0)) c.args.column (entries_of_rows c.args.rows.now.items) c.args.objective.now.items c.args.place (omega (arith, length-rows c.args.rows.now.items)) (entries_of_rows c.put_row-buffer.new.rows.items) c.new.result.items c.new.ensures.items c.put_row-buffer.ensures.put c.put_row-buffer.result.items c.as_slice.result.now c.as_slice-2.result.now c.put_row-buffer.ensures.given c.as_slice.ensures.value c.as_slice-2.ensures.value c.number_at-divisor.result c.number_at-divisor.ensures high h) (pivot_row_ordered g.F.ExactField.value g.F.ExactField.limit (omega (arith, g.met.F.ExactField.limit_range.0)) c.args.column (entries_of_rows c.args.rows.now.items) c.args.objective.now.items c.args.place (omega (arith, length-rows c.args.rows.now.items)) (entries_of_rows c.put_row-buffer.new.rows.items) c.new.result.items c.new.ensures.items c.put_row-buffer.ensures.put c.put_row-buffer.result.items c.as_slice.result.now c.as_slice-2.result.now c.put_row-buffer.ensures.given c.as_slice.ensures.value c.as_slice-2.ensures.value c.number_at-divisor.result c.number_at-divisor.ensures high h c.in-Ok.pivot_row.items c.as_slice-3.result.now c.as_slice-3.ensures.value ((c.in-Ok.ensures high (row_ordered g.F.ExactField.value g.F.ExactField.limit (omega (arith, g.met.F.ExactField.limit_range.0)) c.args.column (entries_of_rows c.args.rows.now.items) c.args.objective.now.items c.args.place (omega (arith, length-rows c.args.rows.now.items)) (entries_of_rows c.put_row-buffer.new.rows.items) c.new.result.items c.new.ensures.items c.put_row-buffer.ensures.put c.put_row-buffer.result.items c.as_slice.result.now c.as_slice-2.result.now c.put_row-buffer.ensures.given c.as_slice.ensures.value c.as_slice-2.ensures.value c.number_at-divisor.result c.number_at-divisor.ensures high h)).0))).0) in
    omega (arith, length-rows c.args.rows.now.items, length-rows c.exchange_rows.new.rows.items)

pub returns : goal.returns
returns g c =
    λ high h o. (
      lines_turned g.F.ExactField.value g.F.ExactField.limit (omega (arith, g.met.F.ExactField.limit_range.0)) c.args.column (entries_of_rows c.args.rows.now.items) c.args.objective.now.items c.args.place (omega (arith, length-rows c.args.rows.now.items)) (entries_of_rows c.put_row-buffer.new.rows.items) c.new.result.items c.new.ensures.items c.put_row-buffer.ensures.put c.put_row-buffer.result.items c.as_slice.result.now c.as_slice-2.result.now c.put_row-buffer.ensures.given c.as_slice.ensures.value c.as_slice-2.ensures.value c.number_at-divisor.result c.number_at-divisor.ensures high h c.in-Ok.pivot_row.items c.as_slice-3.result.now c.as_slice-3.ensures.value ((c.in-Ok.ensures high (row_ordered g.F.ExactField.value g.F.ExactField.limit (omega (arith, g.met.F.ExactField.limit_range.0)) c.args.column (entries_of_rows c.args.rows.now.items) c.args.objective.now.items c.args.place (omega (arith, length-rows c.args.rows.now.items)) (entries_of_rows c.put_row-buffer.new.rows.items) c.new.result.items c.new.ensures.items c.put_row-buffer.ensures.put c.put_row-buffer.result.items c.as_slice.result.now c.as_slice-2.result.now c.put_row-buffer.ensures.given c.as_slice.ensures.value c.as_slice-2.ensures.value c.number_at-divisor.result c.number_at-divisor.ensures high h)).0) (entries_of_rows c.exchange_rows.new.rows.items) ((c.in_default.ensures high (taken_ordered g.F.ExactField.value g.F.ExactField.limit (omega (arith, g.met.F.ExactField.limit_range.0)) c.args.column (entries_of_rows c.args.rows.now.items) c.args.objective.now.items c.args.place (omega (arith, length-rows c.args.rows.now.items)) (entries_of_rows c.put_row-buffer.new.rows.items) c.new.result.items c.new.ensures.items c.put_row-buffer.ensures.put c.put_row-buffer.result.items c.as_slice.result.now c.as_slice-2.result.now c.put_row-buffer.ensures.given c.as_slice.ensures.value c.as_slice-2.ensures.value c.number_at-divisor.result c.number_at-divisor.ensures high h) (pivot_row_ordered g.F.ExactField.value g.F.ExactField.limit (omega (arith, g.met.F.ExactField.limit_range.0)) c.args.column (entries_of_rows c.args.rows.now.items) c.args.objective.now.items c.args.place (omega (arith, length-rows c.args.rows.now.items)) (entries_of_rows c.put_row-buffer.new.rows.items) c.new.result.items c.new.ensures.items c.put_row-buffer.ensures.put c.put_row-buffer.result.items c.as_slice.result.now c.as_slice-2.result.now c.put_row-buffer.ensures.given c.as_slice.ensures.value c.as_slice-2.ensures.value c.number_at-divisor.result c.number_at-divisor.ensures high h c.in-Ok.pivot_row.items c.as_slice-3.result.now c.as_slice-3.ensures.value ((c.in-Ok.ensures high (row_ordered g.F.ExactField.value g.F.ExactField.limit (omega (arith, g.met.F.ExactField.limit_range.0)) c.args.column (entries_of_rows c.args.rows.now.items) c.args.objective.now.items c.args.place (omega (arith, length-rows c.args.rows.now.items)) (entries_of_rows c.put_row-buffer.new.rows.items) c.new.result.items c.new.ensures.items c.put_row-buffer.ensures.put c.put_row-buffer.result.items c.as_slice.result.now c.as_slice-2.result.now c.put_row-buffer.ensures.given c.as_slice.ensures.value c.as_slice-2.ensures.value c.number_at-divisor.result c.number_at-divisor.ensures high h)).0))).0) c.as_slice-4.result.now c.as_slice-4.ensures.value (entries_of_rows c.put_row.new.rows.items) c.put_row.ensures.put c.exchange_row.new.row.items
          ((c.in_default-exchange_row.ensures high o (pivot_row_ordered g.F.ExactField.value g.F.ExactField.limit (omega (arith, g.met.F.ExactField.limit_range.0)) c.args.column (entries_of_rows c.args.rows.now.items) c.args.objective.now.items c.args.place (omega (arith, length-rows c.args.rows.now.items)) (entries_of_rows c.put_row-buffer.new.rows.items) c.new.result.items c.new.ensures.items c.put_row-buffer.ensures.put c.put_row-buffer.result.items c.as_slice.result.now c.as_slice-2.result.now c.put_row-buffer.ensures.given c.as_slice.ensures.value c.as_slice-2.ensures.value c.number_at-divisor.result c.number_at-divisor.ensures high h c.in-Ok.pivot_row.items c.as_slice-4.result.now c.as_slice-4.ensures.value ((c.in-Ok.ensures high (row_ordered g.F.ExactField.value g.F.ExactField.limit (omega (arith, g.met.F.ExactField.limit_range.0)) c.args.column (entries_of_rows c.args.rows.now.items) c.args.objective.now.items c.args.place (omega (arith, length-rows c.args.rows.now.items)) (entries_of_rows c.put_row-buffer.new.rows.items) c.new.result.items c.new.ensures.items c.put_row-buffer.ensures.put c.put_row-buffer.result.items c.as_slice.result.now c.as_slice-2.result.now c.put_row-buffer.ensures.given c.as_slice.ensures.value c.as_slice-2.ensures.value c.number_at-divisor.result c.number_at-divisor.ensures high h)).0))).0),
      tt,
    )
