use Rattle.std.proofs.Common.{arith, ap, flat_map}
use Rattle.gms_list.proofs.AppendedPieces.{traversal, placed, placed_step, placed_broke, placed_end}
use Rattle.lp_core.specs.Numbers.{lp_numbers, row_numbers}
use Rattle.gms_list.specs.SolveText.{column_entry_line}
use Rattle.gms_list.proofs.listing.Listing.push_column_entries.Goals as goal

pub loop-place-init : goal.loop-place-init
loop-place-init g c = traversal _ (ap (λ xs. flat_map (column_entry_line c.args.p.now.names c.args.p.now.labels g.F.ExactField.limit (lp_numbers g.F.ExactField.value c.args.lp.now) c.args.j) (placed (row_numbers g.F.ExactField.value) 0 xs)) c.as_slice-rows.ensures)

pub loop-place-preserved : goal.loop-place-preserved
loop-place-preserved g c = placed_step (column_entry_line c.args.p.now.names c.args.p.now.labels g.F.ExactField.limit (lp_numbers g.F.ExactField.value c.args.lp.now) c.args.j) (row_numbers g.F.ExactField.value) c.as_slice-rows.result.now c.loop-place.place (c.index-rows-place.result) (omega arith) (c.index-rows-place.is) c.loop-place.invariant c.in_ok-push_coefficients.ensures

pub returns-in_err-push_coefficients : goal.returns-in_err-push_coefficients
returns-in_err-push_coefficients g c =
    placed_broke (column_entry_line c.args.p.now.names c.args.p.now.labels g.F.ExactField.limit (lp_numbers g.F.ExactField.value c.args.lp.now) c.args.j) (row_numbers g.F.ExactField.value) c.as_slice-rows.result.now c.loop-place.place (c.index-rows-place.result) (omega arith) (c.index-rows-place.is) c.loop-place.invariant c.from_residual.result c.from_residual.ensures.0 c.in_err-push_coefficients.ensures

pub returns : goal.returns
returns g c = placed_end (column_entry_line c.args.p.now.names c.args.p.now.labels g.F.ExactField.limit (lp_numbers g.F.ExactField.value c.args.lp.now) c.args.j) (row_numbers g.F.ExactField.value) c.as_slice-rows.result.now c.loop-place.place (omega arith) c.loop-place.invariant
