use Rattle.std.proofs.Common.{arith, ap, ℕ, ◌==◌, flat_map, filter, take}
use Rattle.gq_number.specs.Number.{Number}
use Rattle.lp_core.specs.declared.program.Row.{Row}
use Rattle.lp_core.specs.Numbers.{lp_numbers, row_numbers}
use Rattle.gms_list.proofs.AppendedPieces.{traversal, placed, taken_step, taken_broke, taken_end}
use Rattle.gms_list.specs.SolveText.{row_text}
use Rattle.gms_list.proofs.listing.Listing.push_rows.Goals as goal

pub loop-row-init : goal.loop-row-init
loop-row-init g c = traversal _ (ap (λ xs. flat_map (row_text c.args.p.now.names c.args.p.now.labels g.F.ExactField.limit (lp_numbers g.F.ExactField.value c.args.lp.now)) (take c.args.most (filter (λ (q : ℕ × Row Number). q.1.key.symbol == c.args.equation) (placed (row_numbers g.F.ExactField.value) 0 xs)))) c.as_slice-rows.ensures)

pub loop-row-preserved : goal.loop-row-preserved
loop-row-preserved g c =
    taken_step (row_text c.args.p.now.names c.args.p.now.labels g.F.ExactField.limit (lp_numbers g.F.ExactField.value c.args.lp.now)) (λ (q : ℕ × Row Number). q.1.key.symbol == c.args.equation) (row_numbers g.F.ExactField.value) c.as_slice-rows.result.now c.loop-row.row-index c.row-item.result c.loop-row.left _ (omega arith) c.row-item.is c.loop-row.invariant c.in_ok-left.ensures.appended c.in_ok-left.ensures.left

pub returns-in_err-left : goal.returns-in_err-left
returns-in_err-left g c =
    taken_broke (row_text c.args.p.now.names c.args.p.now.labels g.F.ExactField.limit (lp_numbers g.F.ExactField.value c.args.lp.now)) (λ (q : ℕ × Row Number). q.1.key.symbol == c.args.equation) (row_numbers g.F.ExactField.value) c.as_slice-rows.result.now c.loop-row.row-index c.row-item.result c.loop-row.left (omega arith) c.row-item.is c.loop-row.invariant c.from_residual.result c.from_residual.ensures.0 c.in_err-left.ensures.appended

pub returns : goal.returns
returns g c = taken_end (row_text c.args.p.now.names c.args.p.now.labels g.F.ExactField.limit (lp_numbers g.F.ExactField.value c.args.lp.now)) (λ (q : ℕ × Row Number). q.1.key.symbol == c.args.equation) (row_numbers g.F.ExactField.value) c.as_slice-rows.result.now c.loop-row.row-index c.loop-row.left (omega arith) c.loop-row.invariant
