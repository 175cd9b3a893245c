use Rattle.std.proofs.Common.{arith, ap, ℕ, ◌==◌, flat_map, filter, take}
use Rattle.gq_number.specs.Number.{Number}
use Rattle.lp_core.specs.declared.program.Column.{Column}
use Rattle.lp_core.specs.Numbers.{lp_numbers, column_numbers}
use Rattle.gms_list.proofs.AppendedPieces.{traversal, placed, taken_step, taken_broke, taken_end}
use Rattle.gms_list.specs.SolveText.{column_lines}
use Rattle.gms_list.proofs.listing.Listing.push_columns.Goals as goal

pub loop-j-init : goal.loop-j-init
loop-j-init g c = traversal _ (ap (λ xs. flat_map (column_lines c.args.p.now.names c.args.p.now.labels g.F.ExactField.limit (lp_numbers g.F.ExactField.value c.args.lp.now)) (take c.args.most (filter (λ (q : ℕ × Column Number). q.1.key.symbol == c.args.variable) (placed (column_numbers g.F.ExactField.value) 0 xs)))) c.as_slice-columns.ensures)

pub loop-j-preserved : goal.loop-j-preserved
loop-j-preserved g c =
    taken_step (column_lines c.args.p.now.names c.args.p.now.labels g.F.ExactField.limit (lp_numbers g.F.ExactField.value c.args.lp.now)) (λ (q : ℕ × Column Number). q.1.key.symbol == c.args.variable) (column_numbers g.F.ExactField.value) c.as_slice-columns.result.now c.loop-j.j c.index-columns-j.result c.loop-j.left _ (omega arith) c.index-columns-j.is c.loop-j.invariant c.in_ok-left.ensures.appended c.in_ok-left.ensures.left

pub returns-in_err-left : goal.returns-in_err-left
returns-in_err-left g c =
    taken_broke (column_lines c.args.p.now.names c.args.p.now.labels g.F.ExactField.limit (lp_numbers g.F.ExactField.value c.args.lp.now)) (λ (q : ℕ × Column Number). q.1.key.symbol == c.args.variable) (column_numbers g.F.ExactField.value) c.as_slice-columns.result.now c.loop-j.j c.index-columns-j.result c.loop-j.left (omega arith) c.index-columns-j.is c.loop-j.invariant c.from_residual.result c.from_residual.ensures.0 c.in_err-left.ensures.appended

pub returns : goal.returns
returns g c = taken_end (column_lines c.args.p.now.names c.args.p.now.labels g.F.ExactField.limit (lp_numbers g.F.ExactField.value c.args.lp.now)) (λ (q : ℕ × Column Number). q.1.key.symbol == c.args.variable) (column_numbers g.F.ExactField.value) c.as_slice-columns.result.now c.loop-j.j c.loop-j.left (omega arith) c.loop-j.invariant
