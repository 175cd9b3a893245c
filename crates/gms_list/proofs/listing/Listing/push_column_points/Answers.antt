use Rattle.std.proofs.Common.{arith, ap, ℕ, ◌==◌, flat_map, filter}
use Rattle.gq_number.specs.Number.{Number}
use Rattle.lp_core.specs.declared.program.Column.{Column}
use Rattle.lp_core.specs.Numbers.{lp_numbers, column_numbers}
use Rattle.gms_list.specs.InnerSolves.{solution_in}
use Rattle.gms_list.proofs.AppendedPieces.{traversal, placed, kept_step, kept_broke, kept_end}
use Rattle.gms_list.specs.SolveText.{column_point}
use Rattle.gms_list.proofs.listing.Listing.push_column_points.Goals as goal

pub loop-j-init : goal.loop-j-init
loop-j-init g c = traversal _ (ap (λ xs. flat_map (column_point c.args.p.now.names c.args.p.now.labels g.F.ExactField.limit (lp_numbers g.F.ExactField.value c.args.lp.now) (solution_in g.F.ExactField.value c.args.solution) c.args.width) (filter (λ (q : ℕ × Column Number). q.1.key.symbol == c.args.variable) (placed (column_numbers g.F.ExactField.value) 0 xs))) c.as_slice-columns.ensures)

pub loop-j-preserved : goal.loop-j-preserved
loop-j-preserved g c =
    kept_step (column_point c.args.p.now.names c.args.p.now.labels g.F.ExactField.limit (lp_numbers g.F.ExactField.value c.args.lp.now) (solution_in g.F.ExactField.value c.args.solution) c.args.width) (λ (q : ℕ × Column Number). q.1.key.symbol == c.args.variable) (column_numbers g.F.ExactField.value) c.as_slice-columns.result.now c.loop-j.j c.index-columns-j.result (omega arith) c.index-columns-j.is c.loop-j.invariant c.in_ok-push_column_point.ensures

pub returns-in_err-push_column_point : goal.returns-in_err-push_column_point
returns-in_err-push_column_point g c =
    kept_broke (column_point c.args.p.now.names c.args.p.now.labels g.F.ExactField.limit (lp_numbers g.F.ExactField.value c.args.lp.now) (solution_in g.F.ExactField.value c.args.solution) c.args.width) (λ (q : ℕ × Column Number). q.1.key.symbol == c.args.variable) (column_numbers g.F.ExactField.value) c.as_slice-columns.result.now c.loop-j.j c.index-columns-j.result (omega arith) c.index-columns-j.is c.loop-j.invariant c.from_residual.result c.from_residual.ensures.0 c.in_err-push_column_point.ensures

pub returns : goal.returns
returns g c = kept_end (column_point c.args.p.now.names c.args.p.now.labels g.F.ExactField.limit (lp_numbers g.F.ExactField.value c.args.lp.now) (solution_in g.F.ExactField.value c.args.solution) c.args.width) (λ (q : ℕ × Column Number). q.1.key.symbol == c.args.variable) (column_numbers g.F.ExactField.value) c.as_slice-columns.result.now c.loop-j.j (omega arith) c.loop-j.invariant
