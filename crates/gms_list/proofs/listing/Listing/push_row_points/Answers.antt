use Rattle.std.proofs.Common.{arith, ap, ℕ, ◌==◌, flat_map, filter}
use Rattle.gq_number.specs.Number.{Number}
use Rattle.lp_core.specs.declared.program.Row.{Row}
use Rattle.lp_core.specs.Numbers.{lp_numbers, row_numbers}
use Rattle.gms_list.specs.InnerSolves.{solution_in}
use Rattle.gms_list.proofs.AppendedPieces.{traversal, placed, kept_step, kept_broke, kept_end}
use Rattle.gms_list.specs.SolveText.{row_point}
use Rattle.gms_list.proofs.listing.Listing.push_row_points.Goals as goal

pub loop-place-init : goal.loop-place-init
loop-place-init g c = traversal _ (ap (λ xs. flat_map (row_point c.args.p.now.names c.args.p.now.labels g.F.ExactField.limit (lp_numbers g.F.ExactField.value c.args.lp.now) (solution_in g.F.ExactField.value c.args.solution) c.args.width) (filter (λ (q : ℕ × Row Number). q.1.key.symbol == c.args.equation) (placed (row_numbers g.F.ExactField.value) 0 xs))) c.as_slice-rows.ensures)

pub loop-place-preserved : goal.loop-place-preserved
loop-place-preserved g c =
    kept_step (row_point c.args.p.now.names c.args.p.now.labels g.F.ExactField.limit (lp_numbers g.F.ExactField.value c.args.lp.now) (solution_in g.F.ExactField.value c.args.solution) c.args.width) (λ (q : ℕ × Row Number). q.1.key.symbol == c.args.equation) (row_numbers g.F.ExactField.value) c.as_slice-rows.result.now c.loop-place.place c.index-rows-place.result (omega arith) c.index-rows-place.is c.loop-place.invariant c.in_ok-push_row_point.ensures

pub returns-in_err-push_row_point : goal.returns-in_err-push_row_point
returns-in_err-push_row_point g c =
    kept_broke (row_point c.args.p.now.names c.args.p.now.labels g.F.ExactField.limit (lp_numbers g.F.ExactField.value c.args.lp.now) (solution_in g.F.ExactField.value c.args.solution) c.args.width) (λ (q : ℕ × Row Number). q.1.key.symbol == c.args.equation) (row_numbers g.F.ExactField.value) c.as_slice-rows.result.now c.loop-place.place c.index-rows-place.result (omega arith) c.index-rows-place.is c.loop-place.invariant c.from_residual.result c.from_residual.ensures.0 c.in_err-push_row_point.ensures

pub returns : goal.returns
returns g c = kept_end (row_point c.args.p.now.names c.args.p.now.labels g.F.ExactField.limit (lp_numbers g.F.ExactField.value c.args.lp.now) (solution_in g.F.ExactField.value c.args.solution) c.args.width) (λ (q : ℕ × Row Number). q.1.key.symbol == c.args.equation) (row_numbers g.F.ExactField.value) c.as_slice-rows.result.now c.loop-place.place (omega arith) c.loop-place.invariant
