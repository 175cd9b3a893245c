use Rattle.std.proofs.Common.{ℕ, ◌==◌, arith, ap, map, filter, max, length}
use Rattle.std.specs.List.{fold}
use Rattle.gq_number.specs.Number.{Number}
use Rattle.lp_form.specs.declared.key.Key.{Key}
use Rattle.lp_core.specs.declared.program.Row.{Row}
use Rattle.lp_core.specs.Numbers.{lp_numbers, row_numbers}
use Rattle.gms_list.proofs.AppendedPieces.{placed}
use Rattle.gms_list.proofs.Longest.{longest_step, longest_done}
use Rattle.gms_list.specs.SolveText.{key_text}
use Rattle.gms_list.proofs.solution.rows_width.Goals as goal

pub loop-row-init : goal.loop-row-init
loop-row-init g c = ap (λ xs. fold (λ (w : ℕ) (key : Key). max (length (key_text c.args.p.now.names c.args.p.now.labels g.F.ExactField.limit (lp_numbers g.F.ExactField.value c.args.lp.now) key)) w) 0 (map (λ (q : ℕ × Row Number). q.1.key) (filter (λ (q : ℕ × Row Number). q.1.key.symbol == c.args.equation) (placed (row_numbers g.F.ExactField.value) 0 xs)))) c.as_slice-rows.ensures

pub loop-row-preserved : goal.loop-row-preserved
loop-row-preserved g c =
    longest_step (λ (w : ℕ) (key : Key). max (length (key_text c.args.p.now.names c.args.p.now.labels g.F.ExactField.limit (lp_numbers g.F.ExactField.value c.args.lp.now) key)) w) (λ (q : ℕ × Row Number). q.1.key) (λ (q : ℕ × Row Number). q.1.key.symbol == c.args.equation) (row_numbers g.F.ExactField.value) c.as_slice-rows.result.now c.loop-row.row-index c.row-item.result c.loop-row.width _ _ (omega arith) c.row-item.is c.in_ok-width.ensures c.loop-row.invariant

pub returns : goal.returns
returns g c = longest_done (λ (w : ℕ) (key : Key). max (length (key_text c.args.p.now.names c.args.p.now.labels g.F.ExactField.limit (lp_numbers g.F.ExactField.value c.args.lp.now) key)) w) (λ (q : ℕ × Row Number). q.1.key) (λ (q : ℕ × Row Number). q.1.key.symbol == c.args.equation) (row_numbers g.F.ExactField.value) c.as_slice-rows.result.now c.loop-row.row-index c.loop-row.width _ (omega arith) c.loop-row.invariant
