use Rattle.std.proofs.Common.{ℕ, ◌==◌, arith, ap, map, filter, max, length}
use Rattle.std.specs.List.{fold}
use Rattle.gq_number.specs.Number.{Number}
use Rattle.lp_form.specs.declared.key.Key.{Key}
use Rattle.lp_core.specs.declared.program.Column.{Column}
use Rattle.lp_core.specs.Numbers.{lp_numbers, column_numbers}
use Rattle.gms_list.proofs.AppendedPieces.{placed}
use Rattle.gms_list.proofs.Longest.{longest_step, longest_done}
use Rattle.gms_list.specs.SolveText.{key_text}
use Rattle.gms_list.proofs.solution.columns_width.Goals as goal

pub loop-column-init : goal.loop-column-init
loop-column-init g c = ap (λ xs. fold (λ (w : ℕ) (key : Key). max (length (key_text c.args.p.now.names c.args.p.now.labels g.F.ExactField.limit (lp_numbers g.F.ExactField.value c.args.lp.now) key)) w) 0 (map (λ (q : ℕ × Column Number). q.1.key) (filter (λ (q : ℕ × Column Number). q.1.key.symbol == c.args.variable) (placed (column_numbers g.F.ExactField.value) 0 xs)))) c.as_slice-columns.ensures

pub loop-column-preserved : goal.loop-column-preserved
loop-column-preserved g c =
    longest_step (λ (w : ℕ) (key : Key). max (length (key_text c.args.p.now.names c.args.p.now.labels g.F.ExactField.limit (lp_numbers g.F.ExactField.value c.args.lp.now) key)) w) (λ (q : ℕ × Column Number). q.1.key) (λ (q : ℕ × Column Number). q.1.key.symbol == c.args.variable) (column_numbers g.F.ExactField.value) c.as_slice-columns.result.now c.loop-column.column-index c.column-item.result c.loop-column.width _ _ (omega arith) c.column-item.is c.in_ok-width.ensures c.loop-column.invariant

pub returns : goal.returns
returns g c = longest_done (λ (w : ℕ) (key : Key). max (length (key_text c.args.p.now.names c.args.p.now.labels g.F.ExactField.limit (lp_numbers g.F.ExactField.value c.args.lp.now) key)) w) (λ (q : ℕ × Column Number). q.1.key) (λ (q : ℕ × Column Number). q.1.key.symbol == c.args.variable) (column_numbers g.F.ExactField.value) c.as_slice-columns.result.now c.loop-column.column-index c.loop-column.width _ (omega arith) c.loop-column.invariant
