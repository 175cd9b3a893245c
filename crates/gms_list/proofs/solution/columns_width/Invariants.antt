use Rattle.std.proofs.Common.{◌≡◌, ℕ, ◌==◌, map, filter, max, length}
use Rattle.std.specs.List.{fold}
use Rattle.gq_number.specs.Number.{Number}
use Rattle.lp_form.specs.declared.key.Key.{Key}
use Rattle.lp_core.specs.declared.program.Column.{Column}
use Rattle.lp_core.specs.Numbers.{lp_numbers, column_numbers}
use Rattle.gms_list.proofs.AppendedPieces.{placed}
use Rattle.gms_list.specs.SolveText.{key_text, longest_element, columns_of_variable}
use Rattle.gms_list.proofs.solution.columns_width.Given as goal

abbrev pub invariant-loop-column : goal.invariant-loop-column
invariant-loop-column g l =
    fold (λ (w : ℕ) (key : Key). max (length (key_text l.p.names l.p.labels g.F.ExactField.limit (lp_numbers g.F.ExactField.value l.lp) key)) w) l.width (map (λ (q : ℕ × Column Number). q.1.key) (filter (λ (q : ℕ × Column Number). q.1.key.symbol == l.variable) (placed (column_numbers g.F.ExactField.value) l.column-index l.columns))) ≡ longest_element l.p.names l.p.labels g.F.ExactField.limit (lp_numbers g.F.ExactField.value l.lp) (map (λ (q : ℕ × Column Number). q.1.key) (columns_of_variable l.p.names l.p.labels g.F.ExactField.limit (lp_numbers g.F.ExactField.value l.lp) l.variable))
