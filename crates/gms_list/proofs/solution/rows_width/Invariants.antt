use Rattle.std.proofs.Common.{◌≡◌, ℕ, ◌==◌, map, filter, max, length}
use Rattle.std.specs.List.{fold}
use Rattle.gq_number.specs.Number.{Number}
use Rattle.lp_form.specs.declared.key.Key.{Key}
use Rattle.lp_core.specs.declared.program.Row.{Row}
use Rattle.lp_core.specs.Numbers.{lp_numbers, row_numbers}
use Rattle.gms_list.proofs.AppendedPieces.{placed}
use Rattle.gms_list.specs.SolveText.{key_text, longest_element, rows_of_equation}
use Rattle.gms_list.proofs.solution.rows_width.Given as goal

abbrev pub invariant-loop-row : goal.invariant-loop-row
invariant-loop-row g l =
    fold (λ (w : ℕ) (key : Key). max (length (key_text l.p.names l.p.labels g.F.ExactField.limit (lp_numbers g.F.ExactField.value l.lp) key)) w) l.width (map (λ (q : ℕ × Row Number). q.1.key) (filter (λ (q : ℕ × Row Number). q.1.key.symbol == l.equation) (placed (row_numbers g.F.ExactField.value) l.row-index l.rows))) ≡ longest_element l.p.names l.p.labels g.F.ExactField.limit (lp_numbers g.F.ExactField.value l.lp) (map (λ (q : ℕ × Row Number). q.1.key) (rows_of_equation l.p.names l.p.labels g.F.ExactField.limit (lp_numbers g.F.ExactField.value l.lp) l.equation))
