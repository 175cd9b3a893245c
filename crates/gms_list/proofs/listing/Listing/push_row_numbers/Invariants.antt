use Rattle.std.proofs.Common.{flat_map}
use Rattle.gms_list.proofs.AppendedPieces.{Traversed, placed}
use Rattle.std.proofs.Common.{ℕ, map}
use Rattle.gq_number.specs.Number.{Number}
use Rattle.lp_core.specs.declared.program.Row.{Row}
use Rattle.lp_core.specs.Numbers.{lp_numbers, row_numbers}
use Rattle.gms_list.specs.SolveText.{number_line, number_at_place, row_number_lines as texts}
use Rattle.gms_list.proofs.listing.Listing.push_row_numbers.Given as goal

abbrev pub invariant-loop-place : goal.invariant-loop-place
invariant-loop-place g l =
    Traversed l.fn.self (texts l.p.names l.p.labels g.F.ExactField.limit (lp_numbers g.F.ExactField.value l.lp) l.word (map g.F.ExactField.value l.numbers)) l.self (flat_map (λ (q : ℕ × Row Number). number_line l.p.names l.p.labels g.F.ExactField.limit (lp_numbers g.F.ExactField.value l.lp) l.word q.1.key (number_at_place (map g.F.ExactField.value l.numbers) q.0)) (placed (row_numbers g.F.ExactField.value) l.place l.rows))
