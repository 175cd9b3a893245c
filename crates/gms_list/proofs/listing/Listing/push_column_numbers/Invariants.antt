use Rattle.std.proofs.Common.{flat_map}
use Rattle.gms_list.proofs.AppendedPieces.{Traversed, placed}
use Rattle.std.proofs.Common.{ℕ, map}
use Rattle.gq_number.specs.Number.{Number}
use Rattle.lp_core.specs.declared.program.Column.{Column}
use Rattle.lp_core.specs.Numbers.{lp_numbers, column_numbers}
use Rattle.gms_list.specs.SolveText.{number_line, number_at_place, column_number_lines as texts}
use Rattle.gms_list.proofs.listing.Listing.push_column_numbers.Given as goal

abbrev pub invariant-loop-j : goal.invariant-loop-j
invariant-loop-j g l =
    Traversed l.fn.self (texts l.p.names l.p.labels g.F.ExactField.limit (lp_numbers g.F.ExactField.value l.lp) l.word (map g.F.ExactField.value l.numbers)) l.self (flat_map (λ (q : ℕ × Column Number). number_line l.p.names l.p.labels g.F.ExactField.limit (lp_numbers g.F.ExactField.value l.lp) l.word q.1.key (number_at_place (map g.F.ExactField.value l.numbers) q.0)) (placed (column_numbers g.F.ExactField.value) l.j l.columns))
