use Rattle.std.proofs.Common.{flat_map, drop}
use Rattle.lp_core.specs.Numbers.{lp_numbers, entries_numbers}
use Rattle.gms_list.proofs.AppendedPieces.{Traversed}
use Rattle.gms_list.specs.SolveText.{term_text}
use Rattle.gms_list.proofs.listing.Listing.push_terms.Given as goal

abbrev pub invariant-loop-j : goal.invariant-loop-j
invariant-loop-j g l =
    Traversed l.fn.self (flat_map (term_text l.p.names l.p.labels g.F.ExactField.limit (lp_numbers g.F.ExactField.value l.lp)) (entries_numbers g.F.ExactField.value l.entries)) l.self (flat_map (term_text l.p.names l.p.labels g.F.ExactField.limit (lp_numbers g.F.ExactField.value l.lp)) (entries_numbers g.F.ExactField.value (drop l.j-index l.entries)))
