use Rattle.std.proofs.Common.{◌≡◌, ◌≤◌, length, take, drop}
use Rattle.gms_eval.specs.Domain.{most_elements, elements}
use Rattle.gms_eval.specs.InnerLeading.{IsScan, IsShort, parts_tree, all_hold_in_turn, guards_hold}
use Rattle.gms_eval.specs.Leaders.{none_fails, OneMayLead, LastMayLead}
use Rattle.gms_eval.proofs.leading.+scan_condition.Given as goal

abbrev pub invariant-scan_parts-loop-part : goal.invariant-scan_parts-loop-part
invariant-scan_parts-loop-part g l =
    record {
      known : IsScan l.store l.b l.sets (all_hold_in_turn g.F.ExactField.value g.F.ExactField.limit l.store (take l.part-index l.parts)) l.known;
      safe : l.known.safe ≡ none_fails (parts_tree (take l.part-index l.parts));
      short : l.bound ≤ length (elements l.store l.sets) → length (elements l.store l.sets) ≤ most_elements → IsShort l.store l.b l.sets l.bound (λ name indices. OneMayLead name indices (parts_tree (take l.part-index l.parts))) l.known;
    }

abbrev pub invariant-scan_guards-loop-place : goal.invariant-scan_guards-loop-place
invariant-scan_guards-loop-place g l =
    record {
      known : IsScan l.store l.b l.sets (guards_hold g.F.ExactField.value g.F.ExactField.limit l.store (drop l.place l.guards)) l.first;
      safe : l.first.safe ≡ none_fails (parts_tree (drop l.place l.guards));
      short : l.bound ≤ length (elements l.store l.sets) → length (elements l.store l.sets) ≤ most_elements → IsShort l.store l.b l.sets l.bound (λ name indices. LastMayLead name indices (parts_tree (drop l.place l.guards))) l.first;
    }
