use Rattle.std.proofs.Common.{◌≡◌, map, drop, take, length, option_map, None, Ok, Err, true}
use Rattle.gq_extended.specs.Meaning.{extended}
use Rattle.gms_ast.specs.TreeView.{tree_of}
use Rattle.gms_ast.specs.Trees.{plain}
use Rattle.gms_eval.specs.Nodes.{power_step, relation_step, all_step, one_step, in_order, folded, fold_step, signed_step}
use Rattle.gms_eval.specs.Bindings.{controlled}
use Rattle.gms_eval.specs.Domain.{those_where}
use Rattle.gms_eval.specs.Faults.{nothing, faulted, ◌and_then◌}
use Rattle.gms_eval.specs.Holds.{holds}
use Rattle.gms_eval.specs.References.{tuple_of}
use Rattle.gms_eval.specs.Value.{value, label_answer}
use Rattle.gms_eval.specs.InnerContracts.{those_of}
use Rattle.gms_eval.specs.declared.stop.StopKind.TheVariants.{EmptyExtreme}
use Rattle.gms_eval.proofs.Answering.{going_on}
use Rattle.gms_eval.proofs.Chains.{from_here}
use Rattle.gms_eval.proofs.Choosing.{choosing}
use Rattle.gms_eval.proofs.Guards.{hold_all}
use Rattle.gms_eval.proofs.Marks.{signed_mark, placed_mark, related_mark, plain_mark, chosen_mark, signed_answer, placed_answer, related_answer, chosen_answer}
use Rattle.gms_eval.proofs.NodeValues.{of_expr}
use Rattle.gms_eval.proofs.Tuples.{filling}
use Rattle.gms_eval.proofs.expressions.+value.Given as goal

abbrev pub invariant-signed_chain-loop-at : goal.invariant-signed_chain-loop-at
invariant-signed_chain-loop-at g l =
    from_here (signed_step g.F.ExactField.limit l.b l.kind) (Ok nothing) signed_mark (signed_answer g.F.ExactField.value g.F.ExactField.limit l.store l.b) None l.parts ≡ from_here (signed_step g.F.ExactField.limit l.b l.kind) (Ok nothing) signed_mark (signed_answer g.F.ExactField.value g.F.ExactField.limit l.store l.b) (option_map (extended g.F.ExactField.value) l.so_far) (drop l.at-index l.parts)

abbrev pub invariant-powers-loop-at : goal.invariant-powers-loop-at
invariant-powers-loop-at g l =
    from_here (power_step g.F.ExactField.limit l.b) (Ok nothing) placed_mark (placed_answer g.F.ExactField.value g.F.ExactField.limit l.store l.b) None l.parts ≡ from_here (power_step g.F.ExactField.limit l.b) (Ok nothing) placed_mark (placed_answer g.F.ExactField.value g.F.ExactField.limit l.store l.b) (option_map (extended g.F.ExactField.value) l.so_far) (drop l.at-index l.parts)

abbrev pub invariant-relations-loop-op : goal.invariant-relations-loop-op
invariant-relations-loop-op g l =
    from_here relation_step (Ok nothing) related_mark (related_answer g.F.ExactField.value g.F.ExactField.limit l.store l.b) None l.parts ≡ from_here relation_step (Ok nothing) related_mark (related_answer g.F.ExactField.value g.F.ExactField.limit l.store l.b) (option_map (extended g.F.ExactField.value) l.so_far) (drop l.op-index l.parts)

abbrev pub invariant-all_of-loop-part : goal.invariant-all_of-loop-part
invariant-all_of-loop-part g l =
    from_here all_step (Ok nothing) plain_mark (of_expr g.F.ExactField.value g.F.ExactField.limit l.store l.b) None l.parts ≡ from_here all_step (Ok nothing) plain_mark (of_expr g.F.ExactField.value g.F.ExactField.limit l.store l.b) (option_map (extended g.F.ExactField.value) l.so_far) (drop l.part-index l.parts)

abbrev pub invariant-one_of-loop-exclusive : goal.invariant-one_of-loop-exclusive
invariant-one_of-loop-exclusive g l =
    from_here one_step (Ok nothing) chosen_mark (chosen_answer g.F.ExactField.value g.F.ExactField.limit l.store l.b) None l.parts ≡ from_here one_step (Ok nothing) chosen_mark (chosen_answer g.F.ExactField.value g.F.ExactField.limit l.store l.b) (option_map (extended g.F.ExactField.value) l.so_far) (drop l.exclusive-index l.parts)

abbrev pub invariant-all_hold-loop-place : goal.invariant-all_hold-loop-place
invariant-all_hold-loop-place g l =
    hold_all (of_expr g.F.ExactField.value g.F.ExactField.limit l.store l.b) (drop l.place l.guards) ≡ Ok true

abbrev pub invariant-arguments-loop-arg : goal.invariant-arguments-loop-arg
invariant-arguments-loop-arg g l =
    in_order (map (of_expr g.F.ExactField.value g.F.ExactField.limit l.store l.b) l.args) ≡ going_on (of_expr g.F.ExactField.value g.F.ExactField.limit l.store l.b) (map (extended g.F.ExactField.value) l.values.items) (drop l.arg-index l.args)

abbrev pub invariant-tuple_of-loop-index : goal.invariant-tuple_of-loop-index
invariant-tuple_of-loop-index g l =
    (in_order (map (label_answer g.F.ExactField.value g.F.ExactField.limit l.store l.b) l.indices) and_then λ those. Ok (tuple_of those)) ≡ filling (label_answer g.F.ExactField.value g.F.ExactField.limit l.store l.b) l.tuple (drop l.index-index l.indices)

abbrev pub invariant-chosen-loop-number : goal.invariant-chosen-loop-number
invariant-chosen-loop-number g l =
    (those_where (λ element. holds g.F.ExactField.value g.F.ExactField.limit l.store (controlled l.b l.sets element) (tree_of l.condition)) (those_of l.store l.sets l.among) ≡ choosing (λ element. holds g.F.ExactField.value g.F.ExactField.limit l.store (controlled l.b l.sets element) (tree_of l.condition)) l.those.items (drop l.number (those_of l.store l.sets l.among)))
    × (take (length l.b) l.inner ≡ l.b)

abbrev pub invariant-folded-loop-number : goal.invariant-folded-loop-number
invariant-folded-loop-number g l =
    (folded g.F.ExactField.limit l.b l.op l.at (map (λ element. (plain, value g.F.ExactField.value g.F.ExactField.limit l.store (controlled l.b l.sets element) (tree_of l.body))) (those_of l.store l.sets l.those)) ≡ from_here (fold_step g.F.ExactField.limit l.b l.op l.at) (Err (faulted EmptyExtreme l.at l.b nothing nothing)) (λ _. plain) (λ element. value g.F.ExactField.value g.F.ExactField.limit l.store (controlled l.b l.sets element) (tree_of l.body)) (option_map (extended g.F.ExactField.value) l.so_far) (drop l.number (those_of l.store l.sets l.those)))
    × (take (length l.b) l.inner ≡ l.b)
