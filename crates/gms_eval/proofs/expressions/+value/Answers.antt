use Rattle.std.proofs.Common.{◌≡◌, ◌∙◌, ap, sym, refl, rules, ◌+◌, ◌-◌, ◌*◌, ◌<◌, [], map, drop, length, Some, option_map, Ok, Err, not, if◌then◌else◌, arith}
use Rattle.gq_extended.specs.Meaning.{extended}
use Rattle.gq_extended.specs.Extended.{negated}
use denote.Param.Weighed.{most}
use Rattle.gms_ast.specs.declared.expression.Expr.{size-Expr}
use Rattle.gms_ast.specs.declared.expression.Index.{Set, size-Index}
use Rattle.gms_ast.specs.TreeView.{tree_of, control_tree}
use Rattle.gms_ast.specs.Trees.{plain, signed, placed, related, chosen}
use Rattle.gms_eval.specs.Nodes.{chain, sum_step, product_step, power_step, relation_step, all_step, one_step, in_order, each_holds, fold_step, called, count_value, is_so, truth, signed_step}
use Rattle.gms_eval.specs.Bindings.{controlled}
use Rattle.gms_eval.specs.Domain.{elements}
use Rattle.gms_eval.specs.Faults.{nothing, faulted, ◌and_then◌}
use Rattle.gms_eval.specs.Holds.{holds}
use Rattle.gms_eval.specs.References.{tuple_of, entry_or_zero}
use Rattle.gms_eval.specs.Value.{value, domain, label_answer}
use Rattle.gms_eval.specs.InnerContracts.{those_of}
use Rattle.gms_eval.specs.declared.stop.StopKind.TheVariants.{EmptyExtreme}
use Rattle.std.proofs.lemmas.List.{map_push}
use Rattle.gms_eval.proofs.Answering.{stops-same, stops-then, stops-along, handed_on, gives-same, then-value, going_on, going_on-start, going_on-more, going_on-fault, going_on-end}
use Rattle.gms_eval.proofs.Chains.{from_here, chain-more, chain-part-stops, chain-step-stops}
use Rattle.gms_eval.proofs.Choosing.{choosing, choosing-start, choosing-more, choosing-end, choosing-stops}
use Rattle.gms_eval.proofs.Depths.{indices-less_deep}
use Rattle.gms_eval.proofs.Ends.{chain-result, fold-result, fold-empty, at_itself}
use Rattle.gms_eval.proofs.Factors.{by-others}
use Rattle.gms_eval.proofs.Guards.{holds-start, holds-next, all-hold, one-fails, guard-stops, guard-so, guard-not}
use Rattle.gms_eval.proofs.Inner.{inner-start, inner-controlled, inner-kept, inner-value, inner-stops, inner-holds, inner-holds-stops}
use Rattle.gms_eval.proofs.Leaving.{signed-takes, and-takes, or-takes, and-left, or-left}
use Rattle.gms_eval.proofs.Shapes.{value-Number, value-PlusInf, value-Na, value-Yes, value-No, value-Ord, value-Card, label-Label, label-alone, label-lagged, size-stops, domain-alone, domain-where, fold-over}
use Rattle.gms_eval.proofs.Tuples.{filling, filling-start, filling-more, filling-fault, filling-end}
use Rattle.gms_eval.proofs.Marks.{signed_mark, placed_mark, related_mark, plain_mark, chosen_mark, signed_answer, placed_answer, related_answer, chosen_answer, stops-shown}
use Rattle.gms_eval.proofs.NodeValues.{of_expr, value-Ref, value-Call, value-Fold, value-Neg, value-Not, value-Plus, value-Times, value-Power, value-Relate, value-And, value-Or, value-Guard}
use Rattle.gms_eval.proofs.expressions.+value.Goals as goal

pub elements_of-returns-in-None-clause-counted : goal.elements_of-returns-in-None-clause-counted
elements_of-returns-in-None-clause-counted g t c = c.in_ok-size.ensures.count ∙ ap (λ sets. length (elements c.args.store.now sets)) c.as_slice-sets.ensures

pub elements_of-returns-in-None-clause-value : goal.elements_of-returns-in-None-clause-value
elements_of-returns-in-None-clause-value g t c = domain-alone g.F.ExactField.value g.F.ExactField.limit c.args.store.now c.args.b.now c.args.at c.args.control.now c.as_slice-sets.result.now c.as_slice-sets.ensures c.in-None.is c.in_ok-size.ensures.value

pub elements_of-returns-in_err-size-clause-value : goal.elements_of-returns-in_err-size-clause-value
elements_of-returns-in_err-size-clause-value g t c = handed_on g.F.ExactField.value (those_of c.args.store.now c.args.control.now.sets) c.from_residual.result c.in_err-size.field-0.0 _ c.from_residual.ensures.1 (size-stops g.F.ExactField.value g.F.ExactField.limit c.args.store.now c.args.b.now c.args.at c.args.control.now c.as_slice-sets.result.now c.as_slice-sets.ensures c.in_err-size.field-0.0 c.in_err-size.ensures.value)

pub elements_of-returns-in_err-those-in-Some-clause-value : goal.elements_of-returns-in_err-those-in-Some-clause-value
elements_of-returns-in_err-those-in-Some-clause-value g t c = handed_on g.F.ExactField.value (those_of c.args.store.now c.args.control.now.sets) c.from_residual-in_err-those-in-Some.result c.in_err-those-in-Some.field-0.0 _ c.from_residual-in_err-those-in-Some.ensures.1 (stops-same g.F.ExactField.value c.in_err-those-in-Some.field-0.0 _ _ (by-others g.F.ExactField.value g.F.ExactField.limit c.args.store.now c.args.b.now c.as_slice-sets.result.now c.deref.result.now c.deref-in-Some.result.now (domain g.F.ExactField.value g.F.ExactField.limit c.args.store.now c.args.b.now c.args.at (control_tree c.args.control.now)) (elements c.args.store.now c.as_slice-sets.result.now) (those_of c.args.store.now c.as_slice-sets.result.now c.in_ok-among-in-Some.among) (c.deref-in-Some.ensures ∙ sym c.deref.ensures) (domain-where g.F.ExactField.value g.F.ExactField.limit c.args.store.now c.args.b.now c.args.at c.args.control.now c.as_slice-sets.result.now c.as_slice-sets.ensures c.in-Some.condition c.deref.result.now c.in-Some.is c.deref.ensures c.in_ok-size.ensures.value) c.in_ok-among-in-Some.ensures.value) c.in_err-those-in-Some.ensures)

pub elements_of-returns-in_ok-those-in-Some-clause-value : goal.elements_of-returns-in_ok-those-in-Some-clause-value
elements_of-returns-in_ok-those-in-Some-clause-value g t c = by-others g.F.ExactField.value g.F.ExactField.limit c.args.store.now c.args.b.now c.as_slice-sets.result.now c.deref.result.now c.deref-in-Some.result.now (domain g.F.ExactField.value g.F.ExactField.limit c.args.store.now c.args.b.now c.args.at (control_tree c.args.control.now)) (elements c.args.store.now c.as_slice-sets.result.now) (those_of c.args.store.now c.as_slice-sets.result.now c.in_ok-among-in-Some.among) (c.deref-in-Some.ensures ∙ sym c.deref.ensures) (domain-where g.F.ExactField.value g.F.ExactField.limit c.args.store.now c.args.b.now c.args.at c.args.control.now c.as_slice-sets.result.now c.as_slice-sets.ensures c.in-Some.condition c.deref.result.now c.in-Some.is c.deref.ensures c.in_ok-size.ensures.value) c.in_ok-among-in-Some.ensures.value ∙ c.in_ok-those-in-Some.ensures

pub value-returns-else-branch : goal.value-returns-else-branch
value-returns-else-branch g t c = ap (of_expr g.F.ExactField.value g.F.ExactField.limit c.args.store.now c.args.b.now) c.in-Guard.is ∙ value-Guard g.F.ExactField.value g.F.ExactField.limit c.args.store.now c.args.b.now c.in-Guard.operand c.in-Guard.guards ∙ ap (λ guards. each_holds (map (of_expr g.F.ExactField.value g.F.ExactField.limit c.args.store.now c.args.b.now) guards) and_then (λ hold. if hold then (of_expr g.F.ExactField.value g.F.ExactField.limit c.args.store.now c.args.b.now) c.in-Guard.operand.value else Ok nothing)) (sym c.deref-in-Guard.ensures.value) ∙ guard-not (each_holds (map (of_expr g.F.ExactField.value g.F.ExactField.limit c.args.store.now c.args.b.now) c.deref-in-Guard.result.now)) c.in_ok-all_hold-in-Guard.field-0 ((of_expr g.F.ExactField.value g.F.ExactField.limit c.args.store.now c.args.b.now) c.in-Guard.operand.value) c.in_ok-all_hold-in-Guard.ensures c.if-branch.false ∙ ap Ok (sym c.zero.ensures)

pub value-returns-in-And : goal.value-returns-in-And
value-returns-in-And g t c = gives-same g.F.ExactField.value (extended g.F.ExactField.value) c.all_of.result (of_expr g.F.ExactField.value g.F.ExactField.limit c.args.store.now c.args.b.now c.args.e.now) _ (ap (of_expr g.F.ExactField.value g.F.ExactField.limit c.args.store.now c.args.b.now) c.in-And.is ∙ value-And g.F.ExactField.value g.F.ExactField.limit c.args.store.now c.args.b.now c.in-And.parts ∙ ap (λ ps. chain all_step (map (λ p. (plain, of_expr g.F.ExactField.value g.F.ExactField.limit c.args.store.now c.args.b.now p)) ps)) (sym c.deref-in-And.ensures.value)) c.all_of.ensures

pub value-returns-in-Card : goal.value-returns-in-Card
value-returns-in-Card g t c = gives-same g.F.ExactField.value (extended g.F.ExactField.value) c.counted-in-Card.result ((of_expr g.F.ExactField.value g.F.ExactField.limit c.args.store.now c.args.b.now) c.args.e.now) _ (ap (of_expr g.F.ExactField.value g.F.ExactField.limit c.args.store.now c.args.b.now) c.in-Card.is ∙ value-Card g.F.ExactField.value g.F.ExactField.limit c.args.store.now c.args.b.now c.in-Card.at c.in-Card.set ∙ ap (λ members. count_value g.F.ExactField.limit c.args.b.now c.in-Card.at (length members)) (sym c.members.ensures.value) ∙ ap (count_value g.F.ExactField.limit c.args.b.now c.in-Card.at) (sym c.len.ensures.len)) c.counted-in-Card.ensures

pub value-returns-in-Number : goal.value-returns-in-Number
value-returns-in-Number g t c = ap (of_expr g.F.ExactField.value g.F.ExactField.limit c.args.store.now c.args.b.now) c.in-Number.is ∙ value-Number g.F.ExactField.value g.F.ExactField.limit c.args.store.now c.args.b.now c.in-Number.number

pub value-returns-in-Or : goal.value-returns-in-Or
value-returns-in-Or g t c = gives-same g.F.ExactField.value (extended g.F.ExactField.value) c.one_of.result (of_expr g.F.ExactField.value g.F.ExactField.limit c.args.store.now c.args.b.now c.args.e.now) _ (ap (of_expr g.F.ExactField.value g.F.ExactField.limit c.args.store.now c.args.b.now) c.in-Or.is ∙ value-Or g.F.ExactField.value g.F.ExactField.limit c.args.store.now c.args.b.now c.in-Or.parts ∙ ap (λ ps. chain one_step (map (λ p. (chosen p.0, of_expr g.F.ExactField.value g.F.ExactField.limit c.args.store.now c.args.b.now p.1)) ps)) (sym c.deref-in-Or.ensures.value)) c.one_of.ensures

pub value-returns-in-Plus : goal.value-returns-in-Plus
value-returns-in-Plus g t c = gives-same g.F.ExactField.value (extended g.F.ExactField.value) c.signed_chain.result (of_expr g.F.ExactField.value g.F.ExactField.limit c.args.store.now c.args.b.now c.args.e.now) _ (ap (of_expr g.F.ExactField.value g.F.ExactField.limit c.args.store.now c.args.b.now) c.in-Plus.is ∙ value-Plus g.F.ExactField.value g.F.ExactField.limit c.args.store.now c.args.b.now c.in-Plus.parts ∙ ap (λ ps. chain (sum_step g.F.ExactField.limit c.args.b.now) (map (λ p. (signed p.0 p.1, of_expr g.F.ExactField.value g.F.ExactField.limit c.args.store.now c.args.b.now p.2)) ps)) (sym c.deref-in-Plus.ensures.value)) c.signed_chain.ensures

pub value-returns-in-Power : goal.value-returns-in-Power
value-returns-in-Power g t c = gives-same g.F.ExactField.value (extended g.F.ExactField.value) c.powers.result (of_expr g.F.ExactField.value g.F.ExactField.limit c.args.store.now c.args.b.now c.args.e.now) _ (ap (of_expr g.F.ExactField.value g.F.ExactField.limit c.args.store.now c.args.b.now) c.in-Power.is ∙ value-Power g.F.ExactField.value g.F.ExactField.limit c.args.store.now c.args.b.now c.in-Power.parts ∙ ap (λ ps. chain (power_step g.F.ExactField.limit c.args.b.now) (map (λ p. (placed p.0, of_expr g.F.ExactField.value g.F.ExactField.limit c.args.store.now c.args.b.now p.1)) ps)) (sym c.deref-in-Power.ensures.value)) c.powers.ensures

pub value-returns-in-Relate : goal.value-returns-in-Relate
value-returns-in-Relate g t c = gives-same g.F.ExactField.value (extended g.F.ExactField.value) c.relations.result (of_expr g.F.ExactField.value g.F.ExactField.limit c.args.store.now c.args.b.now c.args.e.now) _ (ap (of_expr g.F.ExactField.value g.F.ExactField.limit c.args.store.now c.args.b.now) c.in-Relate.is ∙ value-Relate g.F.ExactField.value g.F.ExactField.limit c.args.store.now c.args.b.now c.in-Relate.parts ∙ ap (λ ps. chain relation_step (map (λ p. (related p.0, of_expr g.F.ExactField.value g.F.ExactField.limit c.args.store.now c.args.b.now p.1)) ps)) (sym c.deref-in-Relate.ensures.value)) c.relations.ensures

pub value-returns-in-Times : goal.value-returns-in-Times
value-returns-in-Times g t c = gives-same g.F.ExactField.value (extended g.F.ExactField.value) c.signed_chain-in-Times.result (of_expr g.F.ExactField.value g.F.ExactField.limit c.args.store.now c.args.b.now c.args.e.now) _ (ap (of_expr g.F.ExactField.value g.F.ExactField.limit c.args.store.now c.args.b.now) c.in-Times.is ∙ value-Times g.F.ExactField.value g.F.ExactField.limit c.args.store.now c.args.b.now c.in-Times.parts ∙ ap (λ ps. chain (product_step g.F.ExactField.limit c.args.b.now) (map (λ p. (signed p.0 p.1, of_expr g.F.ExactField.value g.F.ExactField.limit c.args.store.now c.args.b.now p.2)) ps)) (sym c.deref-in-Times.ensures.value)) c.signed_chain-in-Times.ensures

pub value-returns-in_err-all_hold-in-Guard : goal.value-returns-in_err-all_hold-in-Guard
value-returns-in_err-all_hold-in-Guard g t c = handed_on g.F.ExactField.value (extended g.F.ExactField.value) c.from_residual-in_err-all_hold-in-Guard.result c.in_err-all_hold-in-Guard.field-0.0 _ c.from_residual-in_err-all_hold-in-Guard.ensures.1 (stops-same g.F.ExactField.value c.in_err-all_hold-in-Guard.field-0.0 ((of_expr g.F.ExactField.value g.F.ExactField.limit c.args.store.now c.args.b.now) c.args.e.now) _ (ap (of_expr g.F.ExactField.value g.F.ExactField.limit c.args.store.now c.args.b.now) c.in-Guard.is ∙ value-Guard g.F.ExactField.value g.F.ExactField.limit c.args.store.now c.args.b.now c.in-Guard.operand c.in-Guard.guards ∙ ap (λ guards. each_holds (map (of_expr g.F.ExactField.value g.F.ExactField.limit c.args.store.now c.args.b.now) guards) and_then (λ hold. if hold then (of_expr g.F.ExactField.value g.F.ExactField.limit c.args.store.now c.args.b.now) c.in-Guard.operand.value else Ok nothing)) (sym c.deref-in-Guard.ensures.value)) (stops-then g.F.ExactField.value c.in_err-all_hold-in-Guard.field-0.0 (each_holds (map (of_expr g.F.ExactField.value g.F.ExactField.limit c.args.store.now c.args.b.now) c.deref-in-Guard.result.now)) (λ hold. if hold then (of_expr g.F.ExactField.value g.F.ExactField.limit c.args.store.now c.args.b.now) c.in-Guard.operand.value else Ok nothing) c.in_err-all_hold-in-Guard.ensures))

pub call-returns-in_err-values : goal.call-returns-in_err-values
call-returns-in_err-values g t c = handed_on g.F.ExactField.value (extended g.F.ExactField.value) c.from_residual.result c.in_err-values.field-0.0 _ c.from_residual.ensures.1 (stops-then g.F.ExactField.value c.in_err-values.field-0.0 (in_order (map (of_expr g.F.ExactField.value g.F.ExactField.limit c.args.store.now c.args.b.now) c.args.args.now)) (λ xs. called g.F.ExactField.limit c.args.b.now c.args.at c.args.function xs) c.in_err-values.ensures)

pub call-returns : goal.call-returns
call-returns g t c = gives-same g.F.ExactField.value (extended g.F.ExactField.value) c.called.result _ _ (then-value (in_order (map (of_expr g.F.ExactField.value g.F.ExactField.limit c.args.store.now c.args.b.now) c.args.args.now)) (map (extended g.F.ExactField.value) c.in_ok-values.values.items) (λ xs. called g.F.ExactField.limit c.args.b.now c.args.at c.args.function xs) c.in_ok-values.ensures ∙ ap (λ xs. called g.F.ExactField.limit c.args.b.now c.args.at c.args.function (map (extended g.F.ExactField.value) xs)) (sym c.as_slice.ensures.value)) c.called.ensures

pub value-returns-in_err-those-in-Fold : goal.value-returns-in_err-those-in-Fold
value-returns-in_err-those-in-Fold g t c = handed_on g.F.ExactField.value (extended g.F.ExactField.value) c.from_residual-in_err-those-in-Fold.result c.in_err-those-in-Fold.field-0.0 _ c.from_residual-in_err-those-in-Fold.ensures.1 (stops-same g.F.ExactField.value c.in_err-those-in-Fold.field-0.0 ((of_expr g.F.ExactField.value g.F.ExactField.limit c.args.store.now c.args.b.now) c.args.e.now) _ (ap (of_expr g.F.ExactField.value g.F.ExactField.limit c.args.store.now c.args.b.now) c.in-Fold.is ∙ value-Fold g.F.ExactField.value g.F.ExactField.limit c.args.store.now c.args.b.now c.in-Fold.at c.in-Fold.op c.in-Fold.control c.in-Fold.body) (stops-then g.F.ExactField.value c.in_err-those-in-Fold.field-0.0 (domain g.F.ExactField.value g.F.ExactField.limit c.args.store.now c.args.b.now c.in-Fold.at (control_tree c.in-Fold.control)) _ c.in_err-those-in-Fold.ensures.value))

pub referred-returns-in_err-tuple : goal.referred-returns-in_err-tuple
referred-returns-in_err-tuple g t c = handed_on g.F.ExactField.value (extended g.F.ExactField.value) c.from_residual.result c.in_err-tuple.field-0.0 _ c.from_residual.ensures.1 (stops-then g.F.ExactField.value c.in_err-tuple.field-0.0 (in_order (map (label_answer g.F.ExactField.value g.F.ExactField.limit c.args.store.now c.args.b.now) c.args.indices.now) and_then λ those. Ok (tuple_of those)) (entry_or_zero g.F.ExactField.limit c.args.store.now c.args.b.now c.args.at c.args.name c.args.suffix) c.in_err-tuple.ensures)

pub referred-returns : goal.referred-returns
referred-returns g t c = gives-same g.F.ExactField.value (extended g.F.ExactField.value) c.entry_of.result _ _ (then-value (in_order (map (label_answer g.F.ExactField.value g.F.ExactField.limit c.args.store.now c.args.b.now) c.args.indices.now) and_then λ those. Ok (tuple_of those)) c.in_ok-tuple.tuple (entry_or_zero g.F.ExactField.limit c.args.store.now c.args.b.now c.args.at c.args.name c.args.suffix) c.in_ok-tuple.ensures) c.entry_of.ensures

pub value-returns-in-Neg : goal.value-returns-in-Neg
value-returns-in-Neg g t c = gives-same g.F.ExactField.value (extended g.F.ExactField.value) c.negative.result ((of_expr g.F.ExactField.value g.F.ExactField.limit c.args.store.now c.args.b.now) c.args.e.now) _ (ap (of_expr g.F.ExactField.value g.F.ExactField.limit c.args.store.now c.args.b.now) c.in-Neg.is ∙ value-Neg g.F.ExactField.value g.F.ExactField.limit c.args.store.now c.args.b.now c.in-Neg.operand ∙ ap (λ e. (of_expr g.F.ExactField.value g.F.ExactField.limit c.args.store.now c.args.b.now) e and_then (λ x. Ok (negated x))) (sym c.deref-in-Neg.ensures)) c.negative.ensures

pub value-returns-in-Not : goal.value-returns-in-Not
value-returns-in-Not g t c = gives-same g.F.ExactField.value (extended g.F.ExactField.value) c.denied.result ((of_expr g.F.ExactField.value g.F.ExactField.limit c.args.store.now c.args.b.now) c.args.e.now) _ (ap (of_expr g.F.ExactField.value g.F.ExactField.limit c.args.store.now c.args.b.now) c.in-Not.is ∙ value-Not g.F.ExactField.value g.F.ExactField.limit c.args.store.now c.args.b.now c.in-Not.operand ∙ ap (λ e. (of_expr g.F.ExactField.value g.F.ExactField.limit c.args.store.now c.args.b.now) e and_then (λ x. Ok (truth (not (is_so x))))) (sym c.deref-in-Not.ensures)) c.denied.ensures

pub value-returns-in-Call : goal.value-returns-in-Call
value-returns-in-Call g t c = gives-same g.F.ExactField.value (extended g.F.ExactField.value) c.call.result ((of_expr g.F.ExactField.value g.F.ExactField.limit c.args.store.now c.args.b.now) c.args.e.now) _ (ap (of_expr g.F.ExactField.value g.F.ExactField.limit c.args.store.now c.args.b.now) c.in-Call.is ∙ value-Call g.F.ExactField.value g.F.ExactField.limit c.args.store.now c.args.b.now c.in-Call.at c.in-Call.function c.in-Call.args ∙ ap (λ args. in_order (map (of_expr g.F.ExactField.value g.F.ExactField.limit c.args.store.now c.args.b.now) args) and_then λ xs. called g.F.ExactField.limit c.args.b.now c.in-Call.at c.in-Call.function xs) (sym c.deref-in-Call.ensures.value)) c.call.ensures

pub value-returns-in_ok-place_in_set-in-Ord : goal.value-returns-in_ok-place_in_set-in-Ord
value-returns-in_ok-place_in_set-in-Ord g t c = gives-same g.F.ExactField.value (extended g.F.ExactField.value) c.counted.result ((of_expr g.F.ExactField.value g.F.ExactField.limit c.args.store.now c.args.b.now) c.args.e.now) _ (ap (of_expr g.F.ExactField.value g.F.ExactField.limit c.args.store.now c.args.b.now) c.in-Ord.is ∙ value-Ord g.F.ExactField.value g.F.ExactField.limit c.args.store.now c.args.b.now c.in-Ord.at c.in-Ord.set ∙ ap (count_value g.F.ExactField.limit c.args.b.now c.in-Ord.at) (sym c.in_ok-place_in_set-in-Ord.ensures)) c.counted.ensures

pub value-returns-in_ok-those-in-Fold : goal.value-returns-in_ok-those-in-Fold
value-returns-in_ok-those-in-Fold g t c = gives-same g.F.ExactField.value (extended g.F.ExactField.value) c.folded.result ((of_expr g.F.ExactField.value g.F.ExactField.limit c.args.store.now c.args.b.now) c.args.e.now) _ (ap (of_expr g.F.ExactField.value g.F.ExactField.limit c.args.store.now c.args.b.now) c.in-Fold.is ∙ fold-over g.F.ExactField.value g.F.ExactField.limit c.args.store.now c.args.b.now c.in-Fold.at c.in-Fold.control c.as_slice.result.now c.as_slice.ensures c.in-Fold.op c.in-Fold.body c.deref-in-Fold.result.now c.in_ok-those-in-Fold.those c.deref-in-Fold.ensures c.in_ok-those-in-Fold.ensures.value) c.folded.ensures

pub value-returns-in-Ref : goal.value-returns-in-Ref
value-returns-in-Ref g t c = gives-same g.F.ExactField.value (extended g.F.ExactField.value) c.referred.result ((of_expr g.F.ExactField.value g.F.ExactField.limit c.args.store.now c.args.b.now) c.args.e.now) _ (ap (of_expr g.F.ExactField.value g.F.ExactField.limit c.args.store.now c.args.b.now) c.in-Ref.is ∙ value-Ref g.F.ExactField.value g.F.ExactField.limit c.args.store.now c.args.b.now c.in-Ref.at c.in-Ref.name c.in-Ref.suffix c.in-Ref.indices ∙ ap (λ indices. (in_order (map (label_answer g.F.ExactField.value g.F.ExactField.limit c.args.store.now c.args.b.now) indices) and_then λ those. Ok (tuple_of those)) and_then entry_or_zero g.F.ExactField.limit c.args.store.now c.args.b.now c.in-Ref.at c.in-Ref.name c.in-Ref.suffix) (sym c.deref.ensures.value)) c.referred.ensures

pub negative-returns-in_err-x : goal.negative-returns-in_err-x
negative-returns-in_err-x g t c = handed_on g.F.ExactField.value (extended g.F.ExactField.value) c.from_residual.result c.in_err-x.field-0.0 _ c.from_residual.ensures.1 (stops-then g.F.ExactField.value c.in_err-x.field-0.0 ((of_expr g.F.ExactField.value g.F.ExactField.limit c.args.store.now c.args.b.now) c.args.operand.now) (λ x. Ok (negated x)) c.in_err-x.ensures)

pub negative-returns : goal.negative-returns
negative-returns g t c = then-value ((of_expr g.F.ExactField.value g.F.ExactField.limit c.args.store.now c.args.b.now) c.args.operand.now) (extended g.F.ExactField.value c.in_ok-x.x) (λ x. Ok (negated x)) c.in_ok-x.ensures ∙ ap Ok (sym c.neg.ensures)

pub denied-returns-in_err-x : goal.denied-returns-in_err-x
denied-returns-in_err-x g t c = handed_on g.F.ExactField.value (extended g.F.ExactField.value) c.from_residual.result c.in_err-x.field-0.0 _ c.from_residual.ensures.1 (stops-then g.F.ExactField.value c.in_err-x.field-0.0 ((of_expr g.F.ExactField.value g.F.ExactField.limit c.args.store.now c.args.b.now) c.args.operand.now) (λ x. Ok (truth (not (is_so x)))) c.in_err-x.ensures)

pub denied-returns : goal.denied-returns
denied-returns g t c = then-value ((of_expr g.F.ExactField.value g.F.ExactField.limit c.args.store.now c.args.b.now) c.args.operand.now) (extended g.F.ExactField.value c.in_ok-x.x) (λ x. Ok (truth (not (is_so x)))) c.in_ok-x.ensures ∙ ap Ok (sym (c.truth.ensures ∙ ap (λ b. truth (not b)) c.is_so.ensures))

pub value-returns-then-branch : goal.value-returns-then-branch
value-returns-then-branch g t c = gives-same g.F.ExactField.value (extended g.F.ExactField.value) c.value.result ((of_expr g.F.ExactField.value g.F.ExactField.limit c.args.store.now c.args.b.now) c.args.e.now) _ (ap (of_expr g.F.ExactField.value g.F.ExactField.limit c.args.store.now c.args.b.now) c.in-Guard.is ∙ value-Guard g.F.ExactField.value g.F.ExactField.limit c.args.store.now c.args.b.now c.in-Guard.operand c.in-Guard.guards ∙ ap (λ guards. each_holds (map (of_expr g.F.ExactField.value g.F.ExactField.limit c.args.store.now c.args.b.now) guards) and_then (λ hold. if hold then (of_expr g.F.ExactField.value g.F.ExactField.limit c.args.store.now c.args.b.now) c.in-Guard.operand.value else Ok nothing)) (sym c.deref-in-Guard.ensures.value) ∙ guard-so (each_holds (map (of_expr g.F.ExactField.value g.F.ExactField.limit c.args.store.now c.args.b.now) c.deref-in-Guard.result.now)) c.in_ok-all_hold-in-Guard.field-0 ((of_expr g.F.ExactField.value g.F.ExactField.limit c.args.store.now c.args.b.now) c.in-Guard.operand.value) c.in_ok-all_hold-in-Guard.ensures c.if-branch.true ∙ ap (of_expr g.F.ExactField.value g.F.ExactField.limit c.args.store.now c.args.b.now) (sym c.deref-then-branch.ensures)) c.value.ensures

pub signed_chain-loop-at-init : goal.signed_chain-loop-at-init
signed_chain-loop-at-init g t c = refl

pub signed_chain-loop-at-preserved : goal.signed_chain-loop-at-preserved
signed_chain-loop-at-preserved g t c = c.loop-at.invariant ∙ chain-more (signed_step g.F.ExactField.limit c.args.b.now c.args.kind) (Ok nothing) signed_mark (signed_answer g.F.ExactField.value g.F.ExactField.limit c.args.store.now c.args.b.now) (option_map (extended g.F.ExactField.value) c.loop-at.so_far) c.args.parts.now c.loop-at.at-index c.loop-at-item.result (extended g.F.ExactField.value c.in_ok-y.y) (extended g.F.ExactField.value c.in_ok-signed_part.field-0) c.loop-at-test.true c.loop-at-item.is c.in_ok-y.ensures c.in_ok-signed_part.ensures

pub signed_chain-returns-in_err-y : goal.signed_chain-returns-in_err-y
signed_chain-returns-in_err-y g t c = handed_on g.F.ExactField.value (extended g.F.ExactField.value) c.from_residual.result c.in_err-y.field-0.0 _ c.from_residual.ensures.1 (chain-part-stops (signed_step g.F.ExactField.limit c.args.b.now c.args.kind) (Ok nothing) signed_mark (signed_answer g.F.ExactField.value g.F.ExactField.limit c.args.store.now c.args.b.now) g.F.ExactField.value c.in_err-y.field-0.0 _ (option_map (extended g.F.ExactField.value) c.loop-at.so_far) c.args.parts.now c.loop-at.at-index c.loop-at-item.result c.loop-at.invariant c.loop-at-test.true c.loop-at-item.is (λ fault y _. signed-takes g.F.ExactField.limit c.args.b.now c.args.kind c.loop-at-item.result.0 c.loop-at-item.result.1 fault y) c.in_err-y.ensures)

pub signed_chain-returns-in_err-signed_part : goal.signed_chain-returns-in_err-signed_part
signed_chain-returns-in_err-signed_part g t c = handed_on g.F.ExactField.value (extended g.F.ExactField.value) c.from_residual-in_err-signed_part.result c.in_err-signed_part.field-0.0 _ c.from_residual-in_err-signed_part.ensures.1 (chain-step-stops (signed_step g.F.ExactField.limit c.args.b.now c.args.kind) (Ok nothing) signed_mark (signed_answer g.F.ExactField.value g.F.ExactField.limit c.args.store.now c.args.b.now) g.F.ExactField.value c.in_err-signed_part.field-0.0 _ (option_map (extended g.F.ExactField.value) c.loop-at.so_far) c.args.parts.now c.loop-at.at-index c.loop-at-item.result (extended g.F.ExactField.value c.in_ok-y.y) c.loop-at.invariant c.loop-at-test.true c.loop-at-item.is c.in_ok-y.ensures c.in_err-signed_part.ensures)

pub signed_chain-returns : goal.signed_chain-returns
signed_chain-returns g t c = chain-result g.F.ExactField.value (signed_step g.F.ExactField.limit c.args.b.now c.args.kind) signed_mark (signed_answer g.F.ExactField.value g.F.ExactField.limit c.args.store.now c.args.b.now) _ c.loop-at.so_far c.zero.result c.args.parts.now c.loop-at.at-index c.loop-at.invariant c.loop-at-test.false c.zero.ensures ∙ ap (λ x. Ok (extended g.F.ExactField.value x)) (sym c.unwrap_or.ensures)

pub powers-loop-at-init : goal.powers-loop-at-init
powers-loop-at-init g t c = refl

pub powers-loop-at-preserved : goal.powers-loop-at-preserved
powers-loop-at-preserved g t c = c.loop-at.invariant ∙ chain-more (power_step g.F.ExactField.limit c.args.b.now) (Ok nothing) placed_mark (placed_answer g.F.ExactField.value g.F.ExactField.limit c.args.store.now c.args.b.now) (option_map (extended g.F.ExactField.value) c.loop-at.so_far) c.args.parts.now c.loop-at.at-index c.loop-at-item.result (extended g.F.ExactField.value c.in_ok-y.y) (extended g.F.ExactField.value c.in_ok-power_part.field-0) c.loop-at-test.true c.loop-at-item.is c.in_ok-y.ensures c.in_ok-power_part.ensures

pub powers-returns-in_err-y : goal.powers-returns-in_err-y
powers-returns-in_err-y g t c = handed_on g.F.ExactField.value (extended g.F.ExactField.value) c.from_residual.result c.in_err-y.field-0.0 _ c.from_residual.ensures.1 (chain-part-stops (power_step g.F.ExactField.limit c.args.b.now) (Ok nothing) placed_mark (placed_answer g.F.ExactField.value g.F.ExactField.limit c.args.store.now c.args.b.now) g.F.ExactField.value c.in_err-y.field-0.0 _ (option_map (extended g.F.ExactField.value) c.loop-at.so_far) c.args.parts.now c.loop-at.at-index c.loop-at-item.result c.loop-at.invariant c.loop-at-test.true c.loop-at-item.is (λ fault y _. refl) c.in_err-y.ensures)

pub powers-returns-in_err-power_part : goal.powers-returns-in_err-power_part
powers-returns-in_err-power_part g t c = handed_on g.F.ExactField.value (extended g.F.ExactField.value) c.from_residual-in_err-power_part.result c.in_err-power_part.field-0.0 _ c.from_residual-in_err-power_part.ensures.1 (chain-step-stops (power_step g.F.ExactField.limit c.args.b.now) (Ok nothing) placed_mark (placed_answer g.F.ExactField.value g.F.ExactField.limit c.args.store.now c.args.b.now) g.F.ExactField.value c.in_err-power_part.field-0.0 _ (option_map (extended g.F.ExactField.value) c.loop-at.so_far) c.args.parts.now c.loop-at.at-index c.loop-at-item.result (extended g.F.ExactField.value c.in_ok-y.y) c.loop-at.invariant c.loop-at-test.true c.loop-at-item.is c.in_ok-y.ensures c.in_err-power_part.ensures)

pub powers-returns : goal.powers-returns
powers-returns g t c = chain-result g.F.ExactField.value (power_step g.F.ExactField.limit c.args.b.now) placed_mark (placed_answer g.F.ExactField.value g.F.ExactField.limit c.args.store.now c.args.b.now) _ c.loop-at.so_far c.zero.result c.args.parts.now c.loop-at.at-index c.loop-at.invariant c.loop-at-test.false c.zero.ensures ∙ ap (λ x. Ok (extended g.F.ExactField.value x)) (sym c.unwrap_or.ensures)

pub relations-loop-op-init : goal.relations-loop-op-init
relations-loop-op-init g t c = refl

pub relations-loop-op-preserved : goal.relations-loop-op-preserved
relations-loop-op-preserved g t c = c.loop-op.invariant ∙ chain-more relation_step (Ok nothing) related_mark (related_answer g.F.ExactField.value g.F.ExactField.limit c.args.store.now c.args.b.now) (option_map (extended g.F.ExactField.value) c.loop-op.so_far) c.args.parts.now c.loop-op.op-index c.loop-op-item.result (extended g.F.ExactField.value c.in_ok-y.y) (extended g.F.ExactField.value c.related_part.result) c.loop-op-test.true c.loop-op-item.is c.in_ok-y.ensures c.related_part.ensures

pub relations-returns-in_err-y : goal.relations-returns-in_err-y
relations-returns-in_err-y g t c = handed_on g.F.ExactField.value (extended g.F.ExactField.value) c.from_residual.result c.in_err-y.field-0.0 _ c.from_residual.ensures.1 (chain-part-stops relation_step (Ok nothing) related_mark (related_answer g.F.ExactField.value g.F.ExactField.limit c.args.store.now c.args.b.now) g.F.ExactField.value c.in_err-y.field-0.0 _ (option_map (extended g.F.ExactField.value) c.loop-op.so_far) c.args.parts.now c.loop-op.op-index c.loop-op-item.result c.loop-op.invariant c.loop-op-test.true c.loop-op-item.is (λ fault y _. refl) c.in_err-y.ensures)

pub relations-returns : goal.relations-returns
relations-returns g t c = chain-result g.F.ExactField.value relation_step related_mark (related_answer g.F.ExactField.value g.F.ExactField.limit c.args.store.now c.args.b.now) _ c.loop-op.so_far c.zero.result c.args.parts.now c.loop-op.op-index c.loop-op.invariant c.loop-op-test.false c.zero.ensures ∙ ap (λ x. Ok (extended g.F.ExactField.value x)) (sym c.unwrap_or.ensures)

pub all_of-loop-part-init : goal.all_of-loop-part-init
all_of-loop-part-init g t c = refl

pub all_of-loop-part-preserved : goal.all_of-loop-part-preserved
all_of-loop-part-preserved g t c = c.loop-part.invariant ∙ chain-more all_step (Ok nothing) plain_mark (of_expr g.F.ExactField.value g.F.ExactField.limit c.args.store.now c.args.b.now) (option_map (extended g.F.ExactField.value) c.loop-part.so_far) c.args.parts.now c.loop-part.part-index c.part-item.result (extended g.F.ExactField.value c.in_ok-y.y) (extended g.F.ExactField.value c.all_part.result) c.loop-part-test.true c.part-item.is c.in_ok-y.ensures c.all_part.ensures

pub all_of-returns-in_err-y : goal.all_of-returns-in_err-y
all_of-returns-in_err-y g t c = handed_on g.F.ExactField.value (extended g.F.ExactField.value) c.from_residual.result c.in_err-y.field-0.0 _ c.from_residual.ensures.1 (chain-part-stops all_step (Ok nothing) plain_mark (of_expr g.F.ExactField.value g.F.ExactField.limit c.args.store.now c.args.b.now) g.F.ExactField.value c.in_err-y.field-0.0 _ (option_map (extended g.F.ExactField.value) c.loop-part.so_far) c.args.parts.now c.loop-part.part-index c.part-item.result c.loop-part.invariant c.loop-part-test.true c.part-item.is (and-takes (option_map (extended g.F.ExactField.value) c.loop-part.so_far) (sym c.is_left_by_and.ensures ∙ c.if-is_left_by_and.false)) c.in_err-y.ensures)

pub all_of-returns : goal.all_of-returns
all_of-returns g t c = chain-result g.F.ExactField.value all_step plain_mark (of_expr g.F.ExactField.value g.F.ExactField.limit c.args.store.now c.args.b.now) _ c.loop-part.so_far c.zero-2.result c.args.parts.now c.loop-part.part-index c.loop-part.invariant c.loop-part-test.false c.zero-2.ensures ∙ ap (λ x. Ok (extended g.F.ExactField.value x)) (sym c.unwrap_or.ensures)

pub one_of-loop-exclusive-init : goal.one_of-loop-exclusive-init
one_of-loop-exclusive-init g t c = refl

pub one_of-loop-exclusive-preserved : goal.one_of-loop-exclusive-preserved
one_of-loop-exclusive-preserved g t c = c.loop-exclusive.invariant ∙ chain-more one_step (Ok nothing) chosen_mark (chosen_answer g.F.ExactField.value g.F.ExactField.limit c.args.store.now c.args.b.now) (option_map (extended g.F.ExactField.value) c.loop-exclusive.so_far) c.args.parts.now c.loop-exclusive.exclusive-index c.loop-exclusive-item.result (extended g.F.ExactField.value c.in_ok-y.y) (extended g.F.ExactField.value c.one_part.result) c.loop-exclusive-test.true c.loop-exclusive-item.is c.in_ok-y.ensures c.one_part.ensures

pub one_of-returns-in_err-y : goal.one_of-returns-in_err-y
one_of-returns-in_err-y g t c = handed_on g.F.ExactField.value (extended g.F.ExactField.value) c.from_residual.result c.in_err-y.field-0.0 _ c.from_residual.ensures.1 (chain-part-stops one_step (Ok nothing) chosen_mark (chosen_answer g.F.ExactField.value g.F.ExactField.limit c.args.store.now c.args.b.now) g.F.ExactField.value c.in_err-y.field-0.0 _ (option_map (extended g.F.ExactField.value) c.loop-exclusive.so_far) c.args.parts.now c.loop-exclusive.exclusive-index c.loop-exclusive-item.result c.loop-exclusive.invariant c.loop-exclusive-test.true c.loop-exclusive-item.is (or-takes c.loop-exclusive-item.result.0 (option_map (extended g.F.ExactField.value) c.loop-exclusive.so_far) (sym c.is_left_by_or.ensures ∙ c.if-is_left_by_or.false)) c.in_err-y.ensures)

pub one_of-returns : goal.one_of-returns
one_of-returns g t c = chain-result g.F.ExactField.value one_step chosen_mark (chosen_answer g.F.ExactField.value g.F.ExactField.limit c.args.store.now c.args.b.now) _ c.loop-exclusive.so_far c.zero.result c.args.parts.now c.loop-exclusive.exclusive-index c.loop-exclusive.invariant c.loop-exclusive-test.false c.zero.ensures ∙ ap (λ x. Ok (extended g.F.ExactField.value x)) (sym c.unwrap_or.ensures)

pub all_hold-loop-place-init : goal.all_hold-loop-place-init
all_hold-loop-place-init g t c = holds-start (of_expr g.F.ExactField.value g.F.ExactField.limit c.args.store.now c.args.b.now) c.args.guards.now

pub all_hold-loop-place-preserved : goal.all_hold-loop-place-preserved
all_hold-loop-place-preserved g t c = holds-next (of_expr g.F.ExactField.value g.F.ExactField.limit c.args.store.now c.args.b.now) c.args.guards.now c.loop-place.place c.index-guards-place.result (extended g.F.ExactField.value c.in_ok-guard.guard) (omega arith) (omega arith) c.index-guards-place.is c.loop-place.invariant c.in_ok-guard.ensures ∙ ap Ok (sym c.is_so.ensures ∙ c.if-not-is_so.false)

pub all_hold-returns-in_err-guard : goal.all_hold-returns-in_err-guard
all_hold-returns-in_err-guard g t c = handed_on g.F.ExactField.value (λ hold. hold) c.from_residual.result c.in_err-guard.field-0.0 _ c.from_residual.ensures.1 (guard-stops (of_expr g.F.ExactField.value g.F.ExactField.limit c.args.store.now c.args.b.now) g.F.ExactField.value c.in_err-guard.field-0.0 c.args.guards.now c.loop-place.place c.index-guards-place.result (omega arith) (omega arith) c.index-guards-place.is c.loop-place.invariant c.in_err-guard.ensures)

pub all_hold-returns : goal.all_hold-returns
all_hold-returns g t c = all-hold (of_expr g.F.ExactField.value g.F.ExactField.limit c.args.store.now c.args.b.now) c.args.guards.now c.loop-place.place (omega arith) c.loop-place.invariant

pub arguments-loop-arg-init : goal.arguments-loop-arg-init
arguments-loop-arg-init g t c = going_on-start (of_expr g.F.ExactField.value g.F.ExactField.limit c.args.store.now c.args.b.now) c.args.args.now ∙ ap (λ items. going_on (of_expr g.F.ExactField.value g.F.ExactField.limit c.args.store.now c.args.b.now) (map (extended g.F.ExactField.value) items) c.args.args.now) (sym c.new-values.ensures.items)

pub arguments-loop-arg-preserved : goal.arguments-loop-arg-preserved
arguments-loop-arg-preserved g t c = c.loop-arg.invariant ∙ going_on-more (of_expr g.F.ExactField.value g.F.ExactField.limit c.args.store.now c.args.b.now) (map (extended g.F.ExactField.value) c.loop-arg.values.items) c.args.args.now c.loop-arg.arg-index c.arg-item.result (extended g.F.ExactField.value c.in_ok-value.field-0) c.loop-arg-test.true c.arg-item.is c.in_ok-value.ensures ∙ ap (λ done. going_on (of_expr g.F.ExactField.value g.F.ExactField.limit c.args.store.now c.args.b.now) done (drop (c.loop-arg.arg-index + 1) c.args.args.now)) (sym (ap (map (extended g.F.ExactField.value)) c.in_ok-push.ensures.items ∙ map_push (extended g.F.ExactField.value) c.loop-arg.values.items c.in_ok-value.field-0))

pub arguments-returns-in_err-value : goal.arguments-returns-in_err-value
arguments-returns-in_err-value g t c = handed_on g.F.ExactField.value (λ values. map (extended g.F.ExactField.value) values.items) c.from_residual.result c.in_err-value.field-0.0 _ c.from_residual.ensures.1 (stops-same g.F.ExactField.value c.in_err-value.field-0.0 _ _ c.loop-arg.invariant (stops-along g.F.ExactField.value c.in_err-value.field-0.0 ((of_expr g.F.ExactField.value g.F.ExactField.limit c.args.store.now c.args.b.now) c.arg-item.result) _ (λ fault e. going_on-fault (of_expr g.F.ExactField.value g.F.ExactField.limit c.args.store.now c.args.b.now) (map (extended g.F.ExactField.value) c.loop-arg.values.items) c.args.args.now c.loop-arg.arg-index c.arg-item.result fault c.loop-arg-test.true c.arg-item.is e) c.in_err-value.ensures))

pub arguments-returns : goal.arguments-returns
arguments-returns g t c = c.loop-arg.invariant ∙ going_on-end (of_expr g.F.ExactField.value g.F.ExactField.limit c.args.store.now c.args.b.now) (map (extended g.F.ExactField.value) c.loop-arg.values.items) c.args.args.now c.loop-arg.arg-index c.loop-arg-test.false

pub tuple_of-loop-index-init : goal.tuple_of-loop-index-init
tuple_of-loop-index-init g t c = filling-start (label_answer g.F.ExactField.value g.F.ExactField.limit c.args.store.now c.args.b.now) c.args.indices.now ∙ ap (λ t. filling (label_answer g.F.ExactField.value g.F.ExactField.limit c.args.store.now c.args.b.now) (Some t) c.args.indices.now) (sym c.new.ensures)

pub tuple_of-loop-index-preserved : goal.tuple_of-loop-index-preserved
tuple_of-loop-index-preserved g t c = c.loop-index.invariant ∙ filling-more (label_answer g.F.ExactField.value g.F.ExactField.limit c.args.store.now c.args.b.now) c.loop-index.tuple c.args.indices.now c.loop-index.index-index c.index-item.result c.in_ok-label.label c.loop-index-test.true c.index-item.is c.in_ok-label.ensures ∙ ap (λ t. filling (label_answer g.F.ExactField.value g.F.ExactField.limit c.args.store.now c.args.b.now) t (drop (c.loop-index.index-index + 1) c.args.indices.now)) (sym c.in_ok-tuple.ensures)

pub tuple_of-returns-in_err-label : goal.tuple_of-returns-in_err-label
tuple_of-returns-in_err-label g t c = handed_on g.F.ExactField.value (λ tuple. tuple) c.from_residual.result c.in_err-label.field-0.0 _ c.from_residual.ensures.1 (stops-same g.F.ExactField.value c.in_err-label.field-0.0 _ _ c.loop-index.invariant (stops-along g.F.ExactField.value c.in_err-label.field-0.0 ((label_answer g.F.ExactField.value g.F.ExactField.limit c.args.store.now c.args.b.now) c.index-item.result) _ (λ fault e. filling-fault (label_answer g.F.ExactField.value g.F.ExactField.limit c.args.store.now c.args.b.now) c.loop-index.tuple c.args.indices.now c.loop-index.index-index c.index-item.result fault c.loop-index-test.true c.index-item.is e) c.in_err-label.ensures))

pub tuple_of-returns : goal.tuple_of-returns
tuple_of-returns g t c = c.loop-index.invariant ∙ filling-end (label_answer g.F.ExactField.value g.F.ExactField.limit c.args.store.now c.args.b.now) c.loop-index.tuple c.args.indices.now c.loop-index.index-index c.loop-index-test.false

pub chosen-loop-number-init : goal.chosen-loop-number-init
chosen-loop-number-init g t c = (choosing-start (λ element. holds g.F.ExactField.value g.F.ExactField.limit c.args.store.now (controlled c.args.b.now c.args.sets.now element) (tree_of c.args.condition.now)) (those_of c.args.store.now c.args.sets.now c.args.among.now) ∙ ap (λ done. choosing (λ element. holds g.F.ExactField.value g.F.ExactField.limit c.args.store.now (controlled c.args.b.now c.args.sets.now element) (tree_of c.args.condition.now)) done (those_of c.args.store.now c.args.sets.now c.args.among.now)) (sym c.new-those.ensures.items), inner-start c.args.b.now c.in_ok-inner.inner c.in_ok-inner.ensures)

pub chosen-loop-number-preserved : goal.chosen-loop-number-preserved
chosen-loop-number-preserved g t c = (c.loop-number.invariant.0 ∙ choosing-more (λ element. holds g.F.ExactField.value g.F.ExactField.limit c.args.store.now (controlled c.args.b.now c.args.sets.now element) (tree_of c.args.condition.now)) c.loop-number.those.items (those_of c.args.store.now c.args.sets.now c.args.among.now) c.loop-number.number c.in_ok-element.element c.is_so.result (omega (arith, c.loop-number-test.true, c.count-number-end.ensures)) c.in_ok-element.ensures (inner-holds g.F.ExactField.value g.F.ExactField.limit c.args.store.now c.control.new.self (controlled c.args.b.now c.args.sets.now c.in_ok-element.element) (tree_of c.args.condition.now) (inner-controlled c.args.b.now c.loop-number.inner c.control.new.self c.args.sets.now c.in_ok-element.element c.as_slice.result.now c.len.result c.loop-number.invariant.1 c.len.ensures c.as_slice.ensures.value c.in_ok-control.ensures) (extended g.F.ExactField.value c.in_ok-value.value) c.is_so.result c.in_ok-value.ensures c.is_so.ensures) ∙ ap (λ done. choosing (λ element. holds g.F.ExactField.value g.F.ExactField.limit c.args.store.now (controlled c.args.b.now c.args.sets.now element) (tree_of c.args.condition.now)) done (drop (c.loop-number.number + 1) (those_of c.args.store.now c.args.sets.now c.args.among.now))) (sym c.in_ok-keep.ensures), inner-kept c.args.b.now c.control.new.self c.args.sets.now c.in_ok-element.element (inner-controlled c.args.b.now c.loop-number.inner c.control.new.self c.args.sets.now c.in_ok-element.element c.as_slice.result.now c.len.result c.loop-number.invariant.1 c.len.ensures c.as_slice.ensures.value c.in_ok-control.ensures))

pub chosen-returns-in_err-value : goal.chosen-returns-in_err-value
chosen-returns-in_err-value g t c = handed_on g.F.ExactField.value (λ those. those.items) c.from_residual-in_err-value.result c.in_err-value.field-0.0 _ c.from_residual-in_err-value.ensures.1 (choosing-stops (λ element. holds g.F.ExactField.value g.F.ExactField.limit c.args.store.now (controlled c.args.b.now c.args.sets.now element) (tree_of c.args.condition.now)) g.F.ExactField.value c.in_err-value.field-0.0 _ c.loop-number.those.items (those_of c.args.store.now c.args.sets.now c.args.among.now) c.loop-number.number c.in_ok-element.element c.loop-number.invariant.0 (omega (arith, c.loop-number-test.true, c.count-number-end.ensures)) c.in_ok-element.ensures (inner-holds-stops g.F.ExactField.value g.F.ExactField.limit c.args.store.now c.control.new.self (controlled c.args.b.now c.args.sets.now c.in_ok-element.element) (tree_of c.args.condition.now) (inner-controlled c.args.b.now c.loop-number.inner c.control.new.self c.args.sets.now c.in_ok-element.element c.as_slice.result.now c.len.result c.loop-number.invariant.1 c.len.ensures c.as_slice.ensures.value c.in_ok-control.ensures) c.in_err-value.field-0.0 c.in_err-value.ensures))

pub chosen-returns : goal.chosen-returns
chosen-returns g t c = c.loop-number.invariant.0 ∙ choosing-end (λ element. holds g.F.ExactField.value g.F.ExactField.limit c.args.store.now (controlled c.args.b.now c.args.sets.now element) (tree_of c.args.condition.now)) c.loop-number.those.items (those_of c.args.store.now c.args.sets.now c.args.among.now) c.loop-number.number (omega (arith, c.loop-number-test.false, c.count-number-end.ensures))

pub folded-loop-number-init : goal.folded-loop-number-init
folded-loop-number-init g t c = (ap (λ o. from_here (fold_step g.F.ExactField.limit c.args.b.now c.args.op c.args.at) (Err (faulted EmptyExtreme c.args.at c.args.b.now nothing nothing)) (λ _. plain) (λ element. value g.F.ExactField.value g.F.ExactField.limit c.args.store.now (controlled c.args.b.now c.args.sets.now element) (tree_of c.args.body.now)) o (those_of c.args.store.now c.args.sets.now c.args.those.now)) (sym c.start-so_far.ensures), inner-start c.args.b.now c.in_ok-inner.inner c.in_ok-inner.ensures)

pub folded-loop-number-preserved : goal.folded-loop-number-preserved
folded-loop-number-preserved g t c = (c.loop-number.invariant.0 ∙ chain-more (fold_step g.F.ExactField.limit c.args.b.now c.args.op c.args.at) (Err (faulted EmptyExtreme c.args.at c.args.b.now nothing nothing)) (λ _. plain) (λ element. value g.F.ExactField.value g.F.ExactField.limit c.args.store.now (controlled c.args.b.now c.args.sets.now element) (tree_of c.args.body.now)) (option_map (extended g.F.ExactField.value) c.loop-number.so_far) (those_of c.args.store.now c.args.sets.now c.args.those.now) c.loop-number.number c.in_ok-element.element (extended g.F.ExactField.value c.in_ok-y.y) (extended g.F.ExactField.value c.in_ok-fold_part.field-0) (omega (arith, c.loop-number-test.true, c.count-number-end.ensures)) (at_itself (those_of c.args.store.now c.args.sets.now c.args.those.now) c.loop-number.number [] c.in_ok-element.element (omega (arith, c.loop-number-test.true, c.count-number-end.ensures)) c.in_ok-element.ensures) (inner-value g.F.ExactField.value g.F.ExactField.limit c.args.store.now c.control.new.self (controlled c.args.b.now c.args.sets.now c.in_ok-element.element) (tree_of c.args.body.now) (inner-controlled c.args.b.now c.loop-number.inner c.control.new.self c.args.sets.now c.in_ok-element.element c.as_slice.result.now c.len.result c.loop-number.invariant.1 c.len.ensures c.as_slice.ensures.value c.in_ok-control.ensures) (extended g.F.ExactField.value c.in_ok-y.y) c.in_ok-y.ensures) c.in_ok-fold_part.ensures, inner-kept c.args.b.now c.control.new.self c.args.sets.now c.in_ok-element.element (inner-controlled c.args.b.now c.loop-number.inner c.control.new.self c.args.sets.now c.in_ok-element.element c.as_slice.result.now c.len.result c.loop-number.invariant.1 c.len.ensures c.as_slice.ensures.value c.in_ok-control.ensures))

pub folded-returns-in_err-y : goal.folded-returns-in_err-y
folded-returns-in_err-y g t c = handed_on g.F.ExactField.value (extended g.F.ExactField.value) c.from_residual-in_err-y.result c.in_err-y.field-0.0 _ c.from_residual-in_err-y.ensures.1 (chain-part-stops (fold_step g.F.ExactField.limit c.args.b.now c.args.op c.args.at) (Err (faulted EmptyExtreme c.args.at c.args.b.now nothing nothing)) (λ _. plain) (λ element. value g.F.ExactField.value g.F.ExactField.limit c.args.store.now (controlled c.args.b.now c.args.sets.now element) (tree_of c.args.body.now)) g.F.ExactField.value c.in_err-y.field-0.0 _ (option_map (extended g.F.ExactField.value) c.loop-number.so_far) (those_of c.args.store.now c.args.sets.now c.args.those.now) c.loop-number.number c.in_ok-element.element c.loop-number.invariant.0 (omega (arith, c.loop-number-test.true, c.count-number-end.ensures)) (at_itself (those_of c.args.store.now c.args.sets.now c.args.those.now) c.loop-number.number [] c.in_ok-element.element (omega (arith, c.loop-number-test.true, c.count-number-end.ensures)) c.in_ok-element.ensures) (λ fault y _. refl) (inner-stops g.F.ExactField.value g.F.ExactField.limit c.args.store.now c.control.new.self (controlled c.args.b.now c.args.sets.now c.in_ok-element.element) (tree_of c.args.body.now) (inner-controlled c.args.b.now c.loop-number.inner c.control.new.self c.args.sets.now c.in_ok-element.element c.as_slice.result.now c.len.result c.loop-number.invariant.1 c.len.ensures c.as_slice.ensures.value c.in_ok-control.ensures) c.in_err-y.field-0.0 c.in_err-y.ensures))

pub folded-returns-in_err-fold_part : goal.folded-returns-in_err-fold_part
folded-returns-in_err-fold_part g t c = handed_on g.F.ExactField.value (extended g.F.ExactField.value) c.from_residual-in_err-fold_part.result c.in_err-fold_part.field-0.0 _ c.from_residual-in_err-fold_part.ensures.1 (chain-step-stops (fold_step g.F.ExactField.limit c.args.b.now c.args.op c.args.at) (Err (faulted EmptyExtreme c.args.at c.args.b.now nothing nothing)) (λ _. plain) (λ element. value g.F.ExactField.value g.F.ExactField.limit c.args.store.now (controlled c.args.b.now c.args.sets.now element) (tree_of c.args.body.now)) g.F.ExactField.value c.in_err-fold_part.field-0.0 _ (option_map (extended g.F.ExactField.value) c.loop-number.so_far) (those_of c.args.store.now c.args.sets.now c.args.those.now) c.loop-number.number c.in_ok-element.element (extended g.F.ExactField.value c.in_ok-y.y) c.loop-number.invariant.0 (omega (arith, c.loop-number-test.true, c.count-number-end.ensures)) (at_itself (those_of c.args.store.now c.args.sets.now c.args.those.now) c.loop-number.number [] c.in_ok-element.element (omega (arith, c.loop-number-test.true, c.count-number-end.ensures)) c.in_ok-element.ensures) (inner-value g.F.ExactField.value g.F.ExactField.limit c.args.store.now c.control.new.self (controlled c.args.b.now c.args.sets.now c.in_ok-element.element) (tree_of c.args.body.now) (inner-controlled c.args.b.now c.loop-number.inner c.control.new.self c.args.sets.now c.in_ok-element.element c.as_slice.result.now c.len.result c.loop-number.invariant.1 c.len.ensures c.as_slice.ensures.value c.in_ok-control.ensures) (extended g.F.ExactField.value c.in_ok-y.y) c.in_ok-y.ensures) c.in_err-fold_part.ensures)

pub all_hold-returns-then-not-is_so : goal.all_hold-returns-then-not-is_so
all_hold-returns-then-not-is_so g t c = one-fails (of_expr g.F.ExactField.value g.F.ExactField.limit c.args.store.now c.args.b.now) c.args.guards.now (c.loop-place.place - 1) _ (sym c.is_so.ensures ∙ c.if-not-is_so.true) (holds-next (of_expr g.F.ExactField.value g.F.ExactField.limit c.args.store.now c.args.b.now) c.args.guards.now c.loop-place.place c.index-guards-place.result (extended g.F.ExactField.value c.in_ok-guard.guard) (omega arith) (omega arith) c.index-guards-place.is c.loop-place.invariant c.in_ok-guard.ensures)

pub folded-returns-in-Some : goal.folded-returns-in-Some
folded-returns-in-Some g t c = fold-result g.F.ExactField.value (fold_step g.F.ExactField.limit c.args.b.now c.args.op c.args.at) (λ _. plain) (λ element. value g.F.ExactField.value g.F.ExactField.limit c.args.store.now (controlled c.args.b.now c.args.sets.now element) (tree_of c.args.body.now)) (Err (faulted EmptyExtreme c.args.at c.args.b.now nothing nothing)) _ c.loop-number.so_far c.in-Some.value (those_of c.args.store.now c.args.sets.now c.args.those.now) c.loop-number.number c.loop-number.invariant.0 (omega (arith, c.loop-number-test.false, c.count-number-end.ensures)) c.in-Some.is

pub folded-returns : goal.folded-returns
folded-returns g t c = stops-shown g.F.ExactField.value c.at_step.result _ _ (fold-empty g.F.ExactField.value (fold_step g.F.ExactField.limit c.args.b.now c.args.op c.args.at) (λ _. plain) (λ element. value g.F.ExactField.value g.F.ExactField.limit c.args.store.now (controlled c.args.b.now c.args.sets.now element) (tree_of c.args.body.now)) (Err (faulted EmptyExtreme c.args.at c.args.b.now nothing nothing)) _ c.loop-number.so_far (those_of c.args.store.now c.args.sets.now c.args.those.now) c.loop-number.number c.loop-number.invariant.0 (omega (arith, c.loop-number-test.false, c.count-number-end.ensures)) c.in-None.is ∙ ap (λ x. Err (faulted EmptyExtreme c.args.at c.args.b.now x nothing)) (sym c.zero.ensures) ∙ ap (λ x. Err (faulted EmptyExtreme c.args.at c.args.b.now (extended g.F.ExactField.value c.zero.result) x)) (sym c.zero-in-None.ensures)) c.at_step.ensures

pub all_of-loop-part-preserved-then-is_left_by_and : goal.all_of-loop-part-preserved-then-is_left_by_and
all_of-loop-part-preserved-then-is_left_by_and g t c = c.loop-part.invariant ∙ and-left plain_mark (of_expr g.F.ExactField.value g.F.ExactField.limit c.args.store.now c.args.b.now) (option_map (extended g.F.ExactField.value) c.loop-part.so_far) c.args.parts.now c.loop-part.part-index c.part-item.result c.loop-part-test.true c.part-item.is (sym c.is_left_by_and.ensures ∙ c.if-is_left_by_and.true) ∙ ap (λ z. from_here all_step (Ok nothing) plain_mark (of_expr g.F.ExactField.value g.F.ExactField.limit c.args.store.now c.args.b.now) (Some z) (drop (c.loop-part.part-index + 1) c.args.parts.now)) (sym c.zero.ensures)

pub one_of-loop-exclusive-preserved-then-is_left_by_or : goal.one_of-loop-exclusive-preserved-then-is_left_by_or
one_of-loop-exclusive-preserved-then-is_left_by_or g t c = c.loop-exclusive.invariant ∙ or-left chosen_mark (chosen_answer g.F.ExactField.value g.F.ExactField.limit c.args.store.now c.args.b.now) c.loop-exclusive-item.result.0 (option_map (extended g.F.ExactField.value) c.loop-exclusive.so_far) c.args.parts.now c.loop-exclusive.exclusive-index c.loop-exclusive-item.result refl c.loop-exclusive-test.true c.loop-exclusive-item.is (sym c.is_left_by_or.ensures ∙ c.if-is_left_by_or.true) ∙ ap (λ z. from_here one_step (Ok nothing) chosen_mark (chosen_answer g.F.ExactField.value g.F.ExactField.limit c.args.store.now c.args.b.now) (Some z) (drop (c.loop-exclusive.exclusive-index + 1) c.args.parts.now)) (sym c.truth.ensures)

pub value-returns-in-PlusInf : goal.value-returns-in-PlusInf
value-returns-in-PlusInf g t c = ap (of_expr g.F.ExactField.value g.F.ExactField.limit c.args.store.now c.args.b.now) c.in-PlusInf.is ∙ value-PlusInf g.F.ExactField.value g.F.ExactField.limit c.args.store.now c.args.b.now

pub value-returns-in-Na : goal.value-returns-in-Na
value-returns-in-Na g t c = ap (of_expr g.F.ExactField.value g.F.ExactField.limit c.args.store.now c.args.b.now) c.in-Na.is ∙ value-Na g.F.ExactField.value g.F.ExactField.limit c.args.store.now c.args.b.now

pub value-returns-in-Yes : goal.value-returns-in-Yes
value-returns-in-Yes g t c = ap (of_expr g.F.ExactField.value g.F.ExactField.limit c.args.store.now c.args.b.now) c.in-Yes.is ∙ value-Yes g.F.ExactField.value g.F.ExactField.limit c.args.store.now c.args.b.now ∙ ap Ok (sym c.truth.ensures)

pub value-returns-in-No : goal.value-returns-in-No
value-returns-in-No g t c = ap (of_expr g.F.ExactField.value g.F.ExactField.limit c.args.store.now c.args.b.now) c.in-No.is ∙ value-No g.F.ExactField.value g.F.ExactField.limit c.args.store.now c.args.b.now ∙ ap Ok (sym c.truth-in-No.ensures)

pub label_of-returns-in-Label : goal.label_of-returns-in-Label
label_of-returns-in-Label g t c = ap (label_answer g.F.ExactField.value g.F.ExactField.limit c.args.store.now c.args.b.now) c.in-Label.is ∙ label-Label g.F.ExactField.value g.F.ExactField.limit c.args.store.now c.args.b.now c.in-Label.label

pub label_of-returns-in-None : goal.label_of-returns-in-None
label_of-returns-in-None g t c = ap (label_answer g.F.ExactField.value g.F.ExactField.limit c.args.store.now c.args.b.now) c.in-Set.is ∙ ap (λ lag. (label_answer g.F.ExactField.value g.F.ExactField.limit c.args.store.now c.args.b.now) (Set c.in-Set.name lag)) c.in-None.is ∙ label-alone g.F.ExactField.value g.F.ExactField.limit c.args.store.now c.args.b.now c.in-Set.name ∙ ap Ok (sym c.label.ensures)

pub label_of-returns-in_err-amount-in-Some : goal.label_of-returns-in_err-amount-in-Some
label_of-returns-in_err-amount-in-Some g t c = handed_on g.F.ExactField.value (λ label. label) c.from_residual.result c.in_err-amount-in-Some.field-0.0 _ c.from_residual.ensures.1 (stops-same g.F.ExactField.value c.in_err-amount-in-Some.field-0.0 ((label_answer g.F.ExactField.value g.F.ExactField.limit c.args.store.now c.args.b.now) c.args.index.now) _ (ap (label_answer g.F.ExactField.value g.F.ExactField.limit c.args.store.now c.args.b.now) c.in-Set.is ∙ ap (λ lag. (label_answer g.F.ExactField.value g.F.ExactField.limit c.args.store.now c.args.b.now) (Set c.in-Set.name lag)) c.in-Some.is ∙ label-lagged g.F.ExactField.value g.F.ExactField.limit c.args.store.now c.args.b.now c.in-Set.name (c.in-Some.op, c.in-Some.at, c.in-Some.amount)) (stops-then g.F.ExactField.value c.in_err-amount-in-Some.field-0.0 ((of_expr g.F.ExactField.value g.F.ExactField.limit c.args.store.now c.args.b.now) c.in-Some.amount.value) _ (stops-same g.F.ExactField.value c.in_err-amount-in-Some.field-0.0 ((of_expr g.F.ExactField.value g.F.ExactField.limit c.args.store.now c.args.b.now) c.in-Some.amount.value) ((of_expr g.F.ExactField.value g.F.ExactField.limit c.args.store.now c.args.b.now) c.deref.result.now) (ap (of_expr g.F.ExactField.value g.F.ExactField.limit c.args.store.now c.args.b.now) (sym c.deref.ensures)) c.in_err-amount-in-Some.ensures)))

pub label_of-returns-in_ok-amount-in-Some : goal.label_of-returns-in_ok-amount-in-Some
label_of-returns-in_ok-amount-in-Some g t c = gives-same g.F.ExactField.value (λ label. label) c.reached.result ((label_answer g.F.ExactField.value g.F.ExactField.limit c.args.store.now c.args.b.now) c.args.index.now) _ (ap (label_answer g.F.ExactField.value g.F.ExactField.limit c.args.store.now c.args.b.now) c.in-Set.is ∙ ap (λ lag. (label_answer g.F.ExactField.value g.F.ExactField.limit c.args.store.now c.args.b.now) (Set c.in-Set.name lag)) c.in-Some.is ∙ label-lagged g.F.ExactField.value g.F.ExactField.limit c.args.store.now c.args.b.now c.in-Set.name (c.in-Some.op, c.in-Some.at, c.in-Some.amount) ∙ then-value ((of_expr g.F.ExactField.value g.F.ExactField.limit c.args.store.now c.args.b.now) c.in-Some.amount.value) (extended g.F.ExactField.value c.in_ok-amount-in-Some.amount) _ (ap (of_expr g.F.ExactField.value g.F.ExactField.limit c.args.store.now c.args.b.now) (sym c.deref.ensures) ∙ c.in_ok-amount-in-Some.ensures)) c.reached.ensures

pub value-referred-requires : goal.value-referred-requires
value-referred-requires g t c κs within = let s = indices-less_deep c.in-Ref.at c.in-Ref.name c.in-Ref.suffix c.in-Ref.indices in let f = ap (size-Expr g.row.F.Denot) c.in-Ref.is in let m = ap (most (size-Index g.row.F.Denot)) c.deref.ensures.value in let d : 3 * size-Expr g.row.F.Denot c.args.e.now + 0 ≡ t = c.decreases in let k : 3 * most (size-Index g.row.F.Denot) c.deref.result.now + 2 < t = omega arith in (k, search rules)
