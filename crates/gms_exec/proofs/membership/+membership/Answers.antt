use Rattle.std.proofs.Common.{◌≡◌, ◌∙◌, ap, sym, refl, ◌&&◌, true, false, not, Ok, map, if◌then◌else◌}
use Rattle.gms_ast.specs.Trees.{signed}
use Rattle.gms_eval.specs.Nodes.{each_holds}
use Rattle.gms_eval.specs.Faults.{◌and_then◌}
use Rattle.gms_eval.proofs.Answering.{stops-same, stops-then, handed_on, gives-same, then-value}
use Rattle.gms_eval.proofs.Marks.{signed_mark}
use Rattle.gms_eval.proofs.NodeValues.{of_expr}
use Rattle.gms_exec.specs.Membership.{joined_membership, in_sum, in_product}
use Rattle.gms_exec.proofs.MemberTrees.{member_expr, member_part, member-Yes, member-No, member-Neg, member-Not, member-Plus, member-Times, member-Guard, guarded-so, guarded-not, joined_on-more, joined_on-end, joined_on-stops}
use Rattle.gms_exec.proofs.OtherTrees.{member-other}
use Rattle.gms_exec.proofs.membership.+membership.Goals as goal
use Rattle.gms_exec.proofs.membership.+membership.Goals.{in_product-then-so_far, in_product-else-so_far}

pub in_product-loop-part-init : goal.in_product-loop-part-init
in_product-loop-part-init g t c = refl

pub in_product-returns-in_err-holds : goal.in_product-returns-in_err-holds
in_product-returns-in_err-holds g t c =
    handed_on g.F.ExactField.value (λ holds. holds) c.from_residual.result c.in_err-holds.field-0.0 _ c.from_residual.ensures.1 (joined_on-stops in_product signed_mark (member_part g.F.ExactField.value g.F.ExactField.limit c.args.store.now c.args.b.now) g.F.ExactField.value c.in_err-holds.field-0.0 _ c.loop-part.so_far c.args.parts.now c.loop-part.part-index c.loop-part-item.result c.loop-part.invariant c.loop-part-test.true c.loop-part-item.is c.in_err-holds.ensures)

pub in_product-loop-part-preserved : goal.in_product-loop-part-preserved
in_product-loop-part-preserved g t c =
    let so_far : c.if-so_far.so_far ≡ (c.loop-part.so_far && c.in_ok-holds.holds) = elim c.if-so_far.branch [
      | in_product-then-so_far w ↦ w.so_far-is ∙ sym (ap (λ b. b && c.in_ok-holds.holds) w.if-so_far.true)
      | in_product-else-so_far w ↦ w.so_far-is ∙ w.if-so_far.false ∙ sym (ap (λ b. b && c.in_ok-holds.holds) w.if-so_far.false)
    ] in
    c.loop-part.invariant ∙ joined_on-more in_product signed_mark (member_part g.F.ExactField.value g.F.ExactField.limit c.args.store.now c.args.b.now) c.loop-part.so_far c.args.parts.now c.loop-part.part-index c.loop-part-item.result c.in_ok-holds.holds c.if-so_far.so_far c.loop-part-test.true c.loop-part-item.is c.in_ok-holds.ensures so_far

pub in_product-returns : goal.in_product-returns
in_product-returns g t c =
    joined_on-end in_product signed_mark (member_part g.F.ExactField.value g.F.ExactField.limit c.args.store.now c.args.b.now) _ c.loop-part.so_far c.args.parts.now c.loop-part.part-index c.loop-part.invariant c.loop-part-test.false

pub in_sum-loop-subtracts-init : goal.in_sum-loop-subtracts-init
in_sum-loop-subtracts-init g t c = refl

pub in_sum-returns-in_err-holds : goal.in_sum-returns-in_err-holds
in_sum-returns-in_err-holds g t c =
    handed_on g.F.ExactField.value (λ holds. holds) c.from_residual.result c.in_err-holds.field-0.0 _ c.from_residual.ensures.1 (joined_on-stops in_sum signed_mark (member_part g.F.ExactField.value g.F.ExactField.limit c.args.store.now c.args.b.now) g.F.ExactField.value c.in_err-holds.field-0.0 _ c.loop-subtracts.so_far c.args.parts.now c.loop-subtracts.subtracts-index c.loop-subtracts-item.result c.loop-subtracts.invariant c.loop-subtracts-test.true c.loop-subtracts-item.is c.in_err-holds.ensures)

pub in_sum-loop-subtracts-preserved : goal.in_sum-loop-subtracts-preserved
in_sum-loop-subtracts-preserved g t c =
    c.loop-subtracts.invariant ∙ joined_on-more in_sum signed_mark (member_part g.F.ExactField.value g.F.ExactField.limit c.args.store.now c.args.b.now) c.loop-subtracts.so_far c.args.parts.now c.loop-subtracts.subtracts-index c.loop-subtracts-item.result c.in_ok-holds.holds c.with_part-so_far.result c.loop-subtracts-test.true c.loop-subtracts-item.is c.in_ok-holds.ensures (c.with_part-so_far.ensures c.loop-subtracts-item.result.0)

pub in_sum-returns : goal.in_sum-returns
in_sum-returns g t c =
    joined_on-end in_sum signed_mark (member_part g.F.ExactField.value g.F.ExactField.limit c.args.store.now c.args.b.now) _ c.loop-subtracts.so_far c.args.parts.now c.loop-subtracts.subtracts-index c.loop-subtracts.invariant c.loop-subtracts-test.false

pub membership-returns-in-Yes : goal.membership-returns-in-Yes
membership-returns-in-Yes g t c = ap (member_expr g.F.ExactField.value g.F.ExactField.limit c.args.store.now c.args.b.now) c.in-Yes.is ∙ member-Yes g.F.ExactField.value g.F.ExactField.limit c.args.store.now c.args.b.now

pub membership-returns-in-No : goal.membership-returns-in-No
membership-returns-in-No g t c = ap (member_expr g.F.ExactField.value g.F.ExactField.limit c.args.store.now c.args.b.now) c.in-No.is ∙ member-No g.F.ExactField.value g.F.ExactField.limit c.args.store.now c.args.b.now

pub membership-returns-in-Neg : goal.membership-returns-in-Neg
membership-returns-in-Neg g t c =
    gives-same g.F.ExactField.value (λ holds. holds) c.membership.result (member_expr g.F.ExactField.value g.F.ExactField.limit c.args.store.now c.args.b.now c.args.e.now) _ (ap (member_expr g.F.ExactField.value g.F.ExactField.limit c.args.store.now c.args.b.now) c.in-Neg.is ∙ member-Neg g.F.ExactField.value g.F.ExactField.limit c.args.store.now c.args.b.now c.in-Neg.operand ∙ ap (member_expr g.F.ExactField.value g.F.ExactField.limit c.args.store.now c.args.b.now) (sym c.deref.ensures)) c.membership.ensures

pub membership-returns-in_err-membership-in-Not : goal.membership-returns-in_err-membership-in-Not
membership-returns-in_err-membership-in-Not g t c =
    handed_on g.F.ExactField.value (λ holds. holds) c.from_residual.result c.in_err-membership-in-Not.field-0.0 _ c.from_residual.ensures.1 (stops-same g.F.ExactField.value c.in_err-membership-in-Not.field-0.0 (member_expr g.F.ExactField.value g.F.ExactField.limit c.args.store.now c.args.b.now c.args.e.now) _ (ap (member_expr g.F.ExactField.value g.F.ExactField.limit c.args.store.now c.args.b.now) c.in-Not.is ∙ member-Not g.F.ExactField.value g.F.ExactField.limit c.args.store.now c.args.b.now c.in-Not.operand ∙ ap (λ e. member_expr g.F.ExactField.value g.F.ExactField.limit c.args.store.now c.args.b.now e and_then (λ x. Ok (not x))) (sym c.deref-in-Not.ensures)) (stops-then g.F.ExactField.value c.in_err-membership-in-Not.field-0.0 (member_expr g.F.ExactField.value g.F.ExactField.limit c.args.store.now c.args.b.now c.deref-in-Not.result.now) (λ x. Ok (not x)) c.in_err-membership-in-Not.ensures))

pub membership-returns-in_ok-membership-in-Not : goal.membership-returns-in_ok-membership-in-Not
membership-returns-in_ok-membership-in-Not g t c =
    ap (member_expr g.F.ExactField.value g.F.ExactField.limit c.args.store.now c.args.b.now) c.in-Not.is ∙ member-Not g.F.ExactField.value g.F.ExactField.limit c.args.store.now c.args.b.now c.in-Not.operand ∙ ap (λ e. member_expr g.F.ExactField.value g.F.ExactField.limit c.args.store.now c.args.b.now e and_then (λ x. Ok (not x))) (sym c.deref-in-Not.ensures) ∙ then-value (member_expr g.F.ExactField.value g.F.ExactField.limit c.args.store.now c.args.b.now c.deref-in-Not.result.now) c.in_ok-membership-in-Not.field-0 (λ x. Ok (not x)) c.in_ok-membership-in-Not.ensures

pub membership-returns-in-Plus : goal.membership-returns-in-Plus
membership-returns-in-Plus g t c =
    gives-same g.F.ExactField.value (λ holds. holds) c.in_sum.result (member_expr g.F.ExactField.value g.F.ExactField.limit c.args.store.now c.args.b.now c.args.e.now) _ (ap (member_expr g.F.ExactField.value g.F.ExactField.limit c.args.store.now c.args.b.now) c.in-Plus.is ∙ member-Plus g.F.ExactField.value g.F.ExactField.limit c.args.store.now c.args.b.now c.in-Plus.parts ∙ ap (λ ps. joined_membership in_sum false (map (λ p. (signed p.0 p.1, member_expr g.F.ExactField.value g.F.ExactField.limit c.args.store.now c.args.b.now p.2)) ps)) (sym c.deref-in-Plus.ensures.value)) c.in_sum.ensures

pub membership-returns-in-Times : goal.membership-returns-in-Times
membership-returns-in-Times g t c =
    gives-same g.F.ExactField.value (λ holds. holds) c.in_product.result (member_expr g.F.ExactField.value g.F.ExactField.limit c.args.store.now c.args.b.now c.args.e.now) _ (ap (member_expr g.F.ExactField.value g.F.ExactField.limit c.args.store.now c.args.b.now) c.in-Times.is ∙ member-Times g.F.ExactField.value g.F.ExactField.limit c.args.store.now c.args.b.now c.in-Times.parts ∙ ap (λ ps. joined_membership in_product true (map (λ p. (signed p.0 p.1, member_expr g.F.ExactField.value g.F.ExactField.limit c.args.store.now c.args.b.now p.2)) ps)) (sym c.deref-in-Times.ensures.value)) c.in_product.ensures

pub membership-returns-in_err-all_hold-in-Guard : goal.membership-returns-in_err-all_hold-in-Guard
membership-returns-in_err-all_hold-in-Guard g t c =
    handed_on g.F.ExactField.value (λ holds. holds) c.from_residual-in_err-all_hold-in-Guard.result c.in_err-all_hold-in-Guard.field-0.0 _ c.from_residual-in_err-all_hold-in-Guard.ensures.1 (stops-same g.F.ExactField.value c.in_err-all_hold-in-Guard.field-0.0 (member_expr g.F.ExactField.value g.F.ExactField.limit c.args.store.now c.args.b.now c.args.e.now) _ (ap (member_expr g.F.ExactField.value g.F.ExactField.limit c.args.store.now c.args.b.now) c.in-Guard.is ∙ member-Guard g.F.ExactField.value g.F.ExactField.limit c.args.store.now c.args.b.now c.in-Guard.operand c.in-Guard.guards ∙ ap (λ guards. each_holds (map (of_expr g.F.ExactField.value g.F.ExactField.limit c.args.store.now c.args.b.now) guards) and_then (λ hold. if hold then member_expr g.F.ExactField.value g.F.ExactField.limit c.args.store.now c.args.b.now c.in-Guard.operand.value else Ok false)) (sym c.deref-in-Guard.ensures.value)) (stops-then g.F.ExactField.value c.in_err-all_hold-in-Guard.field-0.0 (each_holds (map (of_expr g.F.ExactField.value g.F.ExactField.limit c.args.store.now c.args.b.now) c.deref-in-Guard.result.now)) (λ hold. if hold then member_expr g.F.ExactField.value g.F.ExactField.limit c.args.store.now c.args.b.now c.in-Guard.operand.value else Ok false) c.in_err-all_hold-in-Guard.ensures))

pub membership-returns-then-branch : goal.membership-returns-then-branch
membership-returns-then-branch g t c =
    gives-same g.F.ExactField.value (λ holds. holds) c.membership-then-branch.result (member_expr g.F.ExactField.value g.F.ExactField.limit c.args.store.now c.args.b.now c.args.e.now) _ (ap (member_expr g.F.ExactField.value g.F.ExactField.limit c.args.store.now c.args.b.now) c.in-Guard.is ∙ member-Guard g.F.ExactField.value g.F.ExactField.limit c.args.store.now c.args.b.now c.in-Guard.operand c.in-Guard.guards ∙ ap (λ guards. each_holds (map (of_expr g.F.ExactField.value g.F.ExactField.limit c.args.store.now c.args.b.now) guards) and_then (λ hold. if hold then member_expr g.F.ExactField.value g.F.ExactField.limit c.args.store.now c.args.b.now c.in-Guard.operand.value else Ok false)) (sym c.deref-in-Guard.ensures.value) ∙ guarded-so (each_holds (map (of_expr g.F.ExactField.value g.F.ExactField.limit c.args.store.now c.args.b.now) c.deref-in-Guard.result.now)) c.in_ok-all_hold-in-Guard.field-0 (member_expr g.F.ExactField.value g.F.ExactField.limit c.args.store.now c.args.b.now c.in-Guard.operand.value) c.in_ok-all_hold-in-Guard.ensures c.if-branch.true ∙ ap (member_expr g.F.ExactField.value g.F.ExactField.limit c.args.store.now c.args.b.now) (sym c.deref-then-branch.ensures)) c.membership-then-branch.ensures

pub membership-returns-else-branch : goal.membership-returns-else-branch
membership-returns-else-branch g t c =
    ap (member_expr g.F.ExactField.value g.F.ExactField.limit c.args.store.now c.args.b.now) c.in-Guard.is ∙ member-Guard g.F.ExactField.value g.F.ExactField.limit c.args.store.now c.args.b.now c.in-Guard.operand c.in-Guard.guards ∙ ap (λ guards. each_holds (map (of_expr g.F.ExactField.value g.F.ExactField.limit c.args.store.now c.args.b.now) guards) and_then (λ hold. if hold then member_expr g.F.ExactField.value g.F.ExactField.limit c.args.store.now c.args.b.now c.in-Guard.operand.value else Ok false)) (sym c.deref-in-Guard.ensures.value) ∙ guarded-not (each_holds (map (of_expr g.F.ExactField.value g.F.ExactField.limit c.args.store.now c.args.b.now) c.deref-in-Guard.result.now)) c.in_ok-all_hold-in-Guard.field-0 (member_expr g.F.ExactField.value g.F.ExactField.limit c.args.store.now c.args.b.now c.in-Guard.operand.value) c.in_ok-all_hold-in-Guard.ensures c.if-branch.false

pub membership-returns-in_default : goal.membership-returns-in_default
membership-returns-in_default g t c =
    gives-same g.F.ExactField.value (λ holds. holds) c.holds.result (member_expr g.F.ExactField.value g.F.ExactField.limit c.args.store.now c.args.b.now c.args.e.now) _ (member-other g.F.ExactField.value g.F.ExactField.limit c.args.store.now c.args.b.now c.args.e.now c.in_default.not-Yes c.in_default.not-No c.in_default.not-Neg c.in_default.not-Plus c.in_default.not-Times c.in_default.not-Not c.in_default.not-Guard) c.holds.ensures
