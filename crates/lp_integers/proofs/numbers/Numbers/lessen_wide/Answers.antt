use Rattle.std.proofs.Common.{◌≡◌, ◌-◌, ◌^◌, length, sym, ap, ◌∙◌, subst₂}
use Rattle.std.specs.Int.{w128}
use Rattle.std.proofs.lemmas.Int.{to_z-of_z}
use Rattle.std.proofs.lemmas.List.{with_items_is}
use Rattle.std.proofs.lemmas.Result.{IfOk-from_err}
use Rattle.lp_integers.specs.Lines.{CombinationsStayWithin}
use Rattle.lp_integers.proofs.Lines.{same_lessened}
use Rattle.lp_integers.proofs.numbers.Numbers.lessen_wide.Goals as goal

pub returns : goal.returns
returns c =
    let sized : length c.lessen-most.new.numbers ≡ c.in_ok-own.own.len = c.lessen-most.ensures.sized ∙ c.as_mut_slice.ensures.len in
    same_lessened (to_z-of_z w128 c.args.a c.ranges.a) (to_z-of_z w128 c.args.b c.ranges.b) (c.as_mut_slice.ensures.value ∙ c.in_ok-own.ensures) (c.as_slice.ensures.value ∙ c.in_ok-other.ensures)
    (sym (with_items_is c.in_ok-own.own c.lessen-most.new.numbers sized) ∙ sym c.in_ok-self-inside.ensures.0) c.lessen-most.ensures

pub returns-in_err-own : goal.returns-in_err-own
returns-in_err-own c = IfOk-from_err c.from_residual.result _ c.from_residual.ensures.0

pub returns-in_err-other : goal.returns-in_err-other
returns-in_err-other c = IfOk-from_err c.from_residual-in_err-other.result _ c.from_residual-in_err-other.ensures.0

pub lessen-most-requires-clause-sized : goal.lessen-most-requires-clause-sized
lessen-most-requires-clause-sized c =
    ap length (c.as_slice.ensures.value ∙ c.in_ok-other.ensures) ∙ c.requires.sized ∙ sym (ap length (c.as_mut_slice.ensures.value ∙ c.in_ok-own.ensures))

pub lessen-most-requires-clause-within_bound : goal.lessen-most-requires-clause-within_bound
lessen-most-requires-clause-within_bound c =
    subst₂ (λ a b. CombinationsStayWithin (2 ^ 127 - 1) a b c.as_mut_slice.result.now c.as_slice.result.now) (sym (to_z-of_z w128 c.args.a c.ranges.a))
    (sym (to_z-of_z w128 c.args.b c.ranges.b))
    (subst₂ (CombinationsStayWithin (2 ^ 127 - 1) c.args.a c.args.b) (sym (c.as_mut_slice.ensures.value ∙ c.in_ok-own.ensures))
    (sym (c.as_slice.ensures.value ∙ c.in_ok-other.ensures)) c.requires.within_bound)

pub returns-in_err-self-inside : goal.returns-in_err-self-inside
returns-in_err-self-inside c = IfOk-from_err c.from_residual-in_err-self-inside.result _ c.from_residual-in_err-self-inside.ensures.0

pub invariant_of-self : goal.invariant_of-self
invariant_of-self c = c.in_ok-self-inside.ensures.1
