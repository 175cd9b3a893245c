-- If all magnitudes are small the numbers are narrowed.
use Rattle.std.proofs.Common.{◌<◌, ◌≤◌, ◌-◌, ◌^◌, ℕ, refl, sym, ◌∙◌, subst, le_trans, arith}
use Rattle.std.proofs.lemmas.Result.{IfOk-from_err}
use Rattle.lp_integers.specs.Lines.{AreWithin}
use Rattle.lp_integers.proofs.numbers.Numbers.of.Goals as goal

below_next : (n : ℕ) → n < 2 ^ 63 → n ≤ 2 ^ 63 - 1
below_next n h = omega arith

pub returns-then-most-ge-HALF : goal.returns-then-most-ge-HALF
returns-then-most-ge-HALF c = refl

pub narrowed-requires : goal.narrowed-requires
narrowed-requires c =
    subst (λ l. AreWithin l (2 ^ 63 - 1)) (sym c.as_slice.ensures.value) (λ k. le_trans (c.requires k) (below_next c.args.most c.if-most-ge-HALF.false))

pub returns-in_err-list : goal.returns-in_err-list
returns-in_err-list c = IfOk-from_err c.from_residual.result _ c.from_residual.ensures.0

pub invariant_of-result-2 : goal.invariant_of-result-2
invariant_of-result-2 c =
    subst (λ l. AreWithin l (2 ^ 63 - 1)) (sym (c.in_ok-list.ensures ∙ c.as_slice.ensures.value))
    (λ k. le_trans (c.requires k) (below_next c.args.most c.if-most-ge-HALF.false))

pub returns : goal.returns
returns c = c.in_ok-list.ensures ∙ c.as_slice.ensures.value
