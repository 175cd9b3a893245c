-- If all magnitudes are small the numbers are narrowed.
use Rattle.std.proofs.Common.{◌≤◌, ◌<◌, ◌-◌, ◌^◌, ℕ, nat_abs, refl, sym, ◌∙◌, subst, le_trans, arith}
use Rattle.std.proofs.lemmas.Result.{IfOk-from_err}
use Rattle.lp_integers.specs.Lines.{whole_at}
use Rattle.lp_integers.proofs.numbers.kept_of.Goals as goal

below_next : (n : ℕ) → n < 2 ^ 63 → n ≤ 2 ^ 63 - 1
below_next n h = omega arith

pub returns-then-greatest-ge-HALF : goal.returns-then-greatest-ge-HALF
returns-then-greatest-ge-HALF c = (refl, tt)

pub narrowed-requires : goal.narrowed-requires
narrowed-requires c = λ k.
    subst (λ l. nat_abs (whole_at l k) ≤ 2 ^ 63 - 1) (c.as_slice.ensures.value ∙ sym c.as_slice-2.ensures.value)
    (le_trans (c.greatest.ensures.within k) (below_next c.greatest.result c.if-greatest-ge-HALF.false))

pub returns-in_err-list : goal.returns-in_err-list
returns-in_err-list c = IfOk-from_err c.from_residual.result _ c.from_residual.ensures.0

pub returns : goal.returns
returns c = (
  c.in_ok-list.ensures ∙ c.as_slice-2.ensures.value,
  λ k. subst (λ l. nat_abs (whole_at l k) ≤ 2 ^ 63 - 1) (c.as_slice.ensures.value ∙ sym c.as_slice-2.ensures.value ∙ sym c.in_ok-list.ensures)
      (le_trans (c.greatest.ensures.within k) (below_next c.greatest.result c.if-greatest-ge-HALF.false)),
)
