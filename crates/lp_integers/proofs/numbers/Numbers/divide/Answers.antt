use Rattle.std.proofs.Common.{◌≡◌, ℕ, nat_abs, length, sym, ◌∙◌, subst, subst₂}
use Rattle.std.specs.Int.{◌∣◌}
use Rattle.lp_integers.specs.Lines.{whole_at, AreOver}
use Rattle.std.proofs.lemmas.List.{with_items_is}
use Rattle.std.proofs.lemmas.Result.{IfOk-from_err}
use Rattle.lp_integers.proofs.numbers.Numbers.divide.Goals as goal
use Rattle.lp_integers.proofs.numbers.Numbers.divide.Goals.{else-divisor-lt-HALF-via-then-divisor-lt-HALF+else-divide_narrow, else-divisor-lt-HALF-via-else-divisor-lt-HALF}

pub divide-requires-clause-divides : goal.divide-requires-clause-divides
divide-requires-clause-divides c =
    let same : c.else-divisor-lt-HALF.self ≡ c.args.self.now = elim c.else-divisor-lt-HALF.branch [
      | else-divisor-lt-HALF-via-then-divisor-lt-HALF+else-divide_narrow w ↦ w.self-is ∙ w.divide_narrow.ensures.same w.if-divide_narrow.false
      | else-divisor-lt-HALF-via-else-divisor-lt-HALF w ↦ w.self-is
    ] in
    subst (λ l. (k : ℕ) → c.args.divisor ∣ nat_abs (whole_at l k)) (sym same ∙ sym c.in_ok-own.ensures ∙ sym c.as_mut_slice.ensures.value) c.requires.divides

pub divide_narrow-requires-clause-divides : goal.divide_narrow-requires-clause-divides
divide_narrow-requires-clause-divides c = c.requires.divides

pub returns-then-divide_narrow : goal.returns-then-divide_narrow
returns-then-divide_narrow c = c.divide_narrow.ensures.divided c.if-divide_narrow.true

pub returns-in_err-own : goal.returns-in_err-own
returns-in_err-own c = IfOk-from_err c.from_residual.result _ c.from_residual.ensures.0

pub returns-in_err-self-inside : goal.returns-in_err-self-inside
returns-in_err-self-inside c = IfOk-from_err c.from_residual-in_err-self-inside.result _ c.from_residual-in_err-self-inside.ensures.0

pub invariant_of-self : goal.invariant_of-self
invariant_of-self c = c.in_ok-self-inside.ensures.1

pub returns : goal.returns
returns c =
    let same : c.else-divisor-lt-HALF.self ≡ c.args.self.now = elim c.else-divisor-lt-HALF.branch [
      | else-divisor-lt-HALF-via-then-divisor-lt-HALF+else-divide_narrow w ↦ w.self-is ∙ w.divide_narrow.ensures.same w.if-divide_narrow.false
      | else-divisor-lt-HALF-via-else-divisor-lt-HALF w ↦ w.self-is
    ] in
    let sized : length c.divide.new.numbers ≡ c.in_ok-own.own.len = c.divide.ensures.sized ∙ c.as_mut_slice.ensures.len in
    subst₂ (AreOver c.args.divisor) (c.as_mut_slice.ensures.value ∙ c.in_ok-own.ensures ∙ same)
    (sym (with_items_is c.in_ok-own.own c.divide.new.numbers sized) ∙ sym c.in_ok-self-inside.ensures.0) c.divide.ensures
