-- Where the bounds are below 2^63 the factors are the same in one word.
use Rattle.std.proofs.Common.{◌≡◌, ◌-◌, ◌<◌, ◌≤◌, ◌^◌, ℕ, length, w64, Option, None, refl, sym, ap, ◌∙◌, subst, subst₂, le_trans, arith}
use Rattle.std.specs.Prelude.{MatchOption}
use Rattle.std.specs.Int.{w128}
use Rattle.lp_integers.specs.Lines.{CombinationsStayWithin, AreLessened}
use Rattle.lp_integers.proofs.Lines.{stored, small_fits, small_again, same_lessened}
use Rattle.std.proofs.lemmas.Int.{to_z-of_z}
use Rattle.std.proofs.lemmas.Result.{IfOk-from_err, IfOk-weaker}
use Rattle.lp_integers.proofs.numbers.Numbers.lessen.Goals as goal
use Rattle.lp_integers.proofs.numbers.Numbers.lessen.Goals.{then-within_bound-lt-HALF+then-unsigned_abs-lt-HALF+then-unsigned_abs-lt-HALF-2+in_ok-most+in_default, else-within_bound-lt-HALF}

at_none : (P : Type 0) (Q : ℕ → Type 0) (o : Option ℕ) → o ≡ None → MatchOption o P Q → P
at_none P Q o none h = subst (λ r. MatchOption r P Q) none h

below_next : (n : ℕ) → n < 2 ^ 127 → n ≤ 2 ^ 127 - 1
below_next n h = omega arith

pub overflow_cast-a : goal.overflow_cast-a
overflow_cast-a c = small_fits c.args.a c.unsigned_abs.result c.ranges.a c.unsigned_abs.ensures.value c.if-unsigned_abs-lt-HALF.true

pub overflow_cast-b : goal.overflow_cast-b
overflow_cast-b c =
    small_fits c.args.b c.unsigned_abs-then-unsigned_abs-lt-HALF.result c.ranges.b c.unsigned_abs-then-unsigned_abs-lt-HALF.ensures.value c.if-unsigned_abs-lt-HALF-2.true

pub lessen_words-requires-clause-within_bound : goal.lessen_words-requires-clause-within_bound
lessen_words-requires-clause-within_bound c =
    let a_is = small_again c.args.a c.unsigned_abs.result c.ranges.a c.unsigned_abs.ensures.value c.if-unsigned_abs-lt-HALF.true in
    let b_is = small_again c.args.b c.unsigned_abs-then-unsigned_abs-lt-HALF.result c.ranges.b c.unsigned_abs-then-unsigned_abs-lt-HALF.ensures.value c.if-unsigned_abs-lt-HALF-2.true in
    let small : c.args.within_bound ≤ 2 ^ 63 - 1 = omega arith in
    subst₂ (λ a b. CombinationsStayWithin (2 ^ 63 - 1) a b c.args.self.now c.args.others.now) (sym a_is) (sym b_is) (λ k. le_trans (c.requires.within_bound k) small)

pub returns-in-Some : goal.returns-in-Some
returns-in-Some c =
    let a_is = small_again c.args.a c.unsigned_abs.result c.ranges.a c.unsigned_abs.ensures.value c.if-unsigned_abs-lt-HALF.true in
    let b_is = small_again c.args.b c.unsigned_abs-then-unsigned_abs-lt-HALF.result c.ranges.b c.unsigned_abs-then-unsigned_abs-lt-HALF.ensures.value c.if-unsigned_abs-lt-HALF-2.true in
    let a = stored w64 (stored w128 c.args.a) in
    let b = stored w64 (stored w128 c.args.b) in
    let lessened : AreLessened a b c.args.self.now c.args.others.now c.lessen_words.new.self c.in-Some.most =
    subst (λ o. MatchOption o (c.lessen_words.new.self ≡ c.args.self.now) (AreLessened a b c.args.self.now c.args.others.now c.lessen_words.new.self)) c.in-Some.is c.in_ok-most.ensures in
    same_lessened a_is b_is refl refl refl lessened

pub lessen_words-requires-clause-sized : goal.lessen_words-requires-clause-sized
lessen_words-requires-clause-sized c = c.requires.sized

pub returns-in_err-most : goal.returns-in_err-most
returns-in_err-most c = IfOk-from_err c.from_residual.result _ c.from_residual.ensures.0

pub lessen_wide-requires-clause-sized : goal.lessen_wide-requires-clause-sized
lessen_wide-requires-clause-sized c =
    let same : c.if-within_bound-lt-HALF.self ≡ c.args.self.now = elim c.if-within_bound-lt-HALF.branch [
      | then-within_bound-lt-HALF+then-unsigned_abs-lt-HALF+then-unsigned_abs-lt-HALF-2+in_ok-most+in_default w ↦
          w.self-is ∙ at_none _ _ w.in_ok-most.field-0 w.in_default.is w.in_ok-most.ensures
      | else-within_bound-lt-HALF w ↦ w.self-is
    ] in
    c.requires.sized ∙ sym (ap length same)

pub lessen_wide-requires-clause-within_bound : goal.lessen_wide-requires-clause-within_bound
lessen_wide-requires-clause-within_bound c =
    let same : c.if-within_bound-lt-HALF.self ≡ c.args.self.now = elim c.if-within_bound-lt-HALF.branch [
      | then-within_bound-lt-HALF+then-unsigned_abs-lt-HALF+then-unsigned_abs-lt-HALF-2+in_ok-most+in_default w ↦
          w.self-is ∙ at_none _ _ w.in_ok-most.field-0 w.in_default.is w.in_ok-most.ensures
      | else-within_bound-lt-HALF w ↦ w.self-is
    ] in
    let small : c.args.within_bound ≤ 2 ^ 127 - 1 = below_next c.args.within_bound c.requires.small in
    subst₂ (λ a b. CombinationsStayWithin (2 ^ 127 - 1) a b c.if-within_bound-lt-HALF.self c.args.others.now) (sym (to_z-of_z w128 c.args.a c.ranges.a))
    (sym (to_z-of_z w128 c.args.b c.ranges.b))
    (subst (λ l. CombinationsStayWithin (2 ^ 127 - 1) c.args.a c.args.b l c.args.others.now) (sym same) (λ k. le_trans (c.requires.within_bound k) small))

pub returns : goal.returns
returns c =
    let same : c.if-within_bound-lt-HALF.self ≡ c.args.self.now = elim c.if-within_bound-lt-HALF.branch [
      | then-within_bound-lt-HALF+then-unsigned_abs-lt-HALF+then-unsigned_abs-lt-HALF-2+in_ok-most+in_default w ↦
          w.self-is ∙ at_none _ _ w.in_ok-most.field-0 w.in_default.is w.in_ok-most.ensures
      | else-within_bound-lt-HALF w ↦ w.self-is
    ] in
    IfOk-weaker c.lessen_wide.result
    (AreLessened (stored w128 c.args.a) (stored w128 c.args.b) c.if-within_bound-lt-HALF.self c.args.others.now c.lessen_wide.new.self)
    (AreLessened c.args.a c.args.b c.args.self.now c.args.others.now c.lessen_wide.new.self)
    (λ most h. same_lessened (to_z-of_z w128 c.args.a c.ranges.a) (to_z-of_z w128 c.args.b c.ranges.b) same refl refl h) c.lessen_wide.ensures
