use Rattle.std.proofs.Common.{◌≡◌, true, false, pos, sym, subst, arith}
use Rattle.gq_number.specs.Number.{whole}
use Rattle.gq_number.specs.Order.{◌<ℚ◌}
use Rattle.lp_integer_rows.specs.Form.{AreSameLines}
use Rattle.lp_integer_dict.specs.WithinBound.{AreExchangedWithin, MadeRowsExceed, ExchangeExceeds}
use Rattle.lp_integer_dict.proofs.Sameness.{same_are, same_numbers}
use Rattle.lp_integer_dict.proofs.Arriving.{same_turned}
use Rattle.lp_integer_rows.proofs.Results.{if_ok, if_both}
use Rattle.lp_integer_dict.proofs.step.turn_lines.Goals as goal

pub returns-then-planned-clause-turned : goal.returns-then-planned-clause-turned
returns-then-planned-clause-turned c = λ _. c.in_ok-planned.ensures.turned c.if-planned.true

pub turn_apart-requires-clause-lines : goal.turn_apart-requires-clause-lines
turn_apart-requires-clause-lines c =
    (c.requires.lines.0, same_are c.args.lines.now.items c.turn_planned.new.lines.items (c.in_ok-planned.ensures.same c.if-planned.false) c.requires.lines.0 c.requires.lines.1, c.requires.lines.2, c.requires.lines.3)

pub turn_apart-requires-clause-within : goal.turn_apart-requires-clause-within
turn_apart-requires-clause-within c =
    let sized = (c.in_ok-planned.ensures.same c.if-planned.false).sized in
    let first = c.requires.within.0 in
    let second = c.requires.within.1 in
    (omega arith, omega arith)

pub turn_apart-requires-clause-above : goal.turn_apart-requires-clause-above
turn_apart-requires-clause-above c =
    subst (λ x. whole (pos 0) <ℚ x) (sym (same_numbers c.args.lines.now.items c.turn_planned.new.lines.items (c.in_ok-planned.ensures.same c.if-planned.false) c.args.place c.args.column)) c.requires.above

pub returns-clause-turned : goal.returns-clause-turned
returns-clause-turned c =
    if_ok (λ done. done ≡ true → AreExchangedWithin c.args.bound c.args.column c.args.place c.args.leaving c.turn_planned.new.lines.items c.turn_apart.new.lines.items) (λ done. done ≡ true → AreExchangedWithin c.args.bound c.args.column c.args.place c.args.leaving c.args.lines.now.items c.turn_apart.new.lines.items) c.turn_apart.result
    (λ _ turned yes. same_turned c.args.bound c.args.column c.args.place c.args.leaving c.args.lines.now.items c.turn_planned.new.lines.items c.turn_apart.new.lines.items (c.in_ok-planned.ensures.same c.if-planned.false) (turned yes)) c.turn_apart.ensures.turned

pub returns-clause-same : goal.returns-clause-same
returns-clause-same c =
    if_ok (λ done. done ≡ false → c.turn_apart.new.lines.items ≡ c.turn_planned.new.lines.items) (λ done. done ≡ false → AreSameLines c.args.lines.now.items c.turn_apart.new.lines.items) c.turn_apart.result
    (λ _ same no. subst (AreSameLines c.args.lines.now.items) (sym (same no)) (c.in_ok-planned.ensures.same c.if-planned.false)) c.turn_apart.ensures.same

pub returns-clause-none : goal.returns-clause-none
returns-clause-none c =
    if_both (λ done. done ≡ false → c.turn_apart.new.lines.items ≡ c.turn_planned.new.lines.items) (λ done. done ≡ false → MadeRowsExceed c.args.bound c.args.column c.args.place c.args.leaving c.turn_planned.new.lines.items) (λ done. done ≡ false → ExchangeExceeds c.args.bound c.args.column c.args.place c.args.leaving c.turn_apart.new.lines.items) c.turn_apart.result
    (λ _ same none no. subst (ExchangeExceeds c.args.bound c.args.column c.args.place c.args.leaving) (sym (same no)) (record { factors = c.in_ok-planned.ensures.none c.if-planned.false; made = none no })) c.turn_apart.ensures.same c.turn_apart.ensures.none
