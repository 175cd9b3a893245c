use Rattle.std.proofs.Common.{◌<◌, length, sym, subst, arith}
use Rattle.std.specs.Prelude.{MatchOption}
use Rattle.lp_integer_rows.specs.Form.{IsPlan, AreTurned}
use Rattle.lp_integer_dict.specs.WithinBound.{IsRoomyPlan, FactorsExceed}
use Rattle.lp_integer_dict.proofs.Sameness.{same_are, same_bounded}
use Rattle.lp_integer_dict.proofs.Arriving.{turned_by_plan, same_turned}
use Rattle.lp_integer_dict.proofs.step.turn_planned.Goals as goal

pub exchange_lines-requires-clause-lines : goal.exchange_lines-requires-clause-lines
exchange_lines-requires-clause-lines c =
    (c.requires.lines.0, same_are c.args.lines.now.items c.plan_exchange.new.lines.items c.in_ok-plans.ensures.same c.requires.lines.0 c.requires.lines.1, c.requires.lines.3)

pub exchange_lines-requires-clause-planned : goal.exchange_lines-requires-clause-planned
exchange_lines-requires-clause-planned c =
    let roomy : IsRoomyPlan c.args.bound c.args.column c.args.place c.args.leaving c.plan_exchange.new.lines.items c.in-Some.plans.items =
    subst (λ o. MatchOption o (FactorsExceed c.args.bound c.args.column c.args.place c.args.leaving c.plan_exchange.new.lines.items) (λ plans. IsRoomyPlan c.args.bound c.args.column c.args.place c.args.leaving c.plan_exchange.new.lines.items plans.items)) c.in-Some.is c.in_ok-plans.ensures.planned in
    (c.args.bound, λ l at. subst (IsPlan c.args.bound c.args.column c.args.place c.plan_exchange.new.lines.items l) (sym c.as_slice.ensures.value) (roomy.planned l at))

pub returns-clause-turned : goal.returns-clause-turned
returns-clause-turned c = λ yes.
    let roomy : IsRoomyPlan c.args.bound c.args.column c.args.place c.args.leaving c.plan_exchange.new.lines.items c.in-Some.plans.items =
    subst (λ o. MatchOption o (FactorsExceed c.args.bound c.args.column c.args.place c.args.leaving c.plan_exchange.new.lines.items) (λ plans. IsRoomyPlan c.args.bound c.args.column c.args.place c.args.leaving c.plan_exchange.new.lines.items plans.items)) c.in-Some.is c.in_ok-plans.ensures.planned in
    let bounded = same_bounded c.args.lines.now.items c.plan_exchange.new.lines.items c.in_ok-plans.ensures.same c.args.bound c.requires.bounded in
    let within : c.args.place < length c.plan_exchange.new.lines.items = let e = c.in_ok-plans.ensures.same.sized in let less = c.requires.within.0 in omega arith in
    same_turned c.args.bound c.args.column c.args.place c.args.leaving c.args.lines.now.items c.plan_exchange.new.lines.items c.exchange_lines.new.lines.items c.in_ok-plans.ensures.same
    (turned_by_plan c.args.bound c.args.column c.args.place c.args.leaving c.plan_exchange.new.lines.items c.exchange_lines.new.lines.items c.in-Some.plans.items within bounded roomy
    (subst (λ ps. AreTurned c.args.column c.args.place ps c.plan_exchange.new.lines.items c.exchange_lines.new.lines.items) c.as_slice.ensures.value c.in_ok-exchange_lines.ensures))

pub returns-in_default-clause-none : goal.returns-in_default-clause-none
returns-in_default-clause-none c = λ _.
    subst (λ o. MatchOption o (FactorsExceed c.args.bound c.args.column c.args.place c.args.leaving c.plan_exchange.new.lines.items) (λ plans. IsRoomyPlan c.args.bound c.args.column c.args.place c.args.leaving c.plan_exchange.new.lines.items plans.items)) c.in_default.is c.in_ok-plans.ensures.planned
