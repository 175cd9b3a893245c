use Rattle.std.proofs.Common.{pos, sym, subst}
use Rattle.std.specs.Prelude.{IfOk, MatchOption}
use Rattle.gq_number.specs.Number.{whole}
use Rattle.gq_number.specs.Order.{◌<ℚ◌}
use Rattle.lp_integer_rows.specs.Form.{AreLines, AreBounded, AreSameLines, lines_number}
use Rattle.lp_integer_dict.specs.WithinBound.{IsRoomyPlan, FactorsExceed}
use Rattle.lp_integer_dict.proofs.Sameness.{same_are, same_bounded, same_lines, same_numbers}
use Rattle.lp_integer_rows.proofs.Results.{ok_anyway}
use Rattle.lp_integer_dict.proofs.step.plan_exchange.Goals as goal

pub plan_once-requires-2-clause-lines : goal.plan_once-requires-2-clause-lines
plan_once-requires-2-clause-lines c =
    (c.requires.lines.0, subst (AreLines c.requires.lines.0) (sym c.as_slice-2.ensures.value) (same_are c.args.lines.now.items c.reduce_lines.new.lines.items c.in_ok-reduce_lines.ensures c.requires.lines.0 c.requires.lines.1), c.requires.lines.2, c.requires.lines.3)

pub plan_once-requires-2-clause-bounded : goal.plan_once-requires-2-clause-bounded
plan_once-requires-2-clause-bounded c =
    subst (AreBounded c.args.bound) (sym c.as_slice-2.ensures.value) (same_bounded c.args.lines.now.items c.reduce_lines.new.lines.items c.in_ok-reduce_lines.ensures c.args.bound c.requires.bounded)

pub plan_once-requires-2-clause-above : goal.plan_once-requires-2-clause-above
plan_once-requires-2-clause-above c =
    subst (λ ls. whole (pos 0) <ℚ lines_number ls c.args.place c.args.column) (sym c.as_slice-2.ensures.value) (subst (λ x. whole (pos 0) <ℚ x) (sym (same_numbers c.args.lines.now.items c.reduce_lines.new.lines.items c.in_ok-reduce_lines.ensures c.args.place c.args.column)) c.requires.above)

pub returns-clause-same : goal.returns-clause-same
returns-clause-same c = ok_anyway (AreSameLines c.args.lines.now.items c.reduce_lines.new.lines.items) c.plan_once-2.result c.in_ok-reduce_lines.ensures

pub returns-clause-planned : goal.returns-clause-planned
returns-clause-planned c =
    subst (λ ls. IfOk c.plan_once-2.result (λ o. MatchOption o (FactorsExceed c.args.bound c.args.column c.args.place c.args.leaving ls) (λ plans. IsRoomyPlan c.args.bound c.args.column c.args.place c.args.leaving ls plans.items))) c.as_slice-2.ensures.value c.plan_once-2.ensures

pub plan_once-requires-clause-lines : goal.plan_once-requires-clause-lines
plan_once-requires-clause-lines c =
    (c.requires.lines.0, subst (AreLines c.requires.lines.0) (sym c.as_slice.ensures.value) c.requires.lines.1, c.requires.lines.2, c.requires.lines.3)

pub returns-then-is_some-clause-same : goal.returns-then-is_some-clause-same
returns-then-is_some-clause-same c = same_lines c.requires.lines.0 c.args.lines.now.items c.requires.lines.1
