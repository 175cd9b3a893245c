use Rattle.std.proofs.Common.{pos, sym, subst}
use Rattle.std.specs.Prelude.{MatchOption}
use Rattle.gq_number.specs.Number.{whole}
use Rattle.gq_number.specs.Order.{◌<ℚ◌}
use Rattle.lp_integer_rows.specs.Form.{AreLines, lines_number}
use Rattle.lp_integer_dict.specs.WithinBound.{AreExchangedWithin, MadeRowsExceed}
use Rattle.lp_integer_dict.proofs.apart.turn_apart.Goals as goal

pub made_apart-requires-clause-lines : goal.made_apart-requires-clause-lines
made_apart-requires-clause-lines c =
    (c.requires.lines.0, subst (AreLines c.requires.lines.0) (sym c.as_slice.ensures.value) c.requires.lines.1, c.requires.lines.2, c.requires.lines.3)

pub made_apart-requires-clause-above : goal.made_apart-requires-clause-above
made_apart-requires-clause-above c =
    subst (λ ls. whole (pos 0) <ℚ lines_number ls c.args.place c.args.column) (sym c.as_slice.ensures.value) c.requires.above

pub returns-clause-turned : goal.returns-clause-turned
returns-clause-turned c = λ yes.
    subst (λ ls. AreExchangedWithin c.args.bound c.args.column c.args.place c.args.leaving ls c.in-Some.made.items) c.as_slice.ensures.value
    (subst (λ o. MatchOption o (MadeRowsExceed c.args.bound c.args.column c.args.place c.args.leaving c.as_slice.result.now) (λ made. AreExchangedWithin c.args.bound c.args.column c.args.place c.args.leaving c.as_slice.result.now made.items)) c.in-Some.is c.in_ok-made.ensures)

pub returns-in_default-clause-none : goal.returns-in_default-clause-none
returns-in_default-clause-none c = λ _.
    subst (MadeRowsExceed c.args.bound c.args.column c.args.place c.args.leaving) c.as_slice.ensures.value
    (subst (λ o. MatchOption o (MadeRowsExceed c.args.bound c.args.column c.args.place c.args.leaving c.as_slice.result.now) (λ made. AreExchangedWithin c.args.bound c.args.column c.args.place c.args.leaving c.as_slice.result.now made.items)) c.in_default.is c.in_ok-made.ensures)
