use Rattle.std.proofs.Common.{◌-◌, ◌^◌, length, ap, ◌∙◌, subst}
use Rattle.std.specs.Prelude.{IfSome, MatchOption}
use Rattle.lp_integers.specs.Lines.{AreWithin}
use Rattle.lp_integer_rows.specs.Parts.{AreFilled, IsSomePast}
use Rattle.lp_integer_rows.proofs.Filling.{parts_are, no_multiple_no_line, past_no_line}
use Rattle.lp_integer_rows.proofs.parts.line_of_parts.Goals as goal

pub common_multiple-requires : goal.common_multiple-requires
common_multiple-requires c = λ i p at. (c.requires.there i p at).1

pub new-requires-clause-numbers_small : goal.new-requires-clause-numbers_small
new-requires-clause-numbers_small c = (subst (λ o. MatchOption o (IsSomePast c.args.parts.now c.in-Some.multiple) (λ numbers. AreFilled c.args.parts.now c.in-Some.multiple c.args.width (length c.args.parts.now) numbers.items)) c.in-Some-filled.is c.in_ok-filled.ensures).small

pub returns-clause-line : goal.returns-clause-line
returns-clause-line c = (c.in_ok-line.ensures.line, ap length c.in_ok-line.ensures.numbers ∙ (subst (λ o. MatchOption o (IsSomePast c.args.parts.now c.in-Some.multiple) (λ numbers. AreFilled c.args.parts.now c.in-Some.multiple c.args.width (length c.args.parts.now) numbers.items)) c.in-Some-filled.is c.in_ok-filled.ensures).sized)

pub returns-clause-numbers : goal.returns-clause-numbers
returns-clause-numbers c = parts_are c.args.parts.now c.in-Some.multiple c.args.width c.in_ok-line.line c.in-Some-filled.numbers.items (subst (λ o. MatchOption o (IsSomePast c.args.parts.now c.in-Some.multiple) (λ numbers. AreFilled c.args.parts.now c.in-Some.multiple c.args.width (length c.args.parts.now) numbers.items)) c.in-Some-filled.is c.in_ok-filled.ensures) c.in_ok-line.ensures.numbers c.in_ok-line.ensures.denominator

pub returns-in_default-clause-none : goal.returns-in_default-clause-none
returns-in_default-clause-none c = no_multiple_no_line c.args.parts.now c.in_default.ensures

pub returns-in_default-filled-clause-none : goal.returns-in_default-filled-clause-none
returns-in_default-filled-clause-none c =
    past_no_line c.args.parts.now c.args.width c.in-Some.multiple c.requires.there c.in-Some.ensures
    (subst (λ o. MatchOption o (IsSomePast c.args.parts.now c.in-Some.multiple) (λ numbers. AreFilled c.args.parts.now c.in-Some.multiple c.args.width (length c.args.parts.now) numbers.items)) c.in_default-filled.is c.in_ok-filled.ensures)

pub returns-in-Some-2-clause-numbers : goal.returns-in-Some-2-clause-numbers
returns-in-Some-2-clause-numbers c =
    parts_are c.args.parts.now c.in-Some.multiple c.args.width c.in_ok-made.made c.in-Some-2.words.items (subst (λ o. IfSome o (λ words. AreFilled c.args.parts.now c.in-Some.multiple c.args.width (length c.args.parts.now) words.items × AreWithin words.items (2 ^ 63 - 1))) c.in-Some-2.is c.in_ok-words.ensures).0 c.in_ok-made.ensures.numbers c.in_ok-made.ensures.denominator

pub of_words-requires-clause-marked : goal.of_words-requires-clause-marked
of_words-requires-clause-marked c = λ k clear.
    (subst (λ o. IfSome o (λ words. AreFilled c.args.parts.now c.in-Some.multiple c.args.width (length c.args.parts.now) words.items × AreWithin words.items (2 ^ 63 - 1))) c.in-Some-2.is c.in_ok-words.ensures).0.elsewhere k (λ i p less at. c.marks_of-marks.ensures k i p clear at)
