-- The remaining headings, the first of which the number may meet.
use Rattle.std.proofs.Common.{refl, sym, arith}
use Rattle.gms_table.specs.InnerShown.{seen}
use Rattle.gms_table.proofs.LabelLemmas.{nothing}
use Rattle.gms_table.proofs.HeadingLemmas.{met_none, met_after, met_two, met_one}
use Rattle.gms_table.proofs.heading.heading_of.Goals as goal

pub returns-in_default : goal.returns-in_default
returns-in_default c = λ table names are spaced.
    met_none table names (seen c.args.word) c.ending_after-left.result.now (c.ending_after-left.ensures table names (seen c.args.word) are spaced refl) (nothing c.ending_after-left.result.now (omega (arith, c.in_default.ensures.cases)))

pub returns-then-heading-word : goal.returns-then-heading-word
returns-then-heading-word c = λ table names are spaced.
    met_after table names (seen c.args.word) c.ending_after-left.result.now c.in-Some.heading.now c.in-Some.others.now (c.ending_after-left.ensures table names (seen c.args.word) are spaced refl) c.in-Some.ensures.cases.0 c.if-heading-word.true

pub returns-then-begin_before : goal.returns-then-begin_before
returns-then-begin_before c = λ table names are spaced.
    met_two table names (seen c.args.word) c.ending_after-left.result.now c.in-Some.heading.now c.in-Some.others.now (c.ending_after-left.ensures table names (seen c.args.word) are spaced refl) c.in-Some.ensures.cases.0 (sym c.if-begin_before.ensures)

pub returns-else-begin_before : goal.returns-else-begin_before
returns-else-begin_before c = λ table names are spaced.
    let one = met_one table names (seen c.args.word) c.ending_after-left.result.now c.in-Some.heading.now c.in-Some.others.now (c.ending_after-left.ensures table names (seen c.args.word) are spaced refl) c.in-Some.ensures.cases.0 c.if-heading-word.false (sym c.if-begin_before.ensures) in
    (one.found, one.one, one.is)
