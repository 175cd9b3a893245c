-- One line more was read.
use Rattle.std.proofs.Common.{◌++◌, map, sym, ap, ◌∙◌, subst, arith}
use Rattle.std.proofs.lemmas.Result.{err_from_is_err_and, MatchResult-weaker}
use Rattle.gms_table.specs.Words.{words_of}
use Rattle.gms_table.specs.InnerShown.{seen, seen_all, AreSpaced, AreHeadings}
use Rattle.gms_table.specs.TableEntries.{name}
use Rattle.gms_table.specs.InnerProgress.{words_in, row_parts}
use Rattle.gms_table.proofs.LabelLemmas.{nothing}
use Rattle.gms_table.proofs.RowSteps.{Stay-progress, line_empty, line_plus, plus_refused, line_row, line_refused}
use Rattle.gms_table.proofs.tables.read_line.Goals as goal

pub returns-in_default-clause-line : goal.returns-in_default-clause-line
returns-in_default-clause-line g c = λ labels before begun all rest so_far.
    let w = c.in_ok-words.ensures.words ∙ ap (words_of c.args.line.now.line) c.as_bytes.ensures.value in
    line_empty g.F.ExactField.limit g.F.ExactField.value labels before begun all _ rest c.args.table.now c.args.entries.now c.args.headings.now.items (sym w ∙ ap seen_all (sym c.as_slice.ensures.value ∙ nothing c.as_slice.result.now (omega (arith, c.in_default.ensures.cases)))) so_far

pub returns-in_err-headings-clause-line : goal.returns-in_err-headings-clause-line
returns-in_err-headings-clause-line g c = λ labels before begun all rest so_far.
    let w = c.in_ok-words.ensures.words ∙ ap (words_of c.args.line.now.line) c.as_bytes.ensures.value in
    let is = sym w ∙ ap seen_all (sym c.as_slice.ensures.value ∙ c.in-Some.ensures.cases.0) in
    let p = err_from_is_err_and c.from_residual-in_err-headings.result c.from_residual-in_err-headings.ensures.1 in
    rw (p.1, p.2) (plus_refused g.F.ExactField.limit g.F.ExactField.value labels before begun all (words_in c.args.line.now) (seen c.in-Some.first.now) (seen_all c.in-Some.others.now) rest c.args.table.now c.args.entries.now c.args.headings.now.items is (subst AreSpaced w c.in_ok-words.ensures.spaced) so_far (sym c.if-is_plus.ensures) c.in_err-headings.field-0.0 (c.in_err-headings.ensures.read g.F.ExactField.limit labels (before ++ so_far.done) so_far.keeps.progress))

pub returns-then-is_plus-clause-line : goal.returns-then-is_plus-clause-line
returns-then-is_plus-clause-line g c = λ labels before begun all rest so_far.
    let w = c.in_ok-words.ensures.words ∙ ap (words_of c.args.line.now.line) c.as_bytes.ensures.value in
    let is = sym w ∙ ap seen_all (sym c.as_slice.ensures.value ∙ c.in-Some.ensures.cases.0) in
    let read = c.in_ok-headings.ensures.read g.F.ExactField.limit labels (before ++ so_far.done) so_far.keeps.progress in
    line_plus g.F.ExactField.limit g.F.ExactField.value labels before begun all (words_in c.args.line.now) (seen c.in-Some.first.now) (seen_all c.in-Some.others.now) rest c.args.table.now c.args.entries.now c.args.headings.now.items is (subst AreSpaced w c.in_ok-words.ensures.spaced) so_far (sym c.if-is_plus.ensures) c.read_headings.new.table c.in_ok-headings.field-0.items (Stay-progress g.F.ExactField.limit labels (before ++ so_far.done) (map name (seen_all c.in-Some.others.now)) c.args.table.now c.read_headings.new.table so_far.keeps.progress read.0) read.0 read.1

pub returns-clause-line : goal.returns-clause-line
returns-clause-line g c = λ labels before begun all rest so_far.
    let w = c.in_ok-words.ensures.words ∙ ap (words_of c.args.line.now.line) c.as_bytes.ensures.value in
    let is = sym w ∙ ap seen_all (sym c.as_slice.ensures.value ∙ c.in-Some.ensures.cases.0) in
    let spaced = subst AreSpaced w c.in_ok-words.ensures.spaced in
    MatchResult-weaker c.read_row.result
    (c.read_row.ensures.row labels (before ++ so_far.done) so_far.names so_far.keeps (subst (AreHeadings c.args.table.now so_far.names) (sym c.as_slice-2.ensures.value) so_far.are) so_far.spaced)
    (λ _ keeps. line_row g.F.ExactField.limit g.F.ExactField.value labels before begun all (words_in c.args.line.now) (seen c.in-Some.first.now) (seen_all c.in-Some.others.now) rest c.args.table.now c.args.entries.now c.args.headings.now.items is spaced so_far (sym c.if-is_plus.ensures) c.read_row.new.table c.read_row.new.entries (Stay-progress g.F.ExactField.limit labels (before ++ so_far.done) (row_parts (seen c.in-Some.first.now) so_far.names (seen_all c.in-Some.others.now)) c.args.table.now c.read_row.new.table so_far.keeps.progress keeps.progress) keeps)
    (λ error refused. line_refused g.F.ExactField.limit g.F.ExactField.value labels before begun all (words_in c.args.line.now) (seen c.in-Some.first.now) (seen_all c.in-Some.others.now) rest c.args.table.now c.args.entries.now c.args.headings.now.items is spaced so_far (sym c.if-is_plus.ensures) error refused)
