-- One number more was read.
use Rattle.std.proofs.Common.{◌++◌, List, suc, take, drop, get_or, sym, subst, arith}
use Rattle.std.proofs.lemmas.List.{take_all}
use Rattle.std.proofs.lemmas.Result.{err_from_is_err_and}
use Rattle.gms_table.specs.declared.word.Word.{Word as Kept}
use Rattle.gms_table.specs.Words.{Word}
use Rattle.gms_table.specs.InnerShown.{seen, seen_all}
use Rattle.gms_table.specs.InnerProgress.{row_parts, IsRow, Keeps}
use Rattle.gms_table.proofs.RowLemmas.{no_word, seen_all-more, seen_all-split}
use Rattle.gms_table.proofs.RowSteps.{RowSoFar, row_begun, row_refused, row_more, number_refused}
use Rattle.gms_table.proofs.tables.read_row.Goals as goal

pub returns-in_err-row-clause-row : goal.returns-in_err-row-clause-row
returns-in_err-row-clause-row g c = λ labels before names keeps are spaced.
    let p = err_from_is_err_and c.from_residual.result c.from_residual.ensures.1 in
    rw (p.1, p.2) (row_refused g.F.ExactField.limit g.F.ExactField.value labels before (seen c.args.label) names (seen_all c.args.words.now) c.args.table.now c.enter.new.table c.args.entries.now c.in_err-row.field-0.0 keeps c.in_err-row.ensures.entered)

pub loop-word-init : goal.loop-word-init
loop-word-init g c = λ labels before names keeps are spaced.
    row_begun g.F.ExactField.limit g.F.ExactField.value labels before (seen c.args.label) names c.args.table.now c.enter.new.table c.args.entries.now c.in_ok-row.row.items c.args.headings.now keeps are spaced c.in_ok-row.ensures.entered

pub returns-in_err-read_cell-clause-row : goal.returns-in_err-read_cell-clause-row
returns-in_err-read_cell-clause-row g c = λ labels before names keeps are spaced.
    let p = err_from_is_err_and c.from_residual-in_err-read_cell.result c.from_residual-in_err-read_cell.ensures.1 in
    let so_far = c.loop-word.invariant labels before names keeps are spaced in
    let refused = c.in_err-read_cell.ensures labels (before ++ row_parts (seen c.args.label) names (seen_all (take c.loop-word.word-index c.args.words.now))) c.enter.new.table (seen c.args.label) names so_far.keeps (subst (λ r. IsRow c.enter.new.table (seen c.args.label) names r c.args.headings.now) (sym c.as_slice.ensures.value) so_far.is) in
    rw (p.1, p.2) (number_refused g.F.ExactField.limit g.F.ExactField.value labels before (seen c.args.label) names (seen_all (take c.loop-word.word-index c.args.words.now)) (seen (get_or c.args.words.now c.loop-word.word-index no_word)) (seen_all (drop (suc c.loop-word.word-index) c.args.words.now)) (seen_all c.args.words.now) c.in_err-read_cell.field-0.0 (seen_all-split c.args.words.now c.loop-word.word-index c.loop-word-test.true) refused)

pub loop-word-preserved : goal.loop-word-preserved
loop-word-preserved g c = λ labels before names keeps are spaced.
    let so_far = c.loop-word.invariant labels before names keeps are spaced in
    let added = c.in_ok-read_cell.ensures labels (before ++ row_parts (seen c.args.label) names (seen_all (take c.loop-word.word-index c.args.words.now))) c.enter.new.table (seen c.args.label) names so_far.keeps (subst (λ r. IsRow c.enter.new.table (seen c.args.label) names r c.args.headings.now) (sym c.as_slice.ensures.value) so_far.is) in
    subst (λ (ws : List Word). RowSoFar g.F.ExactField.limit g.F.ExactField.value labels before (seen c.args.label) names ws c.enter.new.table c.read_cell.new.entries c.in_ok-row.row.items c.args.headings.now) (sym (seen_all-more c.args.words.now c.loop-word.word-index c.loop-word-test.true))
    (row_more g.F.ExactField.limit g.F.ExactField.value labels before (seen c.args.label) names (seen_all (take c.loop-word.word-index c.args.words.now)) (seen (get_or c.args.words.now c.loop-word.word-index no_word)) c.enter.new.table c.loop-word.entries c.read_cell.new.entries c.in_ok-row.row.items c.args.headings.now so_far added)

pub returns-clause-row : goal.returns-clause-row
returns-clause-row g c = λ labels before names keeps are spaced.
    let so_far = c.loop-word.invariant labels before names keeps are spaced in
    subst (λ (ws : List Kept). Keeps g.F.ExactField.limit g.F.ExactField.value labels (before ++ row_parts (seen c.args.label) names (seen_all ws)) c.enter.new.table c.loop-word.entries) (take_all c.loop-word.word-index c.args.words.now (omega arith)) so_far.keeps
