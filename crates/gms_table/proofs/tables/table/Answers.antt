-- The whole table was read.
use Rattle.std.proofs.Common.{◌++◌, List, [], map, refl, sym, ap, subst}
use Rattle.std.specs.Prelude.{IfSome}
use Rattle.std.proofs.lemmas.Result.{err_from_is_err_and}
use Rattle.gms_table.specs.declared.entry.Entry.{Entry}
use Rattle.gms_table.specs.Words.{Word}
use Rattle.gms_table.specs.InnerShown.{seen_all, AreHeadings}
use Rattle.gms_table.specs.TableEntries.{name, under}
use Rattle.gms_table.specs.InnerProgress.{lines_of, Progress, Refuses, Keeps, IsFirstLine}
use Rattle.gms_table.proofs.LabelLemmas.{GoesOn-trans}
use Rattle.gms_table.proofs.RowSteps.{Refuses-more}
use Rattle.gms_table.proofs.TableLemmas.{nothing_read, headings_read, table_refused, table_read}
use Rattle.gms_table.proofs.tables.table.Goals as goal

pub returns-in_err-headings-clause-table : goal.returns-in_err-headings-clause-table
returns-in_err-headings-clause-table g c =
    let first : IsFirstLine (lines_of c.args.lines.now) (seen_all c.in-Some.words.items) (lines_of c.in-Some.rows.now) = subst (λ found. IfSome found (λ f. IsFirstLine (lines_of c.args.lines.now) (seen_all f.0.items) (lines_of f.1.now))) c.in-Some.is c.in_ok-words.ensures.some in
    let p = err_from_is_err_and c.from_residual-in_err-headings.result c.from_residual-in_err-headings.ensures.1 in
    let refused = c.in_err-headings.ensures.read g.F.ExactField.limit c.args.labels.now [] (nothing_read g.F.ExactField.limit c.args.labels.now) in
    let rest = under (seen_all c.in-Some.words.items) (lines_of c.in-Some.rows.now) in
    rw (p.1, p.2) (table_refused g.F.ExactField.limit c.args.lines.now c.args.labels.now (map name (seen_all c.in-Some.words.items) ++ rest) c.in_err-headings.field-0.0 first.parts_are
    (Refuses-more g.F.ExactField.limit c.args.labels.now (map name (seen_all c.in-Some.words.items)) rest (map name (seen_all c.in-Some.words.items) ++ rest) c.in_err-headings.field-0.0 refl
    (subst (λ (ws : List Word). Refuses g.F.ExactField.limit c.args.labels.now (map name ws) c.in_err-headings.field-0.0) (ap seen_all c.as_slice.ensures.value) refused)))

pub returns-in_err-read_rows-clause-table : goal.returns-in_err-read_rows-clause-table
returns-in_err-read_rows-clause-table g c =
    let first : IsFirstLine (lines_of c.args.lines.now) (seen_all c.in-Some.words.items) (lines_of c.in-Some.rows.now) = subst (λ found. IfSome found (λ f. IsFirstLine (lines_of c.args.lines.now) (seen_all f.0.items) (lines_of f.1.now))) c.in-Some.is c.in_ok-words.ensures.some in
    let p = err_from_is_err_and c.from_residual-in_err-read_rows.result c.from_residual-in_err-read_rows.ensures.1 in
    let read = c.in_ok-headings.ensures.read g.F.ExactField.limit c.args.labels.now [] (nothing_read g.F.ExactField.limit c.args.labels.now) in
    let begun = subst (λ (ws : List Word). Progress g.F.ExactField.limit c.args.labels.now (map name ws) c.read_headings.new.table) (ap seen_all c.as_slice.ensures.value) read.0 in
    let are = subst (λ (ws : List Word). AreHeadings c.read_headings.new.table ws c.in_ok-headings.headings.items) (ap seen_all c.as_slice.ensures.value) read.1 in
    let refused = c.in_err-read_rows.ensures.rows c.args.labels.now (map name (seen_all c.in-Some.words.items)) (seen_all c.in-Some.words.items) (headings_read g.F.ExactField.limit g.F.ExactField.value c.args.labels.now c.read_headings.new.table (seen_all c.in-Some.words.items) c.new-entries.result c.new-entries.ensures begun) are first.spaced in
    rw (p.1, p.2) (table_refused g.F.ExactField.limit c.args.lines.now c.args.labels.now (map name (seen_all c.in-Some.words.items) ++ under (seen_all c.in-Some.words.items) (lines_of c.in-Some.rows.now)) c.in_err-read_rows.field-0.0 first.parts_are refused)

pub returns-clause-table : goal.returns-clause-table
returns-clause-table g c =
    let first : IsFirstLine (lines_of c.args.lines.now) (seen_all c.in-Some.words.items) (lines_of c.in-Some.rows.now) = subst (λ found. IfSome found (λ f. IsFirstLine (lines_of c.args.lines.now) (seen_all f.0.items) (lines_of f.1.now))) c.in-Some.is c.in_ok-words.ensures.some in
    let read = c.in_ok-headings.ensures.read g.F.ExactField.limit c.args.labels.now [] (nothing_read g.F.ExactField.limit c.args.labels.now) in
    let begun = subst (λ (ws : List Word). Progress g.F.ExactField.limit c.args.labels.now (map name ws) c.read_headings.new.table) (ap seen_all c.as_slice.ensures.value) read.0 in
    let are = subst (λ (ws : List Word). AreHeadings c.read_headings.new.table ws c.in_ok-headings.headings.items) (ap seen_all c.as_slice.ensures.value) read.1 in
    let keeps = c.in_ok-read_rows.ensures.rows c.args.labels.now (map name (seen_all c.in-Some.words.items)) (seen_all c.in-Some.words.items) (headings_read g.F.ExactField.limit g.F.ExactField.value c.args.labels.now c.read_headings.new.table (seen_all c.in-Some.words.items) c.new-entries.result c.new-entries.ensures begun) are first.spaced in
    let made = subst (λ (es : List (Entry _)). Keeps g.F.ExactField.limit g.F.ExactField.value c.args.labels.now (map name (seen_all c.in-Some.words.items) ++ under (seen_all c.in-Some.words.items) (lines_of c.in-Some.rows.now)) c.read_rows.new.table es) (sym c.into_vec.ensures) keeps in
    table_read g.F.ExactField.limit g.F.ExactField.value c.args.lines.now c.args.labels.now c.read_rows.new.table (seen_all c.in-Some.words.items) (lines_of c.in-Some.rows.now) c.into_vec.result.items first made

pub returns-in_err-words-clause-table : goal.returns-in_err-words-clause-table
returns-in_err-words-clause-table g c =
    let p = err_from_is_err_and c.from_residual.result c.from_residual.ensures.1 in
    rw (p.1, p.2) tt

pub returns-in_err-headings-clause-extended : goal.returns-in_err-headings-clause-extended
returns-in_err-headings-clause-extended g c = c.in_err-headings.ensures.extended

pub returns-in_err-read_rows-clause-extended : goal.returns-in_err-read_rows-clause-extended
returns-in_err-read_rows-clause-extended g c = GoesOn-trans c.args.labels.now c.read_headings.new.table c.read_rows.new.table c.in_ok-headings.ensures.extended c.in_err-read_rows.ensures.extended

pub returns-clause-extended : goal.returns-clause-extended
returns-clause-extended g c = GoesOn-trans c.args.labels.now c.read_headings.new.table c.read_rows.new.table c.in_ok-headings.ensures.extended c.in_ok-read_rows.ensures.extended
