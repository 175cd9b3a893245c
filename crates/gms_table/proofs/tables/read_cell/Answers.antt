-- One number of a row more.
use Rattle.std.proofs.Common.{Some, refl, sym, ap, ◌∙◌, subst}
use Rattle.gms_table.specs.InnerGiven.{is_given}
use Rattle.gms_table.specs.InnerShown.{seen}
use Rattle.gms_table.specs.InnerNumbers.{ReadsCell}
use Rattle.gms_table.proofs.NumberLemmas.{is_number}
use Rattle.gms_table.proofs.CellSteps.{cell_unread, cell_unmet, cell_repeated, cell_beyond, cell_added}
use Rattle.gms_table.proofs.tables.read_cell.Goals as goal

pub returns-in_default : goal.returns-in_default
returns-in_default g c = λ labels before table label names keeps is.
    cell_unread g.F.ExactField.limit g.F.ExactField.value labels before table label names c.args.row.now c.args.headings.now (seen c.args.word) c.args.entries.now keeps is c.fault.result c.fault.ensures c.in_default.ensures.0 c.in_default.ensures.1

pub returns-in-Err : goal.returns-in-Err
returns-in-Err g c = λ labels before table label names keeps is.
    cell_unmet g.F.ExactField.limit g.F.ExactField.value labels before table label names c.args.row.now c.args.headings.now (seen c.args.word) c.args.entries.now keeps is c.in-Err.error c.fault-in-Err.result c.fault-in-Err.ensures (is_number g.F.ExactField.limit g.F.ExactField.value c.args.word.text.now c.in-Some.number c.in-Some.ensures) (c.in-Err.ensures table names is.headings_are is.spaced)

pub returns-then-branch : goal.returns-then-branch
returns-then-branch g c = λ labels before table label names keeps is.
    let found = c.in-Ok.ensures table names is.headings_are is.spaced in
    cell_repeated g.F.ExactField.limit g.F.ExactField.value labels before table label names c.args.row.now c.args.headings.now (seen c.args.word) c.args.entries.now keeps is found.0 c.in-Ok.heading.now found.1 found.2 c.fault-then-branch.result c.fault-then-branch.ensures (is_number g.F.ExactField.limit g.F.ExactField.value c.args.word.text.now c.in-Some.number c.in-Some.ensures)
    (ap (is_given c.args.entries.now c.args.row.now) (sym c.as_slice-column.ensures.value) ∙ sym c.in_ok-has.ensures ∙ c.if-branch.true)

pub returns-in_default-number : goal.returns-in_default-number
returns-in_default-number g c = λ labels before table label names keeps is.
    let found = c.in-Ok.ensures table names is.headings_are is.spaced in
    let read = subst (λ n. ReadsCell g.F.ExactField.limit g.F.ExactField.value c.args.word.text.now (Some n)) c.in_default-number.is c.in-Some.ensures in
    cell_beyond g.F.ExactField.limit g.F.ExactField.value labels before table label names c.args.row.now c.args.headings.now (seen c.args.word) c.args.entries.now keeps is found.0 c.in-Ok.heading.now found.1 found.2 c.fault-in_default-number.result c.fault-in_default-number.ensures
    (ap (is_given c.args.entries.now c.args.row.now) (sym c.as_slice-column.ensures.value) ∙ sym c.in_ok-has.ensures ∙ c.if-branch.false) read.1

pub returns : goal.returns
returns g c = λ labels before table label names keeps is.
    let found = c.in-Ok.ensures table names is.headings_are is.spaced in
    let read = subst (λ n. ReadsCell g.F.ExactField.limit g.F.ExactField.value c.args.word.text.now (Some n)) c.in-Ok-number.is c.in-Some.ensures in
    cell_added g.F.ExactField.limit g.F.ExactField.value labels before table label names c.args.row.now c.args.headings.now (seen c.args.word) c.args.entries.now keeps is found.0 c.in-Ok.heading.now found.1 found.2 c.push.new.self _
    (ap (is_given c.args.entries.now c.args.row.now) (sym c.as_slice-column.ensures.value) ∙ sym c.in_ok-has.ensures ∙ c.if-branch.false) read.1 c.in_ok-push.ensures refl (c.new.ensures ∙ c.in_ok-from_slice.ensures.items) (c.new-2.ensures ∙ c.in_ok-from_slice-2.ensures.items ∙ c.as_slice-column.ensures.value)
