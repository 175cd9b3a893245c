use Rattle.std.proofs.Common.{ap, ◌∙◌}
use Rattle.gms_table.specs.InnerGiven.{is_given}
use Rattle.gms_table.specs.InnerCells.{has_cell}
use Rattle.gms_table.proofs.CellLemmas.{cells_tie, has_cell-by_compare}
use Rattle.gms_table.proofs.given.Entries.has.Goals as goal

pub returns : goal.returns
returns g c =
    c.contains.ensures ∙ has_cell-by_compare _ cells_tie c.self.inside.cells.keys c.in_ok-cell.cell
    ∙ (λ i. has_cell c.self.inside.cells.keys (c.in_ok-cell.ensures.row i) (c.in_ok-cell.ensures.column i))
    ∙ c.self.invariant c.args.row.now c.args.column.now ∙ ap (λ es. is_given es c.args.row.now c.args.column.now) c.self.view_is
