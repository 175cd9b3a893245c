use Rattle.std.proofs.Common.{vec_len, ◌∙◌, arith}
use Rattle.gms_table.proofs.CellLemmas.{cells_tie, AreCellsOf-push, AreCellsOf-stay}
use Rattle.gms_table.proofs.given.Entries.push.Goals as goal

pub invariant_of-self-in-Ok : goal.invariant_of-self-in-Ok
invariant_of-self-in-Ok g c =
    AreCellsOf-push _ cells_tie c.self.inside.entries.items c.push.new.self.items c.args.entry c.self.inside.cells.keys c.insert.new.self.keys c.in_ok-cell.cell c.self.invariant c.in_ok-push.ensures.items c.in-Ok.ensures.keys (c.in_ok-cell.ensures.row ∙ c.as_slice.ensures) (c.in_ok-cell.ensures.column ∙ c.as_slice-2.ensures)

pub invariant_of-self-in-Err : goal.invariant_of-self-in-Err
invariant_of-self-in-Err g c =
    AreCellsOf-stay c.self.inside.entries.items c.push.new.self.items c.pop.new.self.items c.args.entry (vec_len c.push.new.self) c.self.inside.cells.keys c.insert.new.self.keys c.self.invariant c.in_ok-push.ensures.items c.pop.ensures.rest (omega (arith, c.push.new.self.ok.0)) c.in-Err.ensures.err
