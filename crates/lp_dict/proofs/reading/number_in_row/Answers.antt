use Rattle.lp_fraction_dict.proofs.Rows.{search_after, search_here, search_before, less_by_cmp, equal_by_cmp, greater_by_cmp}
use Rattle.lp_dict.proofs.reading.number_in_row.Goals as goal

pub loop-entry-preserved-in-Less : goal.loop-entry-preserved-in-Less
loop-entry-preserved-in-Less g c =
    search_after g.F.ExactField.value c.args.row.now c.loop-entry.rest.now _ _ c.in-Some.entry.now c.in-Some.after.now c.args.column c.loop-entry.invariant c.split_at.ensures.by_index.0 c.in-Some.ensures.cases.0 (less_by_cmp _ _ c.cmp.result c.cmp.ensures c.in-Less.is)

pub returns-in-Equal : goal.returns-in-Equal
returns-in-Equal g c =
    search_here g.F.ExactField.value c.args.row.now c.loop-entry.rest.now _ _ c.in-Some.entry.now c.in-Some.after.now c.args.column c.loop-entry.invariant c.split_at.ensures.by_index.0 c.in-Some.ensures.cases.0 (equal_by_cmp _ _ c.cmp.result c.cmp.ensures c.in-Equal.is)

pub loop-entry-preserved : goal.loop-entry-preserved
loop-entry-preserved g c =
    search_before g.F.ExactField.value c.args.row.now c.loop-entry.rest.now _ _ c.in-Some.entry.now c.in-Some.after.now c.args.column c.loop-entry.invariant c.split_at.ensures.by_index.0 c.in-Some.ensures.cases.0 (greater_by_cmp _ _ c.cmp.result c.cmp.ensures c.in-Greater.is)
