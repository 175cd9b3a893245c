use Rattle.std.proofs.Common.{arith, subst}
use Rattle.std.proofs.lemmas.Bool.{both_ways}
use Rattle.lp_core.specs.WellFormed.{AreRowEntries}
use Rattle.lp_core.specs.declared.program.Row.{Row}
use Rattle.lp_core.proofs.ShapeSteps.{all_stops, all_more, all_end}
use Rattle.lp_core.proofs.shape.have_entries.Goals as goal

pub loop-row-preserved : goal.loop-row-preserved
loop-row-preserved g c =
    all_more (λ (row : Row _). AreRowEntries g.F.ExactField.value c.args.columns row.entries) c.args.rows.now c.loop-row.row-index c.row-item.result c.loop-row-test.true c.row-item.is c.loop-row.invariant (subst (AreRowEntries g.F.ExactField.value c.args.columns) c.as_slice.ensures (c.are_entries.ensures.0 c.if-not-are_entries.false))

pub returns-then-not-are_entries : goal.returns-then-not-are_entries
returns-then-not-are_entries g c =
    all_stops (λ (row : Row _). AreRowEntries g.F.ExactField.value c.args.columns row.entries) c.args.rows.now c.loop-row.row-index c.row-item.result c.loop-row-test.true c.row-item.is (λ entries. both_ways c.are_entries.result c.if-not-are_entries.true (c.are_entries.ensures.1 (rw c.as_slice.ensures entries)))

pub returns : goal.returns
returns g c = all_end (λ (row : Row _). AreRowEntries g.F.ExactField.value c.args.columns row.entries) c.args.rows.now c.loop-row.row-index (omega arith) c.loop-row.invariant
