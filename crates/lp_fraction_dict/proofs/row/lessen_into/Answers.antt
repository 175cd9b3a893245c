use Rattle.std.proofs.Common.{arith}
use Rattle.lp_fraction_dict.proofs.Turns.{traversal_misfits, traversal_goes, traversal_ends}
use Rattle.lp_fraction_dict.proofs.row.lessen_into.Goals as goal

pub returns-in-Err : goal.returns-in-Err
returns-in-Err g c =
    λ high h o. (tt, traversal_misfits g.F.ExactField.value g.F.ExactField.limit high c.args.row.now (g.F.ExactField.value c.args.factor) c.args.other.now (omega (arith, g.met.F.ExactField.limit_range.0)) c.loop-column.left.now c.loop-column.right.now c.loop-column.made.items c.split_column-number.result.1.now c.split_column-another.result.1.now c.in-Some.column c.split_column-number.result.0 c.split_column-another.result.0 (c.loop-column.invariant high h o) c.in-Some.ensures c.split_column-number.ensures c.split_column-another.ensures c.in-Err.part c.in-Err.ensures)

pub loop-column-preserved : goal.loop-column-preserved
loop-column-preserved g c =
    λ high h o. traversal_goes g.F.ExactField.value g.F.ExactField.limit high c.args.row.now (g.F.ExactField.value c.args.factor) c.args.other.now (omega (arith, g.met.F.ExactField.limit_range.0)) c.loop-column.left.now c.loop-column.right.now c.loop-column.made.items c.split_column-number.result.1.now c.split_column-another.result.1.now c.in-Some.column c.split_column-number.result.0 c.split_column-another.result.0 (c.loop-column.invariant high h o) c.in-Some.ensures c.split_column-number.ensures c.split_column-another.ensures c.in-Ok.number c.push_unless_zero.new.row.items c.in-Ok.ensures.0 c.in-Ok.ensures.1 c.in_ok-push_unless_zero.ensures

pub returns : goal.returns
returns g c =
    λ high h o. (traversal_ends g.F.ExactField.value g.F.ExactField.limit high c.args.row.now (g.F.ExactField.value c.args.factor) c.args.other.now (omega (arith, g.met.F.ExactField.limit_range.0)) c.loop-column.left.now c.loop-column.right.now c.loop-column.made.items (c.loop-column.invariant high h o) c.in_default.ensures, tt)
