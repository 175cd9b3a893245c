use Rattle.std.proofs.Common.{refl, arith}
use Rattle.lp_fraction_dict.proofs.Lists.{column_within, columns_pass, columns_more}
use Rattle.lp_fraction_dict.proofs.last.by_column.Goals as goal

pub loop-entry-preserved-then-entry-eq0 : goal.loop-entry-preserved-then-entry-eq0
loop-entry-preserved-then-entry-eq0 g c =
    columns_pass g.F.ExactField.value c.args.row.now c.args.count c.loop-entry.entry-index c.entry-item.result c.requires c.loop-entry-test.true c.entry-item.is c.loop-entry.list.items c.loop-entry.invariant c.if-entry-eq0.true

pub index_mut-requires : goal.index_mut-requires
index_mut-requires g c =
    let most = column_within g.F.ExactField.value c.args.row.now c.args.count c.loop-entry.entry-index c.entry-item.result c.requires c.loop-entry-test.true c.entry-item.is in
    let size = c.loop-entry.invariant.sized in
    let some = c.if-entry-eq0.false in
    omega (arith, c.loop-entry.list.ok.0)

pub loop-entry-preserved : goal.loop-entry-preserved
loop-entry-preserved g c =
    columns_more g.F.ExactField.value c.args.row.now c.args.count c.loop-entry.entry-index c.entry-item.result c.requires c.loop-entry-test.true c.entry-item.is c.loop-entry.list.items _ c.loop-entry.invariant c.if-entry-eq0.false refl
