use Rattle.std.proofs.Common.{ap, arith}
use Rattle.gms_exec.specs.Showing.{elements_at}
use Rattle.gms_exec.specs.InnerContracts.{entries_in}
use Rattle.gms_exec.proofs.Entries.{entries-more, entries-end}
use Rattle.gms_exec.proofs.showing.over_all.Goals as goal

pub loop-number-init : goal.loop-number-init
loop-number-init g c = ap (entries_in g.F.ExactField.value) c.new-entries.ensures.items

pub loop-number-preserved : goal.loop-number-preserved
loop-number-preserved g c =
    entries-more c.args.store.now c.args.name c.args.suffix (entries_in g.F.ExactField.value c.loop-number.entries.items) (entries_in g.F.ExactField.value c.add.new.entries.items) (elements_at c.args.name_domain.now.labels c.args.name_domain.now.store.now c.args.name_domain.now.positions.now) c.loop-number.number c.in_ok-t.t (omega (arith, c.loop-number-test.true, c.requires)) c.in_ok-t.ensures c.loop-number.invariant c.in_ok-add.ensures

pub returns : goal.returns
returns g c =
    entries-end c.args.store.now c.args.name c.args.suffix (entries_in g.F.ExactField.value c.loop-number.entries.items) (elements_at c.args.name_domain.now.labels c.args.name_domain.now.store.now c.args.name_domain.now.positions.now) c.loop-number.number (omega (arith, c.loop-number-test.false, c.requires)) c.loop-number.invariant
