use Rattle.std.proofs.Common.{◌∙◌, ap, sym, [], arith}
use Rattle.std.proofs.lemmas.Option.{get_or_from_slice_get}
use Rattle.gms_exec.specs.Showing.{entries_shown}
use Rattle.gms_exec.specs.InnerContracts.{entries_in}
use Rattle.gms_exec.proofs.Entries.{entries-more, entries-end}
use Rattle.gms_exec.proofs.showing.given.Goals as goal

pub loop-place-init : goal.loop-place-init
loop-place-init g c = ap (entries_in g.F.ExactField.value) c.new-entries.ensures.items

pub loop-place-preserved : goal.loop-place-preserved
loop-place-preserved g c =
    entries-more c.args.store.now c.args.name c.args.suffix (entries_in g.F.ExactField.value c.loop-place.entries.items) (entries_in g.F.ExactField.value c.add.new.entries.items) c.given-given.result.now c.loop-place.place c.in_ok-t.t (omega (arith, c.loop-place-test.true, c.len-place-end.ensures.len)) (c.in_ok-t.ensures ∙ sym (get_or_from_slice_get c.given-given.result.now c.loop-place.place c.get.result.now [] c.get.ensures)) c.loop-place.invariant c.in_ok-add.ensures

pub returns : goal.returns
returns g c =
    entries-end c.args.store.now c.args.name c.args.suffix (entries_in g.F.ExactField.value c.loop-place.entries.items) c.given-given.result.now c.loop-place.place (omega (arith, c.loop-place-test.false, c.len-place-end.ensures.len)) c.loop-place.invariant ∙ ap (entries_shown c.args.store.now c.args.name c.args.suffix) c.given-given.ensures.value
