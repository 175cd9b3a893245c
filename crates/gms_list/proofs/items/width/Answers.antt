use Rattle.std.proofs.Common.{◌∙◌, ap, arith, max, length}
use Rattle.gq_extended.specs.Meaning.{extended}
use Rattle.gms_list.proofs.Widths.{width_step, width_done}
use Rattle.gms_list.proofs.items.width.Goals as goal

pub loop-t-preserved : goal.loop-t-preserved
loop-t-preserved g c =
    width_step c.args.labels.now (λ entry. (entry.0, extended g.F.ExactField.value entry.1)) c.args.entries.now c.loop-t.t-index c.loop-t-item.result c.loop-t.width c.max-width.result _ (omega arith) c.loop-t-item.is (c.max-width.ensures ∙ ap (λ n. max n c.loop-t.width) (ap length (c.as_str.ensures.value ∙ c.in_ok-dotted.ensures))) c.loop-t.invariant

pub returns : goal.returns
returns g c = width_done c.args.labels.now (λ entry. (entry.0, extended g.F.ExactField.value entry.1)) c.args.entries.now c.loop-t.t-index c.loop-t.width _ (omega arith) c.loop-t.invariant
