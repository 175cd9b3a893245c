use Rattle.std.proofs.Common.{◌∙◌, ◌*◌, ◌-◌, ◌^◌, [], ap, length, min}
use Rattle.std.proofs.lemmas.List.{get_or_read}
use Rattle.gms_set.proofs.Products.{count-more}
use Rattle.gms_set.proofs.product.count.Goals as goal

pub loop-part-preserved : goal.loop-part-preserved
loop-part-preserved c =
    c.saturating_mul-count.ensures
    ∙ ap (λ n. min (c.loop-part.count * n) (2 ^ 64 - 1)) (c.len.ensures ∙ ap length (get_or_read c.args.parts.now c.loop-part.part-index c.part-item.result c.loop-part-test.true c.part-item.is []))
    ∙ count-more c.args.parts.now c.loop-part.part-index c.loop-part.count (2 ^ 64 - 1) c.loop-part-test.true c.loop-part.invariant
