use Rattle.std.proofs.Common.{◌∙◌, ◌+◌, ◌-◌, ℕ, length, take, drop, ap, arith}
use Rattle.gms_save_text.proofs.Cuts.{cut_at}
use Rattle.gms_save_text.proofs.reading.cut.Goals as goal

pub returns-then-at-text : goal.returns-then-at-text
returns-then-at-text c prefix rest none is =
    let text = c.args.text.now in
    let k = cut_at c.args.byte text prefix rest none is in
    (ap (λ n. take n text) c.place_of-at.ensures ∙ k.prefix_is, ap (λ (n : ℕ). take (length text - (n + 1)) (drop (n + 1) text)) c.place_of-at.ensures ∙ k.rest_is)

pub returns-else-at-text : goal.returns-else-at-text
returns-else-at-text c prefix rest none is =
    let k = (cut_at c.args.byte c.args.text.now prefix rest none is).within in
    let place = c.place_of-at.ensures in
    absurd (omega arith)
