-- The comparison picks the lesser.
use Rattle.std.proofs.Common.{sym, ap, ◌∙◌}
use Rattle.gq_extended.specs.Meaning.{extended}
use Rattle.gq_extended.proofs.Extremes.{picked, lesser_picked}
use Rattle.gq_extended.proofs.extended.Ext.min.Goals as goal

pub returns-then-is_gt : goal.returns-then-is_gt
returns-then-is_gt g c =
    let v = g.F.ExactField.value in
    ap (λ b. picked b (extended v c.args.self) (extended v c.args.other)) c.if-is_gt.ensures ∙ sym (lesser_picked _ _ _ (sym c.in-Some.ensures))

pub returns-else-is_gt : goal.returns-else-is_gt
returns-else-is_gt g c =
    let v = g.F.ExactField.value in
    ap (λ b. picked b (extended v c.args.self) (extended v c.args.other)) c.if-is_gt.ensures ∙ sym (lesser_picked _ _ _ (sym c.in-Some.ensures))
