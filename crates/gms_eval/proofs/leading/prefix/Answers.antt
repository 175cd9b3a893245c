use Rattle.std.proofs.Common.{◌∙◌, ap, sym, ◌+◌, ◌∷◌, [], ◌++◌, length, take, arith}
use Rattle.std.proofs.lemmas.List.{take_more, length_push}
use Rattle.gms_eval.specs.InnerLeading.{indices_tree}
use Rattle.gms_eval.specs.Leaders.{leading_labels}
use Rattle.gms_eval.proofs.Entries.{index-label, indices-length}
use Rattle.gms_eval.proofs.Reaching.{beginning-more}
use Rattle.gms_eval.proofs.leading.prefix.Goals as goal

pub loop-index-preserved : goal.loop-index-preserved
loop-index-preserved g c =
    (ap length c.in_ok-push.ensures.ok ∙ length_push c.loop-index.prefix c.in-Some.label ∙ ap (λ n. n + 1) c.loop-index.invariant.0, λ state more tuple e. c.in_ok-push.ensures.ok ∙ ap (λ prefix. prefix ++ c.in-Some.label ∷ []) (c.loop-index.invariant.1 state more tuple e) ∙ ap (λ label. take c.loop-index.index-index tuple ++ label ∷ []) (sym (index-label g.F.ExactField.value g.F.ExactField.limit state (c.args.b.now ++ more) c.args.indices.now c.loop-index.index-index c.in-Some.label c.index-item.result tuple c.loop-index-test.true c.index-item.is (c.in-Some.ensures.label state more) e)) ∙ sym (take_more tuple c.loop-index.index-index 0 (omega (arith, indices-length g.F.ExactField.value g.F.ExactField.limit state (c.args.b.now ++ more) c.args.indices.now tuple e, c.loop-index-test.true))), beginning-more c.args.b.now c.args.indices.now c.loop-index.index-index c.index-item.result c.in-Some.label c.loop-index.prefix _ (leading_labels c.args.b.now (indices_tree c.args.indices.now)) c.in_ok-push.ensures.ok c.loop-index-test.true c.index-item.is c.in-Some.ensures.beginning c.loop-index.invariant.2)
