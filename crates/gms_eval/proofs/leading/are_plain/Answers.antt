use Rattle.std.proofs.Common.{subst, IsOk}
use Rattle.std.specs.List.{All}
use Rattle.std.proofs.lemmas.List.{take_all}
use Rattle.std.proofs.lemmas.List.Elements.{All-more, All-weaker}
use Rattle.gms_store.specs.State.{State}
use Rattle.gms_eval.specs.Bindings.{Pairs}
use Rattle.gms_eval.specs.Value.{label_answer}
use Rattle.gms_eval.specs.InnerLeading.{indices_tree}
use Rattle.gms_eval.specs.Leaders.{without_lags}
use Rattle.gms_eval.proofs.Entries.{plain-indices}
use Rattle.gms_eval.proofs.Reaching.{lags-more, lags-none}
use Rattle.gms_eval.proofs.leading.are_plain.Goals as goal

pub loop-index-preserved : goal.loop-index-preserved
loop-index-preserved g c =
    (All-more (λ index. (state : State) (binding : Pairs) → IsOk (label_answer g.F.ExactField.value g.F.ExactField.limit state binding index)) c.args.indices.now c.loop-index.index-index c.index-item.result c.loop-index-test.true c.loop-index.invariant.0 (subst (λ index. (state : State) (binding : Pairs) → IsOk (label_answer g.F.ExactField.value g.F.ExactField.limit state binding index)) c.index-item.is (c.is_plain.ensures.safe c.if-not-is_plain.false)), lags-more c.args.indices.now c.loop-index.index-index c.index-item.result c.is_plain.result (without_lags (indices_tree c.args.indices.now)) c.if-not-is_plain.false c.loop-index-test.true c.index-item.is c.is_plain.ensures.lags c.loop-index.invariant.1)

pub returns-clause-safe : goal.returns-clause-safe
returns-clause-safe g c =
    λ _ state binding. plain-indices g.F.ExactField.value g.F.ExactField.limit state binding c.args.indices.now (All-weaker (λ index. (state : State) (binding : Pairs) → IsOk (label_answer g.F.ExactField.value g.F.ExactField.limit state binding index)) (λ index. IsOk (label_answer g.F.ExactField.value g.F.ExactField.limit state binding index)) (λ index ok. ok state binding) c.args.indices.now (subst (λ indices. All (λ index. (state : State) (binding : Pairs) → IsOk (label_answer g.F.ExactField.value g.F.ExactField.limit state binding index)) indices) (take_all c.loop-index.index-index c.args.indices.now c.loop-index-test.false) c.loop-index.invariant.0))

pub returns-clause-lags : goal.returns-clause-lags
returns-clause-lags g c =
    lags-none c.args.indices.now c.loop-index.index-index (without_lags (indices_tree c.args.indices.now)) c.loop-index-test.false c.loop-index.invariant.1
