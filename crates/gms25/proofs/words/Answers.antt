use Rattle.std.proofs.Common.{rules, ◌≡◌, drop, length, ap, sym, subst, ◌∙◌}
use Rattle.std.specs.Prelude.{IfOk}
use Rattle.std.specs.Vec.Iter.{into_iter_items, into_iter_len}
use Rattle.std.proofs.lemmas.Iterator.Adapters.{YieldsList-from_skip, YieldsList-from_vec, fact_from_collect}
use Rattle.std.proofs.lemmas.Result.{IfOk-weaker}
use Rattle.gms25.specs.Program.{HasWords}
use Rattle.gms25.proofs.words.Goals as goal

-- all but the first
pub returns-in-Ok : goal.returns-in-Ok
returns-in-Ok c =
    let given = into_iter_items c.in-Ok.args in
    let many : into_iter_len c.in-Ok.args ≡ length given = search rules in
    let all = fact_from_collect _ c.collect.result c.collect.ensures.ran (YieldsList-from_skip 1 (YieldsList-from_vec given (ap into_iter_items c.skip.ensures.source) (ap into_iter_len c.skip.ensures.source ∙ many)) c.skip.ensures.count) in
    subst (λ args. IfOk c.collect.result (λ words. HasWords args words.items)) (sym c.in-Ok.is) (IfOk-weaker c.collect.result _ (λ words. words.items ≡ drop 1 given) (λ words h. h.0) all)
