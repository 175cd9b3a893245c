use Rattle.std.proofs.Common.{◌∙◌, ap, sym, subst, set, arith}
use Rattle.gms_store.proofs.Overlays.{IsRest, chosen-at, overlaid-first, overlaid-more, overlaid-past, overlaid-all, rest-first, rest-more, rest-less}
use Rattle.gms_store.proofs.store.overlay_symbols.Goals as goal
use Rattle.gms_store.proofs.store.overlay_symbols.Goals.{then-name-symbols, else-name-symbols}

pub loop-name-init : goal.loop-name-init
loop-name-init g c = (overlaid-first c.args.symbols.now c.args.others.now, rest-first c.args.others.now)

pub loop-name-preserved : goal.loop-name-preserved
loop-name-preserved g c =
    let xs = c.args.symbols.now in
    let others = c.args.others.now in
    let i = c.loop-name.name in
    let now = c.loop-name.symbols in
    let next = c.if-name-symbols.symbols in
    elim c.if-name-symbols.branch [
      | then-name-symbols w ↦
          let o = w.index-others-name.result in
          let there = w.index-others-name.is ∙ c.loop-name.invariant.1.rest i o (omega arith) in
          let put = chosen-at now c.loop-name.others i w.index-symbols-name.result o w.if-name-symbols.true w.index-symbols-name.is w.index-others-name.is in (
            overlaid-more xs others i o now next c.loop-name-test.true there c.loop-name.invariant.0 (w.symbols-is ∙ ap (set now i) (w.overlay.ensures ∙ put)),
            rest-more others i w.overlay.new.other c.loop-name.others c.if-name-symbols.others c.loop-name.invariant.1 w.others-is,
          )
      | else-name-symbols w ↦ (
        overlaid-past xs others i now next (let past = w.if-name-symbols.false in omega arith) c.loop-name-test.true c.loop-name.invariant.0 w.symbols-is,
        rest-less others i c.if-name-symbols.others (subst (IsRest i others) (sym w.others-is) c.loop-name.invariant.1),
      )
    ]

pub returns : goal.returns
returns g c = overlaid-all c.args.symbols.now c.args.others.now c.loop-name.name c.loop-name.symbols (omega arith) c.loop-name.invariant.0
