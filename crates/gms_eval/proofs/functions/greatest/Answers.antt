use Rattle.std.proofs.Common.{◌∙◌, ap, sym, refl, ◌+◌, map, drop}
use Rattle.gq_extended.specs.Meaning.{extended}
use Rattle.gq_extended.specs.ExtendedOrder.{greater}
use Rattle.gms_eval.specs.Nodes.{extreme}
use Rattle.gms_eval.proofs.Bests.{best_from, best-more, best-end}
use Rattle.gms_eval.proofs.functions.greatest.Goals as goal

pub loop-value-init : goal.loop-value-init
loop-value-init g c = refl

pub loop-value-preserved : goal.loop-value-preserved
loop-value-preserved g c =
    c.loop-value.invariant
    ∙ best-more greater (extended g.F.ExactField.value) (extended g.F.ExactField.value c.loop-value.greatest) c.in-Some.rest.now c.loop-value.value-index c.value-item.result c.loop-value-test.true c.value-item.is
    ∙ ap (λ best. best_from greater (extended g.F.ExactField.value) best (drop (c.loop-value.value-index + 1) c.in-Some.rest.now)) (sym c.max-greatest.ensures)

pub returns : goal.returns
returns g c =
    sym (ap (λ values. extreme greater (map (extended g.F.ExactField.value) values)) c.in-Some.ensures.cases.0 ∙ c.loop-value.invariant ∙ best-end greater (extended g.F.ExactField.value) (extended g.F.ExactField.value c.loop-value.greatest) c.in-Some.rest.now c.loop-value.value-index c.loop-value-test.false)
