use Rattle.std.proofs.Common.{◌∙◌, ap, sym, refl, ◌+◌, map, drop}
use Rattle.gq_extended.specs.Meaning.{extended}
use Rattle.gq_extended.specs.ExtendedOrder.{lesser}
use Rattle.gms_eval.specs.Nodes.{extreme}
use Rattle.gms_eval.proofs.Bests.{best_from, best-more, best-end}
use Rattle.gms_eval.proofs.functions.least.Goals as goal

pub loop-value-init : goal.loop-value-init
loop-value-init g c = refl

pub loop-value-preserved : goal.loop-value-preserved
loop-value-preserved g c =
    c.loop-value.invariant
    ∙ best-more lesser (extended g.F.ExactField.value) (extended g.F.ExactField.value c.loop-value.least) c.in-Some.rest.now c.loop-value.value-index c.value-item.result c.loop-value-test.true c.value-item.is
    ∙ ap (λ best. best_from lesser (extended g.F.ExactField.value) best (drop (c.loop-value.value-index + 1) c.in-Some.rest.now)) (sym c.min-least.ensures)

pub returns : goal.returns
returns g c =
    sym (ap (λ values. extreme lesser (map (extended g.F.ExactField.value) values)) c.in-Some.ensures.cases.0 ∙ c.loop-value.invariant ∙ best-end lesser (extended g.F.ExactField.value) (extended g.F.ExactField.value c.loop-value.least) c.in-Some.rest.now c.loop-value.value-index c.loop-value-test.false)
