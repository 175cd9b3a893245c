use Rattle.std.proofs.Common.{◌++◌, map, ◌∙◌, sym, ap}
use Rattle.std.proofs.lemmas.List.{take_all}
use Rattle.gms_rows.specs.Rows.{distinct_numbers}
use Rattle.gms_rows.specs.InnerContracts.{with_once}
use Rattle.gms_rows.proofs.Naming.{distinct_numbers-more}
use Rattle.gms_rows.proofs.equations.push_names.Goals as goal

pub loop-item-preserved : goal.loop-item-preserved
loop-item-preserved g c before e =
    c.in_ok-push_once.ensures
    ∙ ap (λ names. with_once names c.item-item.result.named.name) (c.loop-item.invariant before e)
    ∙ sym (distinct_numbers-more (λ item. item.named.name) before c.args.items.now c.loop-item.item-index c.item-item.result c.loop-item-test.true c.item-item.is)

pub returns : goal.returns
returns g c before e =
    c.loop-item.invariant before e ∙ ap (λ items. distinct_numbers (before ++ map (λ item. item.named.name) items)) (take_all c.loop-item.item-index c.args.items.now c.loop-item-test.false)
