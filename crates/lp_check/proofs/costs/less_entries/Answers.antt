use Rattle.std.proofs.Common.{◌≡◌, ◌<◌, Some, None, length, map, ap, sym, ◌∙◌, subst}
use Rattle.std.proofs.lemmas.List.{length-set}
use Rattle.std.proofs.lemmas.List.Elements.{All-get_or}
use Rattle.lp_core.specs.Sums.{value_of_column}
use Rattle.lp_core.proofs.Checks.{number_of-map}
use Rattle.lp_check.specs.BoundSteps.{less_steps, less_product}
use Rattle.lp_check.specs.Partials.{first_unfit}
use Rattle.lp_check.proofs.Reduced.{less_more}
use Rattle.lp_check.proofs.costs.less_entries.Goals as goal

pub loop-entry-preserved : goal.loop-entry-preserved
loop-entry-preserved g c =
    let e = c.entry-item.result in
    let there : e.0 < length c.loop-entry.costs = subst (λ n. e.0 < n) (sym c.loop-entry.invariant.sized) (subst (λ item. item.0 < length c.args.costs.now) (sym c.entry-item.is) (All-get_or (λ item. item.0 < length c.args.costs.now) c.args.entries.now c.loop-entry.entry-index e c.loop-entry-test.true c.requires.there)) in
    let own : value_of_column (map g.F.ExactField.value c.loop-entry.costs) e.0 ≡ g.F.ExactField.value c.index-costs-column.result = number_of-map g.F.ExactField.value c.loop-entry.costs e.0 c.index-costs-column.result there c.index-costs-column.is in
    let fit : first_unfit (less_steps g.F.ExactField.limit (value_of_column (map g.F.ExactField.value c.loop-entry.costs) e.0) (g.F.ExactField.value c.args.factor) (Some (g.F.ExactField.value e.1))) ≡ None = ap (λ s. first_unfit (less_steps g.F.ExactField.limit s (g.F.ExactField.value c.args.factor) (Some (g.F.ExactField.value e.1)))) own ∙ c.in-Ok.ensures.0.0 in
    let made : g.F.ExactField.value c.in-Ok.less.sum ≡ less_product (value_of_column (map g.F.ExactField.value c.loop-entry.costs) e.0) (g.F.ExactField.value c.args.factor) (Some (g.F.ExactField.value e.1)) = c.in-Ok.ensures.1 ∙ ap (λ s. less_product s (g.F.ExactField.value c.args.factor) (Some (g.F.ExactField.value e.1))) (sym own) in
    record {
      sized = length-set c.loop-entry.costs e.0 c.in-Ok.less.sum ∙ c.loop-entry.invariant.sized;
      less = less_more g.F.ExactField.value c.args.entries.now c.loop-entry.entry-index e c.requires.ordered c.loop-entry-test.true c.entry-item.is g.F.ExactField.limit (g.F.ExactField.value c.args.factor) (value_of_column (map g.F.ExactField.value c.args.costs.now)) c.loop-entry.costs c.in-Ok.less.sum there c.loop-entry.invariant.less fit made;
    }
