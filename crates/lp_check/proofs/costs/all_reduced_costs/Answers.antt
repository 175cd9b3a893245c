use Rattle.std.proofs.Common.{◌≡◌, ◌+◌, map, length, ap, sym, ◌∙◌, subst, arith}
use Rattle.std.specs.Vec.{with_items}
use Rattle.std.proofs.lemmas.List.{with_items_is}
use Rattle.lp_core.specs.Sums.{value_of_column}
use Rattle.lp_check.specs.BoundSteps.{entry_in}
use Rattle.lp_check.specs.Partials.{Lessened, costs_of}
use Rattle.lp_check.proofs.Reduced.{Lessening, lessening_begins, lessening_on, lessened_all, fitted_all}
use Rattle.lp_check.proofs.costs.all_reduced_costs.Goals as goal

pub loop-i-init : goal.loop-i-init
loop-i-init g c =
    record {
      sized = c.in-Ok.ensures.sized;
      going = lessening_begins g.F.ExactField.value g.F.ExactField.limit (costs_of c.args.objective) (value_of_column (map g.F.ExactField.value c.in-Ok.costs.items)) c.args.rows.now (map g.F.ExactField.value c.args.duals.now) c.in-Ok.ensures.costs;
    }

pub loop-i-preserved : goal.loop-i-preserved
loop-i-preserved g c =
    let sized : length c.less_row.new.costs ≡ length c.loop-i.costs.items = c.in_ok-less_row.ensures.sized ∙ ap length c.as_mut_slice.ensures.value in
    let items : (with_items c.loop-i.costs c.less_row.new.costs).items ≡ c.less_row.new.costs = with_items_is c.loop-i.costs c.less_row.new.costs (sized ∙ sym c.loop-i.costs.ok.0) in
    record {
      sized = ap length items ∙ sized ∙ c.loop-i.invariant.sized;
      going = subst (λ list. Lessening g.F.ExactField.value g.F.ExactField.limit (costs_of c.args.objective) c.args.rows.now (map g.F.ExactField.value c.args.duals.now) (c.loop-i.i + 1) (value_of_column (map g.F.ExactField.value list))) (sym items)
          (lessening_on g.F.ExactField.value g.F.ExactField.limit (costs_of c.args.objective) c.args.rows.now c.args.duals.now c.loop-i.i c.index-rows-i.result c.index-duals-i.result c.loop-i-test.true c.index-rows-i.is (omega (arith, c.requires.sized)) c.index-duals-i.is (value_of_column (map g.F.ExactField.value c.loop-i.costs.items)) (value_of_column (map g.F.ExactField.value c.less_row.new.costs)) c.loop-i.invariant.going
          (subst (λ list. Lessened g.F.ExactField.limit (g.F.ExactField.value c.index-duals-i.result) (λ j. entry_in g.F.ExactField.value j c.index-rows-i.result) (value_of_column (map g.F.ExactField.value list)) (value_of_column (map g.F.ExactField.value c.less_row.new.costs))) c.as_mut_slice.ensures.value c.in_ok-less_row.ensures.less));
    }

pub returns-clause-fit : goal.returns-clause-fit
returns-clause-fit g c = fitted_all g.F.ExactField.value g.F.ExactField.limit (costs_of c.args.objective) c.args.rows.now c.args.duals.now c.loop-i.i (value_of_column (map g.F.ExactField.value c.loop-i.costs.items)) c.loop-i-test.false c.loop-i.invariant.going

pub returns-clause-costs : goal.returns-clause-costs
returns-clause-costs g c = lessened_all g.F.ExactField.value g.F.ExactField.limit (costs_of c.args.objective) c.args.rows.now c.args.duals.now c.loop-i.i (value_of_column (map g.F.ExactField.value c.loop-i.costs.items)) c.loop-i-test.false c.loop-i.invariant.going
