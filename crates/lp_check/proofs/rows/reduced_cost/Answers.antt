use Rattle.std.proofs.Common.{◌<◌, map, drop, sym, ap, subst, arith, refl}
use Rattle.std.specs.List.{AllPairs}
use Rattle.std.proofs.lemmas.List.Elements.{All-get_or}
use Rattle.std.proofs.lemmas.List.{drop_all}
use Rattle.std.proofs.lemmas.Result.{err_from_is_err_and}
use Rattle.lp_core.specs.Feasible.{bound_value}
use Rattle.lp_check.specs.BoundSteps.{reduced_cost_bound_steps, less_steps}
use Rattle.lp_check.specs.Partials.{reduced_sum}
use Rattle.lp_check.proofs.Fits.{bound_for, continues, stops, ends}
use Rattle.lp_check.proofs.StepSequences.{reduced_from, reduced_sum_from}
use Rattle.lp_check.proofs.rows.reduced_cost.Goals as goal

pub entry_in-entry-requires : goal.entry_in-entry-requires
entry_in-entry-requires g c =
    subst (λ row. AllPairs (λ a b. a.0 < b.0) row.entries) (sym c.index-rows-i.is) (All-get_or (λ row. AllPairs (λ a b. a.0 < b.0) row.entries) c.args.rows.now c.loop-i.i c.index-rows-i.result c.loop-i-test.true c.requires.ordered)

pub less-requires : goal.less-requires
less-requires g c =
    bound_for g.F.ExactField.value _ _ _ _ _ _ c.loop-i.invariant (less_steps g.F.ExactField.limit (g.F.ExactField.value c.loop-i.partial.sum) (g.F.ExactField.value c.index-duals-i.result) (bound_value g.F.ExactField.value c.entry_in-entry.result)) _
    (reduced_from g.F.ExactField.value g.F.ExactField.limit c.args.rows.now c.args.duals.now c.loop-i.i c.index-rows-i.result c.index-duals-i.result c.loop-i-test.true c.index-rows-i.is (omega (arith, c.requires.sized)) c.index-duals-i.is c.args.column (g.F.ExactField.value c.loop-i.partial.sum) _ (bound_value g.F.ExactField.value c.entry_in-entry.result) c.entry_in-entry.ensures refl)

pub loop-i-init : goal.loop-i-init
loop-i-init g c = record { within_bound = c.requires.within_bound; so_far = λ result h. h }

pub loop-i-preserved : goal.loop-i-preserved
loop-i-preserved g c =
    continues g.F.ExactField.value _ _ _ _ _ _ c.loop-i.invariant (less_steps g.F.ExactField.limit (g.F.ExactField.value c.loop-i.partial.sum) (g.F.ExactField.value c.index-duals-i.result) (bound_value g.F.ExactField.value c.entry_in-entry.result)) _
    (reduced_from g.F.ExactField.value g.F.ExactField.limit c.args.rows.now c.args.duals.now c.loop-i.i c.index-rows-i.result c.index-duals-i.result c.loop-i-test.true c.index-rows-i.is (omega (arith, c.requires.sized)) c.index-duals-i.is c.args.column (g.F.ExactField.value c.loop-i.partial.sum) (g.F.ExactField.value c.in_ok-partial.partial.sum) (bound_value g.F.ExactField.value c.entry_in-entry.result) c.entry_in-entry.ensures c.in_ok-partial.ensures.1)
    c.in_ok-partial.partial.taken _
    (reduced_sum_from g.F.ExactField.value g.F.ExactField.limit c.args.rows.now c.args.duals.now c.loop-i.i c.index-rows-i.result c.index-duals-i.result c.loop-i-test.true c.index-rows-i.is (omega (arith, c.requires.sized)) c.index-duals-i.is c.args.column (g.F.ExactField.value c.loop-i.partial.sum) (g.F.ExactField.value c.in_ok-partial.partial.sum) (bound_value g.F.ExactField.value c.entry_in-entry.result) c.entry_in-entry.ensures c.in_ok-partial.ensures.1)
    c.in_ok-partial.ensures.0

pub returns-in_err-partial : goal.returns-in_err-partial
returns-in_err-partial g c =
    let p = err_from_is_err_and c.from_residual.result c.from_residual.ensures.1 in
    rw (p.1, p.2) (stops g.F.ExactField.value _ _ _ _ _ _ c.loop-i.invariant (less_steps g.F.ExactField.limit (g.F.ExactField.value c.loop-i.partial.sum) (g.F.ExactField.value c.index-duals-i.result) (bound_value g.F.ExactField.value c.entry_in-entry.result)) _
    (reduced_from g.F.ExactField.value g.F.ExactField.limit c.args.rows.now c.args.duals.now c.loop-i.i c.index-rows-i.result c.index-duals-i.result c.loop-i-test.true c.index-rows-i.is (omega (arith, c.requires.sized)) c.index-duals-i.is c.args.column (g.F.ExactField.value c.loop-i.partial.sum) _ (bound_value g.F.ExactField.value c.entry_in-entry.result) c.entry_in-entry.ensures refl)
    c.in_err-partial.field-0.0 c.in_err-partial.ensures)

pub returns : goal.returns
returns g c =
    ends g.F.ExactField.value _ _ _ _ _ _ c.loop-i.invariant (ap (λ rows. reduced_cost_bound_steps g.F.ExactField.value g.F.ExactField.limit c.args.column (g.F.ExactField.value c.loop-i.partial.sum) rows (drop c.loop-i.i (map g.F.ExactField.value c.args.duals.now))) (drop_all c.loop-i.i c.args.rows.now (omega arith))) c.loop-i.partial refl (sym (ap (λ rows. reduced_sum g.F.ExactField.value c.args.column (g.F.ExactField.value c.loop-i.partial.sum) rows (drop c.loop-i.i (map g.F.ExactField.value c.args.duals.now))) (drop_all c.loop-i.i c.args.rows.now (omega arith))))
