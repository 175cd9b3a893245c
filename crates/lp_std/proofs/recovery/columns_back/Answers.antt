use Rattle.std.proofs.Common.{◌<◌, ◌+◌, ◌-◌, ◌∙◌, ℕ, length, take, drop, sym, ap, subst, arith}
use Rattle.std.specs.Prelude.{sum_by}
use Rattle.std.specs.List.{All}
use Rattle.std.proofs.lemmas.List.{length-drop, take_rest}
use Rattle.lp_core.specs.declared.program.Column.{Column}
use Rattle.lp_core.specs.StandardForm as form
use Rattle.lp_core.specs.Steps.{count_of_rows}
use Rattle.lp_std.specs.declared.types.Shift.{Shift}
use Rattle.lp_std.proofs.Shapes.{rows_few, placed_sized}
use Rattle.lp_std.proofs.Recovers.{numbers_within, reduced_are_back}
use Rattle.lp_std.proofs.recovery.columns_back.Goals as goal

pub count_rows-first-requires : goal.count_rows-first-requires
count_rows-first-requires g c =
    omega (arith, ap count_of_rows c.as_slice.ensures, rows_few g.F.ExactField.value c.args.lp.now c.requires.well_formed)

pub reduced_costs_of-requires-clause-sized : goal.reduced_costs_of-requires-clause-sized
reduced_costs_of-requires-clause-sized g c =
    ap length c.as_slice-2.ensures ∙ sym (placed_sized g.F.ExactField.value c.args.lp.now c.args.columns.now c.requires.numbered)

pub reduced_costs_of-requires-clause-there : goal.reduced_costs_of-requires-clause-there
reduced_costs_of-requires-clause-there g c =
    subst (λ n. All (λ (p : ℕ × Shift _). p.0 < n) c.args.columns.now) (sym (ap length c.as_slice-costs.ensures)) (numbers_within g.F.ExactField.value c.args.lp.now c.requires.well_formed c.args.columns.now c.requires.numbered (length c.args.dict.now.costs) c.requires.sized)

pub reduced_costs_of-requires-clause-few : goal.reduced_costs_of-requires-clause-few
reduced_costs_of-requires-clause-few g c =
    omega (arith, c.count_rows-first.ensures, ap count_of_rows c.as_slice.ensures, ap (sum_by (λ (column : Column _). form.rows_of_bounds column.lower column.upper)) c.as_slice-2.ensures, rows_few g.F.ExactField.value c.args.lp.now c.requires.well_formed)

pub reduced_costs_of-requires-clause-within_bound : goal.reduced_costs_of-requires-clause-within_bound
reduced_costs_of-requires-clause-within_bound g c =
    omega (arith, c.count_rows-first.ensures, ap count_of_rows c.as_slice.ensures, ap (sum_by (λ (column : Column _). form.rows_of_bounds column.lower column.upper)) c.as_slice-2.ensures, ap length (take_rest c.as_slice-costs.result.now (c.args.variables + 1)), length-drop (c.args.variables + 1) c.as_slice-costs.result.now, ap length c.as_slice-costs.ensures, c.requires.sized, c.requires.variables)

pub returns : goal.returns
returns g c =
    reduced_are_back g.F.ExactField.value g.F.ExactField.limit c.args.lp.now c.args.columns.now c.requires.numbered c.args.variables c.as_slice-2.result.now c.args.dict.now.costs c.as_slice-costs.result.now (take (length c.as_slice-costs.result.now - (c.args.variables + 1)) (drop (c.args.variables + 1) c.as_slice-costs.result.now)) c.count_rows-first.result c.reduced_costs_of.result c.as_slice-2.ensures c.as_slice-costs.ensures (take_rest c.as_slice-costs.result.now (c.args.variables + 1)) c.requires.variables (c.count_rows-first.ensures ∙ ap count_of_rows c.as_slice.ensures) c.reduced_costs_of.ensures
