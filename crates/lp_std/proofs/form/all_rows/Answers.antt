use Rattle.std.proofs.Common.{◌<◌, sym, ap, ◌∙◌, subst, length, arith}
use Rattle.std.specs.List.{All}
use Rattle.std.proofs.lemmas.Result.{err_from_is_err_and}
use Rattle.lp_core.specs.declared.program.Row.{Row}
use Rattle.lp_core.specs.Steps.{count_of_rows}
use Rattle.lp_core.proofs.Points.{entries_within}
use Rattle.lp_std.proofs.Shapes.{rows_few, columns_few, placed_sized, placed_low}
use Rattle.lp_std.proofs.Formed.{rows_stopped, bound_left, bounds_stopped, all_made}
use Rattle.lp_std.proofs.form.all_rows.Goals as goal

pub rows_of-requires-clause-within_bound : goal.rows_of-requires-clause-within_bound
rows_of-requires-clause-within_bound g c =
    omega (arith, ap count_of_rows c.as_slice.ensures, rows_few g.F.ExactField.value c.args.lp.now c.requires.well_formed)

pub rows_of-requires-clause-few : goal.rows_of-requires-clause-few
rows_of-requires-clause-few g c =
    omega (arith, placed_sized g.F.ExactField.value c.args.lp.now c.args.columns.now c.requires.numbered, columns_few g.F.ExactField.value c.args.lp.now c.requires.well_formed)

pub rows_of-requires-clause-low : goal.rows_of-requires-clause-low
rows_of-requires-clause-low g c = placed_low g.F.ExactField.value c.args.lp.now c.args.columns.now c.requires.numbered c.requires.well_formed

pub rows_of-requires-clause-there : goal.rows_of-requires-clause-there
rows_of-requires-clause-there g c =
    subst (λ rows. All (λ (row : Row _). All (λ e. e.0 < length c.args.columns.now) row.entries) rows) (sym c.as_slice.ensures) (entries_within g.F.ExactField.value c.args.lp.now (length c.args.columns.now) c.requires.well_formed (placed_sized g.F.ExactField.value c.args.lp.now c.args.columns.now c.requires.numbered))

pub returns-in_err-made-clause-err : goal.returns-in_err-made-clause-err
returns-in_err-made-clause-err g c =
    let p = err_from_is_err_and c.from_residual.result c.from_residual.ensures.1 in
    rw (p.1, p.2) (rows_stopped g.F.ExactField.value g.F.ExactField.limit c.args.lp.now c.args.columns.now c.requires.numbered c.as_slice.result.now c.as_slice.ensures c.in_err-made.field-0.0 c.in_err-made.ensures.err)

pub with_bound_rows-requires-clause-within_bound : goal.with_bound_rows-requires-clause-within_bound
with_bound_rows-requires-clause-within_bound g c =
    bound_left g.F.ExactField.value g.F.ExactField.limit c.args.lp.now c.args.columns.now c.requires.numbered c.as_slice.result.now c.as_slice.ensures c.in_ok-made.made.items c.in_ok-made.ensures.ok.0 c.in_ok-made.ensures.ok.1 c.in_ok-made.ensures.ok.2 c.as_slice-2.result.now c.as_slice-2.ensures c.requires.well_formed

pub with_bound_rows-requires-clause-few : goal.with_bound_rows-requires-clause-few
with_bound_rows-requires-clause-few g c =
    omega (arith, placed_sized g.F.ExactField.value c.args.lp.now c.args.columns.now c.requires.numbered, columns_few g.F.ExactField.value c.args.lp.now c.requires.well_formed)

pub with_bound_rows-requires-clause-sized : goal.with_bound_rows-requires-clause-sized
with_bound_rows-requires-clause-sized g c =
    ap length c.as_slice-2.ensures ∙ sym (placed_sized g.F.ExactField.value c.args.lp.now c.args.columns.now c.requires.numbered)

pub returns-in_err-all-clause-err : goal.returns-in_err-all-clause-err
returns-in_err-all-clause-err g c =
    let p = err_from_is_err_and c.from_residual-in_err-all.result c.from_residual-in_err-all.ensures.1 in
    rw (p.1, p.2) (bounds_stopped g.F.ExactField.value g.F.ExactField.limit c.args.lp.now c.args.columns.now c.requires.numbered c.as_slice.result.now c.as_slice.ensures c.in_ok-made.made.items c.in_ok-made.ensures.ok.0 c.in_ok-made.ensures.ok.1 c.in_ok-made.ensures.ok.2 c.as_slice-2.result.now c.as_slice-2.ensures c.in_err-all.field-0.0 c.in_err-all.ensures.err)

pub returns-clause-ok : goal.returns-clause-ok
returns-clause-ok g c =
    all_made g.F.ExactField.value g.F.ExactField.limit c.args.lp.now c.args.columns.now c.requires.numbered c.as_slice.result.now c.as_slice.ensures c.in_ok-made.made.items c.in_ok-made.ensures.ok.0 c.in_ok-made.ensures.ok.1 c.in_ok-made.ensures.ok.2 c.as_slice-2.result.now c.as_slice-2.ensures c.in_ok-all.all.items c.in_ok-all.ensures.ok
