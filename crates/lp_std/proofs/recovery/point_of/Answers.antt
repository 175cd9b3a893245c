use Rattle.std.proofs.Common.{◌≤◌, ◌<◌, ◌+◌, ◌^◌, ℕ, length, sym, ap, subst}
use Rattle.std.specs.List.{All}
use Rattle.std.proofs.lemmas.Result.{err_from_is_err_and}
use Rattle.lp_core.specs.declared.program.Row.{Row}
use Rattle.lp_core.specs.StandardForm as form
use Rattle.lp_std.specs.declared.types.Shift.{Shift}
use Rattle.lp_std.specs.Meaning.{shift_value}
use Rattle.lp_std.proofs.Recovers.{entries_few, widths_within, levels_stopped, levels_are, entries_there, rows_stopped, point_fits, sums_are}
use Rattle.lp_std.proofs.recovery.point_of.Goals as goal

pub levels_of-requires : goal.levels_of-requires
levels_of-requires g c =
    subst (λ n. All (λ (p : ℕ × Shift _). p.0 + form.width (shift_value g.F.ExactField.value p.1) ≤ n) c.args.columns.now) (sym (ap length c.as_slice.ensures)) (widths_within g.F.ExactField.value c.args.lp.now c.requires.well_formed c.args.columns.now c.requires.numbered (length c.args.dict.now.values) c.requires.sized)

pub returns-in_err-levels-clause-err : goal.returns-in_err-levels-clause-err
returns-in_err-levels-clause-err g c =
    let p = err_from_is_err_and c.from_residual.result c.from_residual.ensures.1 in
    rw (p.1, p.2) (levels_stopped g.F.ExactField.value g.F.ExactField.limit c.args.lp.now c.args.columns.now c.requires.numbered c.args.dict.now c.as_slice.result.now c.as_slice.ensures c.in_err-levels.field-0.0 c.in_err-levels.ensures)

pub row_levels_of-requires-clause-there : goal.row_levels_of-requires-clause-there
row_levels_of-requires-clause-there g c =
    entries_there g.F.ExactField.value g.F.ExactField.limit c.args.lp.now c.args.columns.now c.requires.numbered c.args.dict.now c.as_slice.result.now c.as_slice.ensures c.in_ok-levels.levels.items c.in_ok-levels.ensures.0 c.in_ok-levels.ensures.1 c.as_slice-3.result.now c.as_slice-3.ensures.value c.as_slice-2.result.now c.as_slice-2.ensures c.requires.well_formed

pub row_levels_of-requires-clause-few : goal.row_levels_of-requires-clause-few
row_levels_of-requires-clause-few g c =
    subst (λ rows. All (λ (row : Row _). length row.entries < 2 ^ 32) rows) (sym c.as_slice-2.ensures) (entries_few g.F.ExactField.value c.args.lp.now c.requires.well_formed)

pub returns-in_err-row_levels-clause-err : goal.returns-in_err-row_levels-clause-err
returns-in_err-row_levels-clause-err g c =
    let p = err_from_is_err_and c.from_residual-in_err-row_levels.result c.from_residual-in_err-row_levels.ensures.1 in
    rw (p.1, p.2) (rows_stopped g.F.ExactField.value g.F.ExactField.limit c.args.lp.now c.args.columns.now c.requires.numbered c.args.dict.now c.as_slice.result.now c.as_slice.ensures c.in_ok-levels.levels.items c.in_ok-levels.ensures.0 c.in_ok-levels.ensures.1 c.as_slice-3.result.now c.as_slice-3.ensures.value c.as_slice-2.result.now c.as_slice-2.ensures c.in_err-row_levels.field-0.0 c.in_err-row_levels.ensures)

pub returns-clause-levels : goal.returns-clause-levels
returns-clause-levels g c =
    levels_are g.F.ExactField.value g.F.ExactField.limit c.args.lp.now c.args.columns.now c.requires.numbered c.args.dict.now c.as_slice.result.now c.as_slice.ensures c.in_ok-levels.levels.items c.in_ok-levels.ensures.0 c.in_ok-levels.ensures.1

pub returns-clause-row_levels : goal.returns-clause-row_levels
returns-clause-row_levels g c =
    sums_are g.F.ExactField.value g.F.ExactField.limit c.args.lp.now c.args.columns.now c.requires.numbered c.args.dict.now c.as_slice.result.now c.as_slice.ensures c.in_ok-levels.levels.items c.in_ok-levels.ensures.0 c.in_ok-levels.ensures.1 c.as_slice-3.result.now c.as_slice-3.ensures.value c.as_slice-2.result.now c.as_slice-2.ensures c.in_ok-row_levels.row_levels.items c.in_ok-row_levels.ensures.1

pub returns-clause-all_fit : goal.returns-clause-all_fit
returns-clause-all_fit g c =
    point_fits g.F.ExactField.value g.F.ExactField.limit c.args.lp.now c.args.columns.now c.requires.numbered c.args.dict.now c.as_slice.result.now c.as_slice.ensures c.in_ok-levels.levels.items c.in_ok-levels.ensures.0 c.in_ok-levels.ensures.1 c.as_slice-3.result.now c.as_slice-3.ensures.value c.as_slice-2.result.now c.as_slice-2.ensures c.in_ok-row_levels.ensures.0
