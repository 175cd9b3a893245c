use Rattle.std.proofs.Common.{◌≤◌, ◌<◌, ◌+◌, ◌^◌, map, sym, ap, ◌∙◌, subst, arith}
use Rattle.std.specs.Prelude.{sum_by}
use Rattle.std.proofs.lemmas.List.Elements.{All-get_or}
use Rattle.lp_core.specs.StandardForm as form
use Rattle.lp_std.specs.declared.types.Shift.{Shift}
use Rattle.lp_std.specs.Meaning.{shift_value}
use Rattle.lp_std.proofs.Shapes.{shift_for, shifts_few, shifts_counted, placed_sized, placed_low}
use Rattle.lp_std.proofs.Formed.{standard_is}
use Rattle.lp_std.proofs.form.formed.Goals as goal

pub placed-requires : goal.placed-requires
placed-requires g c =
    let are = c.in_ok-shifts.ensures ∙ ap (map (shift_for g.F.ExactField.value)) c.as_slice.ensures in
    subst (λ xs. sum_by (λ (s : Shift _). form.width (shift_value g.F.ExactField.value s)) xs ≤ 3000) (sym c.as_slice-2.ensures.value) (shifts_few g.F.ExactField.value c.args.lp.now c.in_ok-shifts.shifts.items are c.requires.well_formed)

pub variables_of-count-requires : goal.variables_of-count-requires
variables_of-count-requires g c =
    let are = c.in_ok-shifts.ensures ∙ ap (map (shift_for g.F.ExactField.value)) c.as_slice.ensures in
    subst (λ xs. sum_by (λ (s : Shift _). form.width (shift_value g.F.ExactField.value s)) xs ≤ 3000) (sym c.as_slice-4.ensures.value) (shifts_few g.F.ExactField.value c.args.lp.now c.in_ok-shifts.shifts.items are c.requires.well_formed)

pub index-place-requires : goal.index-place-requires
index-place-requires g c =
    let are = c.in_ok-shifts.ensures ∙ ap (map (shift_for g.F.ExactField.value)) c.as_slice.ensures in
    let numbered = c.in_ok-columns.ensures ∙ ap (λ xs. form.numbered 1 (map (shift_value g.F.ExactField.value) xs)) c.as_slice-2.ensures.value ∙ ap (form.numbered 1) are in
    omega (arith, placed_sized g.F.ExactField.value c.args.lp.now c.in_ok-columns.columns.items numbered, c.requires.well_formed.objective, c.in_ok-columns.columns.ok.0)

pub objective_at-requires-clause-few : goal.objective_at-requires-clause-few
objective_at-requires-clause-few g c =
    let are = c.in_ok-shifts.ensures ∙ ap (map (shift_for g.F.ExactField.value)) c.as_slice.ensures in
    let few = subst (λ xs. sum_by (λ (s : Shift _). form.width (shift_value g.F.ExactField.value s)) xs ≤ 3000) (sym c.as_slice-4.ensures.value) (shifts_few g.F.ExactField.value c.args.lp.now c.in_ok-shifts.shifts.items are c.requires.well_formed) in
    subst (λ n. n ≤ 3000) (sym c.variables_of-count.ensures) few

pub objective_at-requires-clause-low : goal.objective_at-requires-clause-low
objective_at-requires-clause-low g c =
    let are = c.in_ok-shifts.ensures ∙ ap (map (shift_for g.F.ExactField.value)) c.as_slice.ensures in
    let numbered = c.in_ok-columns.ensures ∙ ap (λ xs. form.numbered 1 (map (shift_value g.F.ExactField.value) xs)) c.as_slice-2.ensures.value ∙ ap (form.numbered 1) are in
    subst (λ p. p.0 + 1 < 2 ^ 32) (sym c.index-place.ensures) (All-get_or (λ p. p.0 + 1 < 2 ^ 32) c.in_ok-columns.columns.items c.args.lp.now.objective c.index-place.result.now (omega (arith, placed_sized g.F.ExactField.value c.args.lp.now c.in_ok-columns.columns.items numbered, c.requires.well_formed.objective)) (placed_low g.F.ExactField.value c.args.lp.now c.in_ok-columns.columns.items numbered c.requires.well_formed))

pub returns-clause-form : goal.returns-clause-form
returns-clause-form g c =
    let are = c.in_ok-shifts.ensures ∙ ap (map (shift_for g.F.ExactField.value)) c.as_slice.ensures in
    let numbered = c.in_ok-columns.ensures ∙ ap (λ xs. form.numbered 1 (map (shift_value g.F.ExactField.value) xs)) c.as_slice-2.ensures.value ∙ ap (form.numbered 1) are in
    let counted = c.variables_of-count.ensures ∙ ap (sum_by (λ (s : Shift _). form.width (shift_value g.F.ExactField.value s))) c.as_slice-4.ensures.value ∙ shifts_counted g.F.ExactField.value c.args.lp.now c.in_ok-shifts.shifts.items are in
    rw (c.new.ensures, c.new-2.ensures, c.new-3.ensures) (standard_is g.F.ExactField.value c.args.lp.now c.in_ok-shifts.shifts.items are c.in_ok-columns.columns.items numbered c.index-place.result.now (omega (arith, placed_sized g.F.ExactField.value c.args.lp.now c.in_ok-columns.columns.items numbered, c.requires.well_formed.objective)) c.index-place.ensures c.in_ok-rows.rows.items c.in_ok-objective.objective.coefficients.items c.in_ok-objective.objective.constant c.variables_of-count.result c.in_ok-rows.ensures.ok.1 counted c.in_ok-objective.ensures.coefficients c.in_ok-objective.ensures.constant)
