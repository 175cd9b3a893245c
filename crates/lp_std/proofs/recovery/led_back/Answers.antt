use Rattle.std.proofs.Common.{◌≤◌, ◌∙◌, sym, ap, subst}
use Rattle.std.specs.Prelude.{sum_by}
use Rattle.lp_core.specs.StandardForm as form
use Rattle.lp_std.specs.declared.types.Shift.{Shift}
use Rattle.lp_std.specs.Meaning.{shift_value}
use Rattle.lp_std.proofs.Answered.{shifts_within, shifts_count}
use Rattle.lp_std.proofs.recovery.led_back.Goals as goal

pub placed-requires : goal.placed-requires
placed-requires g c =
    subst (λ xs. sum_by (λ (s : Shift _). form.width (shift_value g.F.ExactField.value s)) xs ≤ 3000) (sym c.as_slice.ensures) (shifts_within g.F.ExactField.value c.args.lp.now c.requires.well_formed c.args.s.now c.requires.form.1)

pub variables_of-variables-requires : goal.variables_of-variables-requires
variables_of-variables-requires g c =
    subst (λ xs. sum_by (λ (s : Shift _). form.width (shift_value g.F.ExactField.value s)) xs ≤ 3000) (sym c.as_slice-2.ensures) (shifts_within g.F.ExactField.value c.args.lp.now c.requires.well_formed c.args.s.now c.requires.form.1)

pub optimum-requires-clause-variables : goal.optimum-requires-clause-variables
optimum-requires-clause-variables g c =
    c.variables_of-variables.ensures ∙ ap (sum_by (λ (s : Shift _). form.width (shift_value g.F.ExactField.value s))) c.as_slice-2.ensures ∙ shifts_count g.F.ExactField.value c.args.lp.now c.requires.well_formed c.args.s.now c.requires.form.1

pub infeasible-requires-clause-variables : goal.infeasible-requires-clause-variables
infeasible-requires-clause-variables g c =
    c.variables_of-variables.ensures ∙ ap (sum_by (λ (s : Shift _). form.width (shift_value g.F.ExactField.value s))) c.as_slice-2.ensures ∙ shifts_count g.F.ExactField.value c.args.lp.now c.requires.well_formed c.args.s.now c.requires.form.1
