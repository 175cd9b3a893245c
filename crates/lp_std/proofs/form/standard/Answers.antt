use Rattle.std.proofs.Common.{ap, length, subst, None, arith}
use Rattle.lp_core.specs.Proofs.{FirstCrossed}
use Rattle.lp_std.proofs.Shapes.{columns_few}
use Rattle.lp_std.proofs.Formed.{no_form, form_fits}
use Rattle.lp_std.proofs.form.standard.Goals as goal

pub first_crossed-requires : goal.first_crossed-requires
first_crossed-requires g c =
    omega (arith, ap length c.as_slice.ensures, columns_few g.F.ExactField.value c.args.lp.now c.requires.well_formed)

pub returns-clause-all_fit : goal.returns-clause-all_fit
returns-clause-all_fit g c =
    let none = subst (λ columns. FirstCrossed g.F.ExactField.value columns None) c.as_slice.ensures c.in_default.ensures in
    form_fits g.F.ExactField.value g.F.ExactField.limit c.args.lp.now none c.formed.result c.formed.ensures.all_fit

pub returns-clause-stop : goal.returns-clause-stop
returns-clause-stop g c =
    let none = subst (λ columns. FirstCrossed g.F.ExactField.value columns None) c.as_slice.ensures c.in_default.ensures in
    no_form g.F.ExactField.value g.F.ExactField.limit c.args.lp.now none c.formed.result c.formed.ensures.err
