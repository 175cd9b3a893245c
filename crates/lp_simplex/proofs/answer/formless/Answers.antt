use Rattle.std.proofs.Common.{inr, refl, subst}
use Rattle.lp_std.specs.Meaning.{HasNoForm}
use Rattle.lp_simplex.proofs.Formless.{crossed_is_formless}
use Rattle.lp_simplex.proofs.answer.formless.Goals as goal

pub crossed-requires : goal.crossed-requires
crossed-requires g c = subst (HasNoForm g.F.ExactField.value g.F.ExactField.limit c.args.lp.now) c.in-Crossed.is c.requires

pub returns-in-Crossed : goal.returns-in-Crossed
returns-in-Crossed g c = crossed_is_formless g.F.ExactField.value g.F.ExactField.limit c.args.lp.now c.crossed.result c.crossed.ensures

pub returns-in-Limit : goal.returns-in-Limit
returns-in-Limit g c =
    let h = subst (HasNoForm g.F.ExactField.value g.F.ExactField.limit c.args.lp.now) c.in-Limit.is c.requires in
    inr (h.0, (_, refl, h.1))
