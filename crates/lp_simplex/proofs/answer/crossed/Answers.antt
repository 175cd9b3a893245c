use Rattle.std.proofs.Common.{◌∙◌, map, ap}
use Rattle.lp_simplex.proofs.Formless.{crossed_ends}
use Rattle.lp_simplex.proofs.answer.crossed.Goals as goal

pub returns : goal.returns
returns g c =
    crossed_ends g.F.ExactField.value c.args.lp.now c.args.column c.len.result c.new.result c.requires (ap (map g.F.ExactField.value) c.new.ensures ∙ c.in_ok-duals.ensures) c.len.ensures
