use Rattle.lp_form.proofs.Results.{negated-Gives}
use Rattle.lp_form.proofs.form.Form.sub.Goals as goal

pub returns : goal.returns
returns g c =
    negated-Gives g.F.ExactField.value g.F.ExactField.limit c.args.self.now c.args.o.now c.in_ok-negated.negated c.add.result c.in_ok-negated.ensures c.add.ensures
