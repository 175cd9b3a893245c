use Rattle.std.proofs.Common.{map, ap, ◌∙◌}
use Rattle.lp_dict.specs.Tableau.{dictionary}
use Rattle.lp_fraction_dict.proofs.Finals.{read_is}
use Rattle.lp_dict.proofs.dict.Dict.done.Goals as goal

pub returns-clause-read : goal.returns-clause-read
returns-clause-read g c =
    read_is (dictionary g.F.ExactField.value c.args.self.now) c.args.enter (map g.F.ExactField.value c.new.result) (map g.F.ExactField.value c.new-2.result) (map g.F.ExactField.value c.new-3.result) (ap (map g.F.ExactField.value) c.new.ensures ∙ c.in_ok-values.ensures) (ap (map g.F.ExactField.value) c.new-2.ensures ∙ c.in_ok-costs.ensures) (ap (map g.F.ExactField.value) c.new-3.ensures ∙ c.in_ok-ray.ensures)
