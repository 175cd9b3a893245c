use Rattle.std.proofs.Common.{arith, ◌≤◌}
use Rattle.std.proofs.lemmas.Bool.{both_ways}
use Rattle.lp_fraction_dict.proofs.Improving.{improves_tells}
use Rattle.lp_dict.specs.Tableau.{dictionary}
use Rattle.lp_dict.proofs.dict.Dict.improves.Goals as goal

pub returns : goal.returns
returns g c =
    let most : c.args.v ≤ c.args.self.now.variables = omega arith in
    improves_tells (dictionary g.F.ExactField.value c.args.self.now) c.args.v (g.F.ExactField.value c.coefficient.result) c.is_above_zero.result c.if-v-eq0.false most (λ h. both_ways c.is_basic.result c.if-is_basic.false (c.is_basic.ensures.1 h)) c.is_above_zero.ensures c.coefficient.ensures.priced
