use Rattle.lp_dict.specs.Tableau.{dictionary}
use Rattle.lp_fraction_dict.proofs.Finals.{read_in_one, none_from}
use Rattle.lp_dict.proofs.dict.Dict.kind.Goals as goal

pub returns-then-is_basic : goal.returns-then-is_basic
returns-then-is_basic g c =
    read_in_one (dictionary g.F.ExactField.value c.args.self.now) c.args.enter c.requires (none_from c.args.enter c.is_some.result c.is_some.ensures c.if-is_some.false) (c.is_basic.ensures.0 c.if-is_basic.true)
