use Rattle.lp_integer_dict.specs.Whole.{integer_dictionary as dictionary_of}
use Rattle.lp_dict.proofs.Finals.{changes_are}
use Rattle.lp_dict.proofs.last.ray.Goals as goal

pub returns : goal.returns
returns g c = changes_are (dictionary_of c.args.rows.now) c.keeps.ensures.proper g.F.ExactField.value c.args.enter c.in_ok-numbers.numbers.items c.changes.result.items c.requires.free c.in_ok-numbers.ensures c.changes.ensures
