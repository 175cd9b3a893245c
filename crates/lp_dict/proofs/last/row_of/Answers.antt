use Rattle.lp_integer_dict.specs.Whole.{integer_dictionary as dictionary_of}
use Rattle.lp_dict.proofs.Finals.{row_more}
use Rattle.lp_dict.proofs.last.row_of.Goals as goal

pub loop-variable-preserved : goal.loop-variable-preserved
loop-variable-preserved g c =
    row_more (dictionary_of c.args.rows.now) c.keeps.ensures.proper g.F.ExactField.value c.args.row c.loop-variable.variable c.loop-variable.list.items c.push.new.self.items c.number_at.result c.loop-variable.invariant c.number_at.ensures c.in_ok-push.ensures.items
