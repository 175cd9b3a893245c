use Rattle.std.proofs.Common.{arith}
use Rattle.lp_fraction_dict.proofs.Filling.{filled_more}
use Rattle.lp_integer_dict.specs.Whole.{integer_dictionary as dictionary_of}
use Rattle.lp_dict.proofs.turning.exact_row.Goals as goal

pub loop-column-preserved : goal.loop-column-preserved
loop-column-preserved g c =
    filled_more g.F.ExactField.value ((dictionary_of c.args.rows.now).numbers c.args.row) c.loop-column.made.items c.push_unless_zero.new.row.items c.loop-column.column c.loop-column.column c.number_at-number.result c.loop-column.invariant (omega arith) (λ k from to. absurd (omega arith)) c.number_at-number.ensures c.in_ok-push_unless_zero.ensures
