use Rattle.std.proofs.Common.{ap, ◌∙◌}
use Rattle.lp_fraction_dict.specs.Lines.{entries_of_rows}
use Rattle.lp_fraction_dict.proofs.Filling.{rows_push}
use Rattle.lp_integer_dict.specs.Whole.{integer_dictionary as dictionary_of}
use Rattle.lp_dict.proofs.Filled.{rows_more}
use Rattle.lp_dict.proofs.turning.exact_rows.Goals as goal

pub loop-row-preserved : goal.loop-row-preserved
loop-row-preserved g c =
    rows_more g.F.ExactField.value (dictionary_of c.args.rows.now) (entries_of_rows c.loop-row.made.items) (entries_of_rows c.push.new.self.items) c.loop-row.row c.in_ok-exact_row.field-0.items c.loop-row.invariant c.in_ok-exact_row.ensures (ap entries_of_rows c.in_ok-push.ensures.items ∙ rows_push c.loop-row.made.items c.in_ok-exact_row.field-0)
