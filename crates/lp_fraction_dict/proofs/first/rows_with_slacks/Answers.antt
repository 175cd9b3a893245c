use Rattle.std.proofs.Common.{◌+◌, ap, sym, subst, ◌∙◌, map, arith}
use Rattle.std.proofs.lemmas.List.{get_or-map}
use Rattle.lp_core.specs.Dictionary.{no_row}
use Rattle.lp_std.specs.declared.types.StdRow.{StdRow}
use Rattle.lp_std.specs.Meaning.{entries_value, row_value}
use Rattle.lp_fraction_dict.specs.Lines.{entries_of_rows}
use Rattle.lp_fraction_dict.specs.First.{InOrder}
use Rattle.lp_fraction_dict.proofs.Filling.{first_goes, in_order_to, rows_push}
use Rattle.lp_fraction_dict.proofs.first.rows_with_slacks.Goals as goal

pub row_with_slack-requires-clause-in_order : goal.row_with_slack-requires-clause-in_order
row_with_slack-requires-clause-in_order g c =
    in_order_to (entries_value g.F.ExactField.value c.index-rows-place.result.entries) 1 c.args.slack (c.args.slack + c.loop-place.place)
    (subst (λ (row : StdRow _). InOrder 1 c.args.slack (entries_value g.F.ExactField.value row.entries)) (sym c.index-rows-place.is) (c.requires.in_order c.loop-place.place c.index-rows-place.result c.loop-place-test.true)) (omega arith)

pub loop-place-preserved : goal.loop-place-preserved
loop-place-preserved g c =
    let row = c.index-rows-place.result in
    first_goes g.F.ExactField.value c.args.needed c.args.slack (map (row_value g.F.ExactField.value) c.args.rows.now) (entries_of_rows c.loop-place.made.items) (entries_of_rows c.push.new.self.items) c.loop-place.place (row_value g.F.ExactField.value row) c.in_ok-row_with_slack.field-0.items c.loop-place.invariant
    (ap (row_value g.F.ExactField.value) c.index-rows-place.is ∙ sym (get_or-map (row_value g.F.ExactField.value) c.args.rows.now c.loop-place.place row no_row c.loop-place-test.true)) c.in_ok-row_with_slack.ensures
    (ap entries_of_rows c.in_ok-push.ensures.items ∙ rows_push c.loop-place.made.items c.in_ok-row_with_slack.field-0)
