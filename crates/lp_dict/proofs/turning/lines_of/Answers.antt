use Rattle.std.proofs.Common.{◌≡◌, ◌+◌, take, refl, sym, ◌∙◌, subst, subst₂, arith}
use Rattle.std.specs.Prelude.{IfSome}
use Rattle.std.proofs.lemmas.List.{take_all}
use Rattle.lp_fraction_dict.specs.Rows.{IsRow}
use Rattle.lp_fraction_dict.specs.Lines.{entries_of_rows}
use Rattle.lp_fraction_dict.proofs.Kept.{length-rows}
use Rattle.lp_dict.specs.InnerConversions.{all_rows, IsLineOf, AreLinesOf}
use Rattle.lp_dict.proofs.Parts.{lines_go, rows_go, row_ordered}
use Rattle.lp_dict.proofs.turning.lines_of.Goals as goal

pub line_of-requires : goal.line_of-requires
line_of-requires g c =
    subst₂ (λ n row. IsRow g.F.ExactField.value 0 (n + 2) row) (sym c.variables.ensures) (sym c.as_slice.ensures.value)
    (row_ordered g.F.ExactField.value c.args.dict.now c.keeps.ensures c.rows-rows.result.now c.loop-row.row-index c.row-item.result c.rows-rows.ensures c.loop-row-test.true c.row-item.is)

pub loop-row-preserved : goal.loop-row-preserved
loop-row-preserved g c =
    let found : IsLineOf g.F.ExactField.value (c.variables.result + 2) c.as_slice.result.now c.in-Some.line = subst (λ o. IfSome o (IsLineOf g.F.ExactField.value (c.variables.result + 2) c.as_slice.result.now)) c.in-Some.is c.in_ok-line.ensures in
    let of_row : IsLineOf g.F.ExactField.value (c.args.dict.now.variables + 2) c.row-item.result.items c.in-Some.line = subst₂ (λ n row. IsLineOf g.F.ExactField.value (n + 2) row c.in-Some.line) c.variables.ensures c.as_slice.ensures.value found in
    lines_go g.F.ExactField.value (c.args.dict.now.variables + 2) (take c.loop-row.row-index (entries_of_rows c.rows-rows.result.now)) (take (c.loop-row.row-index + 1) (entries_of_rows c.rows-rows.result.now)) c.row-item.result.items c.loop-row.lines.items c.push.new.self.items c.in-Some.line c.loop-row.invariant of_row
    (rows_go g.F.ExactField.value c.rows-rows.result.now c.loop-row.row-index c.row-item.result c.loop-row-test.true c.row-item.is) c.in_ok-push.ensures.items

pub returns : goal.returns
returns g c =
    let found : IsLineOf g.F.ExactField.value (c.variables.result + 2) c.objective.result.now c.in-Some-2.last = subst (λ o. IfSome o (IsLineOf g.F.ExactField.value (c.variables.result + 2) c.objective.result.now)) c.in-Some-2.is c.in_ok-last.ensures in
    let of_last : IsLineOf g.F.ExactField.value (c.args.dict.now.variables + 2) c.args.dict.now.objective c.in-Some-2.last = subst₂ (λ n row. IsLineOf g.F.ExactField.value (n + 2) row c.in-Some-2.last) c.variables.ensures c.objective.ensures found in
    let count = length-rows c.rows-rows.result.now in
    let rows_are : take c.loop-row.row-index (entries_of_rows c.rows-rows.result.now) ≡ c.args.dict.now.rows = take_all c.loop-row.row-index (entries_of_rows c.rows-rows.result.now) (omega arith) ∙ c.rows-rows.ensures in
    lines_go g.F.ExactField.value (c.args.dict.now.variables + 2) c.args.dict.now.rows (all_rows c.args.dict.now) c.args.dict.now.objective c.loop-row.lines.items c.push-2.new.self.items c.in-Some-2.last
    (subst (λ rs. AreLinesOf g.F.ExactField.value (c.args.dict.now.variables + 2) rs c.loop-row.lines.items) rows_are c.loop-row.invariant) of_last refl c.in_ok-push-2.ensures.items
