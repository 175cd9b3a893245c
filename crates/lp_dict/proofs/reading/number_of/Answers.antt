use Rattle.std.proofs.Common.{◌+◌, sym, ap, ◌∙◌, subst}
use Rattle.lp_fraction_dict.specs.Rows.{IsRow, number_in}
use Rattle.lp_dict.proofs.Readings.{row_is, row_ordered, objective_is}
use Rattle.lp_dict.proofs.reading.number_of.Goals as goal

pub number_in_row-requires : goal.number_in_row-requires
number_in_row-requires g c = (
  c.args.dict.now.variables + 2,
  subst (IsRow g.F.ExactField.value 0 (c.args.dict.now.variables + 2)) (sym c.as_slice.ensures.value)
      (row_ordered g.F.ExactField.value c.args.dict.now c.keeps.ensures c.rows-rows.result.now c.rows-rows.ensures c.args.row c.index-rows-row.result c.if-row-rows.true c.index-rows-row.is),
)

pub returns-then-row-rows : goal.returns-then-row-rows
returns-then-row-rows g c =
    c.number_in_row.ensures
    ∙ ap (λ r. number_in g.F.ExactField.value r c.args.column) (c.as_slice.ensures.value ∙ row_is g.F.ExactField.value c.args.dict.now c.keeps.ensures c.rows-rows.result.now c.rows-rows.ensures c.args.row c.index-rows-row.result c.if-row-rows.true c.index-rows-row.is)

pub number_in_row-requires-2 : goal.number_in_row-requires-2
number_in_row-requires-2 g c = (c.args.dict.now.variables + 2, subst (IsRow g.F.ExactField.value 0 (c.args.dict.now.variables + 2)) (sym c.objective.ensures) c.keeps.ensures.objective)

pub returns : goal.returns
returns g c =
    c.number_in_row-2.ensures
    ∙ ap (λ r. number_in g.F.ExactField.value r c.args.column) (c.objective.ensures ∙ objective_is g.F.ExactField.value c.args.dict.now c.keeps.ensures c.rows-rows.result.now c.rows-rows.ensures c.args.row c.if-row-rows.false)
