use Rattle.std.proofs.Common.{[], sym, subst, ◌∙◌, arith}
use Rattle.lp_fraction_dict.specs.Rows.{IsRow, number_in, IsFirstMisfit}
use Rattle.lp_fraction_dict.specs.Lines.{entries_of_rows, IsFirstLine}
use Rattle.lp_fraction_dict.proofs.Kept.{length-rows}
use Rattle.lp_fraction_dict.proofs.Exchanging.{row_at_place, rows-put, length-put, so_far_goes, so_far_stops, so_far_ends, on_fault}
use Rattle.lp_fraction_dict.proofs.exchange.exchange_rows.Goals as goal

pub exchange_row-requires : goal.exchange_row-requires
exchange_row-requires g c =
    let s = c.loop-place.invariant.1 c.requires.0 c.requires.1 c.requires.2 in
    (c.requires.0, subst (IsRow g.F.ExactField.value 0 c.requires.0) (sym (row_at_place c.loop-place.rows.items c.loop-place.place c.index_mut-row.result.now (omega arith) c.index_mut-row.ensures.value [] ∙ s.rest c.loop-place.place (omega arith))) (c.requires.1 c.loop-place.place))

pub returns-in-Err : goal.returns-in-Err
returns-in-Err g c =
    λ high h o. (
      tt,
      on_fault (IsFirstLine g.F.ExactField.value g.F.ExactField.limit high c.args.column c.args.pivot_row.now (entries_of_rows c.args.rows.now.items)) (IsFirstMisfit g.F.ExactField.value g.F.ExactField.limit high c.index_mut-row.result.now.items (number_in g.F.ExactField.value c.index_mut-row.result.now.items c.args.column) c.args.pivot_row.now) c.loop-place.place c.in-Err.fault c.in_line.result c.in_line.ensures
          ((c.in-Err.ensures high (subst (IsRow g.F.ExactField.value 0 high) (sym ((row_at_place c.loop-place.rows.items c.loop-place.place c.index_mut-row.result.now (omega arith) c.index_mut-row.ensures.value []) ∙ (c.loop-place.invariant.1 high h o).rest c.loop-place.place (omega arith))) (h c.loop-place.place)) o).1)
          (λ at p m. so_far_stops g.F.ExactField.value g.F.ExactField.limit high c.args.column c.args.pivot_row.now (entries_of_rows c.args.rows.now.items) (entries_of_rows c.loop-place.rows.items) c.loop-place.place c.index_mut-row.result.now.items at p (c.loop-place.invariant.1 high h o) (omega (arith, length-rows c.args.rows.now.items)) (row_at_place c.loop-place.rows.items c.loop-place.place c.index_mut-row.result.now (omega arith) c.index_mut-row.ensures.value []) m),
    )

pub loop-place-preserved : goal.loop-place-preserved
loop-place-preserved g c = (
  length-put c.loop-place.rows.items c.loop-place.place c.exchange_row.new.row ∙ c.loop-place.invariant.0,
  λ high h o. so_far_goes g.F.ExactField.value g.F.ExactField.limit high c.args.column c.args.pivot_row.now (entries_of_rows c.args.rows.now.items) (entries_of_rows c.loop-place.rows.items) _ c.loop-place.place c.index_mut-row.result.now.items c.exchange_row.new.row.items (c.loop-place.invariant.1 high h o) (omega (arith, length-rows c.args.rows.now.items)) (row_at_place c.loop-place.rows.items c.loop-place.place c.index_mut-row.result.now (omega arith) c.index_mut-row.ensures.value [])
      ((c.in_default.ensures high (subst (IsRow g.F.ExactField.value 0 high) (sym ((row_at_place c.loop-place.rows.items c.loop-place.place c.index_mut-row.result.now (omega arith) c.index_mut-row.ensures.value []) ∙ (c.loop-place.invariant.1 high h o).rest c.loop-place.place (omega arith))) (h c.loop-place.place)) o).0) (rows-put c.loop-place.rows.items c.loop-place.place c.exchange_row.new.row),
)

pub returns : goal.returns
returns g c =
    λ high h o. (so_far_ends g.F.ExactField.value g.F.ExactField.limit high c.args.column c.args.pivot_row.now (entries_of_rows c.args.rows.now.items) (entries_of_rows c.loop-place.rows.items) c.loop-place.place (c.loop-place.invariant.1 high h o) (omega (arith, length-rows c.args.rows.now.items, c.args.rows.now.ok.0)), tt)
