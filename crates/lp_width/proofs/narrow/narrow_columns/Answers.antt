use Rattle.std.proofs.Common.{◌≡◌, ◌-◌, ◌^◌, map}
use Rattle.std.specs.List.{All}
use Rattle.gq_field.specs.Values.{half_value}
use Rattle.gq_frac.specs.Frac.{frac_value}
use Rattle.lp_core.specs.Numbers.{column_numbers, ColumnIsWithin}
use Rattle.lp_width.proofs.Narrowed.{narrows_whole, all_here, within_more, same_more}
use Rattle.lp_width.proofs.narrow.narrow_columns.Goals as goal

pub returns-in_err-narrow_column : goal.returns-in_err-narrow_column
returns-in_err-narrow_column c =
    narrows_whole (λ made. map (column_numbers half_value) made.items ≡ map (column_numbers frac_value) c.args.columns.now) (ColumnIsWithin (2 ^ 63 - 1) (column_numbers frac_value c.column-item.result)) (All (ColumnIsWithin (2 ^ 63 - 1)) (map (column_numbers frac_value) c.args.columns.now)) c.from_residual.result c.in_err-narrow_column.field-0.0 c.from_residual.ensures.1
    (all_here (ColumnIsWithin (2 ^ 63 - 1)) (column_numbers frac_value) c.args.columns.now c.loop-column.column-index c.column-item.result c.loop-column-test.true c.column-item.is) c.in_err-narrow_column.ensures

pub loop-column-preserved : goal.loop-column-preserved
loop-column-preserved c =
    record {
      same =
          same_more (ColumnIsWithin (2 ^ 63 - 1)) (column_numbers frac_value) c.args.columns.now c.loop-column.column-index c.column-item.result c.loop-column-test.true c.column-item.is (column_numbers half_value) c.loop-column.made.items c.push.new.self.items c.in_ok-narrow_column.field-0 c.loop-column.invariant.same c.in_ok-narrow_column.ensures.0 c.in_ok-push.ensures.items;
      within =
          within_more (ColumnIsWithin (2 ^ 63 - 1)) (column_numbers frac_value) c.args.columns.now c.loop-column.column-index c.column-item.result c.loop-column-test.true c.column-item.is c.loop-column.invariant.within c.in_ok-narrow_column.ensures.1;
    }
