use Rattle.std.proofs.Common.{◌≡◌, ◌-◌, ◌^◌, map}
use Rattle.std.specs.List.{All}
use Rattle.gq_field.specs.Values.{half_value}
use Rattle.gq_frac.specs.Frac.{frac_value}
use Rattle.lp_core.specs.Numbers.{row_numbers, RowIsWithin}
use Rattle.lp_width.proofs.Narrowed.{narrows_whole, all_here, within_more, same_more}
use Rattle.lp_width.proofs.narrow.narrow_rows.Goals as goal

pub returns-in_err-narrow_row : goal.returns-in_err-narrow_row
returns-in_err-narrow_row c =
    narrows_whole (λ made. map (row_numbers half_value) made.items ≡ map (row_numbers frac_value) c.args.rows.now) (RowIsWithin (2 ^ 63 - 1) (row_numbers frac_value c.row-item.result)) (All (RowIsWithin (2 ^ 63 - 1)) (map (row_numbers frac_value) c.args.rows.now)) c.from_residual.result c.in_err-narrow_row.field-0.0 c.from_residual.ensures.1
    (all_here (RowIsWithin (2 ^ 63 - 1)) (row_numbers frac_value) c.args.rows.now c.loop-row.row-index c.row-item.result c.loop-row-test.true c.row-item.is) c.in_err-narrow_row.ensures

pub loop-row-preserved : goal.loop-row-preserved
loop-row-preserved c =
    record {
      same =
          same_more (RowIsWithin (2 ^ 63 - 1)) (row_numbers frac_value) c.args.rows.now c.loop-row.row-index c.row-item.result c.loop-row-test.true c.row-item.is (row_numbers half_value) c.loop-row.made.items c.push.new.self.items c.in_ok-narrow_row.field-0 c.loop-row.invariant.same c.in_ok-narrow_row.ensures.0 c.in_ok-push.ensures.items;
      within =
          within_more (RowIsWithin (2 ^ 63 - 1)) (row_numbers frac_value) c.args.rows.now c.loop-row.row-index c.row-item.result c.loop-row-test.true c.row-item.is c.loop-row.invariant.within c.in_ok-narrow_row.ensures.1;
    }
